use Rattle.std.proofs.Common.{rules, ◌≡◌, ◌∙◌, [], ◌∷◌, ◌++◌, length, refl, sym, ap, subst}
use mathlib.Core.List.{IsPrefix}
use Rattle.wm_callers.proofs.Helds.{called, entry_of, held-called, pass-called}
use Rattle.wm_callers.specs.Told.{told_of}
use Rattle.wm_seating.proofs.IdleTables.{idle-called}
use Rattle.wm_collections.specs.Lists.{last_of}
use Rattle.wm_collections.proofs.Lists.{last_of-push}
use Rattle.wm_machine.specs.declared.event.Event.TheVariants as event
use Rattle.wm_machine.proofs.Commands.{legal_line-asked}
use Rattle.wm_callers.proofs.Asking.{may_be}
use Rattle.wm_callers.specs.Rule.{all_of, own_of, with_call, IsDeskSeat, IsPassSeat}
use Rattle.wm_callers.proofs.held.carry.Goals as goal

pub returns-in-Ok-clause-held : goal.returns-in-Ok-clause-held
returns-in-Ok-clause-held g c =
    held-called g.J.DeskMark.desk (told_of g.K.Keeper.store c.args.table.now) (told_of g.K.Keeper.store c.command.new.self) c.args.callers.now.items c.push_reserved.new.self.items c.args.seat.now c.sign-place.new.desk
    c.args.calls.now.book.total c.add.new.self.book.total c.args.faults.now.book.total c.args.number c.args.line c.args.command c.in-Ok.reply c.requires.fits c.requires.held
    (search rules) (search rules) (subst (λ t. IsDeskSeat t c.sign-place.new.desk) c.requires.board c.sign-place.ensures.desk) (search rules) (search rules) (search rules)

pub returns-in-Ok-clause-pass : goal.returns-in-Ok-clause-pass
returns-in-Ok-clause-pass g c =
    let begins : IsPrefix (own_of c.args.its.now).seen (all_of c.args.seat.now) = rw (sym c.show.ensures.own, sym c.show.ensures.all) c.show.ensures.begins in
    let own : own_of c.sign-place.new.pass ≡ with_call (own_of c.args.its.now) (all_of c.args.seat.now ++ entry_of c.args.number c.args.line c.args.command c.in-Ok.reply ∷ []) c.sign-place.result = search rules in
    let place : c.sign-place.result ≡ length (all_of c.args.seat.now) = search rules in
    pass-called g.J.DeskMark.desk c.args.number c.sign-place.result c.args.its.now c.sign-place.new.pass (all_of c.args.seat.now)
    (entry_of c.args.number c.args.line c.args.command c.in-Ok.reply) c.args.made.now.parts c.add.new.share.parts c.args.made.now.amount c.add.new.share.amount
    c.args.met.now.parts c.requires.pass (subst (λ t. IsPassSeat t c.sign-place.new.pass) c.requires.board c.sign-place.ensures.pass) own place refl begins
    c.add.ensures.parts c.add.ensures.amount

pub returns-in-Ok-clause-ok : goal.returns-in-Ok-clause-ok
returns-in-Ok-clause-ok g c =
    let begins : IsPrefix (own_of c.args.its.now).seen (all_of c.args.seat.now) = rw (sym c.show.ensures.own, sym c.show.ensures.all) c.show.ensures.begins in
    let own : own_of c.sign-place.new.pass ≡ with_call (own_of c.args.its.now) (all_of c.args.seat.now ++ entry_of c.args.number c.args.line c.args.command c.in-Ok.reply ∷ []) c.sign-place.result = search rules in
    let place : c.sign-place.result ≡ length (all_of c.args.seat.now) = search rules in
    called c.args.number c.args.line c.args.met.now.amount c.args.command (record { place = c.sign-place.result; reply = c.in-Ok.reply }) c.args.its.now
    c.sign-place.new.pass (all_of c.args.seat.now) c.requires.pass.number_is begins own place c.requires.pass.own_places

pub command-requires : goal.command-requires
command-requires g c = record { legal = legal_line-asked c.args.table.now.state c.args.command c.requires.askable (may_be c.args.table.now.state c.args.command c.requires.fits) }

pub returns-in-Ok-clause-bench : goal.returns-in-Ok-clause-bench
returns-in-Ok-clause-bench g c =
    let last = ap last_of c.in-Ok.ensures.ok.appended ∙ last_of-push c.args.table.now.log (event.Command c.args.line c.args.command c.in-Ok.reply) in
    idle-called g.B.Worker.kind_of g.K.Keeper.store c.args.table.now c.command.new.self c.args.bench.now c.retire_last.new.bench c.args.line c.args.command c.in-Ok.reply
    c.requires.bench c.in-Ok.ensures.ok c.in-Ok.ensures.roll (c.retire_last.ensures c.args.line c.args.command c.in-Ok.reply last)
