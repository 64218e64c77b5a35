use Rattle.std.proofs.Common.{◌≡◌, ◌∙◌, ◌≤◌, length, reverse, sym, ap, subst}
use Rattle.std.specs.Prelude.{vec_capacity}
use Rattle.std.proofs.lemmas.List.{length-map, length-reverse, reverse-reverse}
use Rattle.wm_callers.specs.PassState.{PassState}
use Rattle.wm_callers.specs.Told.{told_of}
use Rattle.wm_callers_program.proofs.Dealing.{numbers-length}
use Rattle.wm_callers_program.proofs.Histories.{called-out, passes-ascend}
use Rattle.wm_callers_program.proofs.Servings.{all-served, numbers-served}
use Rattle.wm_callers_program.specs.Lines.{numbers_from}
use Rattle.wm_callers_program.specs.declared.caller.Caller.{Caller}
use Rattle.wm_callers_program.proofs.calling.call_at.Goals as goal

pub part-passes-requires-clause-room : goal.part-passes-requires-clause-room
part-passes-requires-clause-room g c =
    let own : Caller g.row.J.Denot → _ = λ caller. caller.pass.number in
    let served = c.serve-callers.result.items in
    let numbers = numbers-served c.pair-callers.result.items served c.serve-callers.ensures ∙ c.pair-callers.ensures.numbers in
    let count : length served ≡ c.args.count = sym (length-map served own) ∙ ap length numbers ∙ length-reverse (numbers_from 0 c.args.count) ∙ numbers-length 0 c.args.count in
    subst (λ n. n ≤ vec_capacity c.args.rooms.passes) (sym count) c.requires.pass_room

pub close-requires-clause-all : goal.close-requires-clause-all
close-requires-clause-all g c =
    let own : PassState → _ = λ p. p.number in
    let numbers = c.part-passes.ensures.numbers ∙ ap reverse (numbers-served c.pair-callers.result.items c.serve-callers.result.items c.serve-callers.ensures ∙ c.pair-callers.ensures.numbers) ∙ reverse-reverse (numbers_from 0 c.args.count) in
    sym (length-map c.part-passes.result.0.items own) ∙ ap length numbers ∙ numbers-length 0 c.args.count ∙ sym c.requires.callers

pub close-requires-clause-ascending : goal.close-requires-clause-ascending
close-requires-clause-ascending g c =
    let numbers = c.part-passes.ensures.numbers ∙ ap reverse (numbers-served c.pair-callers.result.items c.serve-callers.result.items c.serve-callers.ensures ∙ c.pair-callers.ensures.numbers) ∙ reverse-reverse (numbers_from 0 c.args.count) in
    passes-ascend c.args.count c.part-passes.result.0.items numbers

pub returns-clause-called : goal.returns-clause-called
returns-clause-called g c lines dealt =
    let numbers = c.part-passes.ensures.numbers ∙ ap reverse (numbers-served c.pair-callers.result.items c.serve-callers.result.items c.serve-callers.ensures ∙ c.pair-callers.ensures.numbers) ∙ reverse-reverse (numbers_from 0 c.args.count) in
    let served = all-served c.args.count lines c.pair-callers.result.items c.serve-callers.result.items c.serve-callers.ensures (c.pair-callers.ensures.ready lines dealt) in
    called-out g.J.DeskMark.desk c.part-passes.result.0.items c.close.result.callers.items (told_of g.K.Keeper.store c.close.result.table) c.args.count lines c.part-passes.result.1
    c.close.ensures.closed (c.part-passes.ensures.called c.args.count lines served) numbers
