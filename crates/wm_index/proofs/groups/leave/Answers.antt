use Rattle.std.proofs.Common.{◌&&◌, ◌==◌, not, None, Some, ap, refl, sym, ◌∙◌}
use Rattle.wm_collections.specs.Lists.{is_among}
use Rattle.wm_index.specs.Groups.{numbers_at}
use Rattle.wm_index.proofs.Tables.{just-gone, numbers-found, set-parted}
use Rattle.wm_index.proofs.groups.leave.Goals as goal

pub returns-then-is_alone : goal.returns-then-is_alone
returns-then-is_alone c =
    set-parted c.args.text.now c.args.groups.now c.remove.new.self None c.remove.ensures.updates c.args.seq
    (λ number. just-gone (numbers_at c.args.groups.now c.args.text.now) c.args.seq number (sym c.is_alone.ensures ∙ c.if-is_alone.true))

pub returns-in-Some : goal.returns-in-Some
returns-in-Some c =
    let found = sym c.in-Some.ensures.value in
    let updates = (c.get_mut.follows.holds c.remove-in-Some.new.self).3 (rw found refl) in
    set-parted c.args.text.now c.args.groups.now (c.get_mut.follows.lender c.remove-in-Some.new.self) (Some c.remove-in-Some.new.self) updates c.args.seq
    (λ number. c.remove-in-Some.ensures number
    ∙ ap (λ list. is_among list number && not (c.args.seq == number)) (sym (numbers-found c.args.text.now c.args.groups.now c.in-Some.group.now found)))
