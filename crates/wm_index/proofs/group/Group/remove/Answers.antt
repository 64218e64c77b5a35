use Rattle.std.proofs.Common.{ap, rules, ◌∙◌}
use Rattle.wm_collections.specs.Lists.{is_among}
use Rattle.wm_index.proofs.Numbers.{absent-among, absent-left, removed-among, removed-group, searchable}
use Rattle.wm_index.proofs.group.Group.remove.Goals as goal

pub invariant_of-self : goal.invariant_of-self
invariant_of-self c =
    let numbers = c.self.inside.numbers.items in
    rw (c.remove.ensures.items)
    (removed-group numbers c.in-Ok.place c.args.seq (search rules) (rw c.deref.ensures.value at c.in-Ok.ensures.ok) (rw (← c.self.view_is) at c.requires.others) c.self.invariant.ascending)

pub returns-in-Ok : goal.returns-in-Ok
returns-in-Ok c number =
    ap (λ list. is_among list number) c.remove.ensures.items
    ∙ rw (← c.self.view_is) (removed-among c.self.inside.numbers.items c.in-Ok.place c.args.seq number (search rules) (rw c.deref.ensures.value at c.in-Ok.ensures.ok) c.self.invariant.ascending)

pub returns-in_default : goal.returns-in_default
returns-in_default c number =
    let numbers = c.self.inside.numbers.items in
    rw (← c.self.view_is) (absent-left numbers c.args.seq number (absent-among numbers c.in_default.field-0 c.args.seq (search rules)
    ((rw c.deref.ensures.value at c.in_default.ensures.position) (searchable c.args.seq numbers c.self.invariant.ascending))))
