use Rattle.std.proofs.Common.{ap, rules, ◌∙◌}
use Rattle.wm_collections.specs.Lists.{is_among}
use Rattle.wm_index.proofs.Numbers.{found-among, insert-among, inserted-group, same-among, searchable}
use Rattle.wm_index.proofs.group.Group.insert.Goals as goal

pub invariant_of-self : goal.invariant_of-self
invariant_of-self c =
    let numbers = c.self.inside.numbers.items in
    rw (c.in_ok-insert.ensures.items)
    (inserted-group numbers c.in-Err.place c.args.seq (search rules) ((rw c.deref.ensures.value at c.in-Err.ensures.position) (searchable c.args.seq numbers c.self.invariant.ascending)) c.self.invariant.ascending)

pub returns-in_ok-insert-clause-ok : goal.returns-in_ok-insert-clause-ok
returns-in_ok-insert-clause-ok c number =
    ap (λ list. is_among list number) c.in_ok-insert.ensures.items ∙ rw (← c.self.view_is) (insert-among c.self.inside.numbers.items c.in-Err.place c.args.seq number)

pub returns-in_default-clause-ok : goal.returns-in_default-clause-ok
returns-in_default-clause-ok c number =
    let numbers = c.self.inside.numbers.items in
    rw (← c.self.view_is) (same-among numbers c.args.seq number (found-among numbers c.in_default.field-0 c.args.seq (search rules) (rw c.deref.ensures.value at c.in_default.ensures.ok)))
