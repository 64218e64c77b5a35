use Rattle.std.proofs.Common.{◌||◌, ◌==◌, Some, ap, refl, subst, sym, ◌∙◌}
use Rattle.std.proofs.Math.Bool.{or-false}
use Rattle.std.specs.Str.{bytes_eq}
use Rattle.std.specs.String.{string_bytes}
use Rattle.std.proofs.lemmas.Result.{on_ok_weaker}
use Rattle.wm_collections.specs.Lists.{is_among}
use Rattle.wm_index.proofs.Tables.{joined-others, numbers-found, others-kept, set-joined, set-others}
use Rattle.wm_index.specs.Groups.{has, IsJoined}
use Rattle.wm_index.proofs.groups.join.Goals as goal

pub returns-in-Some-clause-ok : goal.returns-in-Some-clause-ok
returns-in-Some-clause-ok c =
    let found = sym c.in-Some.ensures.value in
    let updates = (c.get_mut.follows.holds c.insert.new.self).3 (rw found refl) in
    on_ok_weaker c.insert.result
    (λ more. set-joined c.args.text.now c.args.groups.now (c.get_mut.follows.lender c.insert.new.self) (Some c.insert.new.self) updates c.args.seq
    (λ number. more number ∙ ap (λ list. is_among list number || c.args.seq == number) (sym (numbers-found c.args.text.now c.args.groups.now c.in-Some.group.now found))))
    c.insert.ensures.ok

pub returns-in-Some-clause-others : goal.returns-in-Some-clause-others
returns-in-Some-clause-others c =
    let found = sym c.in-Some.ensures.value in
    let updates = (c.get_mut.follows.holds c.insert.new.self).3 (rw found refl) in
    set-others c.args.text.now c.args.groups.now (c.get_mut.follows.lender c.insert.new.self) (Some c.insert.new.self) c.args.seq updates
    (λ number other. others-kept c.insert.result c.args.seq c.in-Some.group.now c.insert.new.self c.insert.ensures.ok c.insert.ensures.err number other
    ∙ ap (λ list. is_among list number) (sym (numbers-found c.args.text.now c.args.groups.now c.in-Some.group.now found)))

pub returns-clause-ok : goal.returns-clause-ok
returns-clause-ok c =
    let key = c.in_ok-from_str.field-0 in
    let is = c.in_ok-from_str.ensures.ok in
    let none = sym (rw c.in_default.is at c.get_mut.ensures.value) in
    let updates = rw c.get_mut.follows.holds-at-none at c.in_ok-insert.ensures.updates in
    subst (λ text. IsJoined (bytes_eq text) c.args.seq (has c.args.groups.now) (has c.insert-2.new.self)) is
    (set-joined (string_bytes key) c.args.groups.now c.insert-2.new.self (Some c.in_ok-group.group) updates c.args.seq
    (λ number. rw (c.in_ok-group.ensures, is, none) (or-false (c.args.seq == number))))

pub returns-clause-others : goal.returns-clause-others
returns-clause-others c = joined-others (bytes_eq c.args.text.now) c.args.seq (has c.args.groups.now) (has c.insert-2.new.self) (returns-clause-ok c)
