use Rattle.std.proofs.Common.{ℕ, Bool, ap, filter, not, sym, ◌∙◌}
use Rattle.std.proofs.lemmas.List.{take_all}
use Rattle.std.specs.BTreeSet.{contains}
use Rattle.std.specs.Ordering.{nat_cmp}
use Rattle.wm_collections.proofs.Lists.{All-any, filter-same}
use Rattle.wm_unique.proofs.Numbered.{numbers_passing}
use Rattle.wm_unique.proofs.NumberSets.{left-with, left-without}
use Rattle.wm_unique.specs.Plans.{grouped, is_prior_number}
use Rattle.wm_unique.proofs.members.leaves.Goals as goal
use Rattle.wm_unique.proofs.members.leaves.Goals.{then-not-contains+in_ok-push, else-not-contains}

pub loop-number-preserved : goal.loop-number-preserved
loop-number-preserved c =
    let group = c.args.group.now in
    let index = c.loop-number.number-index in
    let is_left : ℕ → Bool = λ number. not (contains nat_cmp c.in_ok-prior.prior number) in
    elim c.if-not-contains.branch [
      | then-not-contains+in_ok-push w ↦ rw w.numbers-is (w.in_ok-push.ensures.ok
          ∙ left-with is_left group index c.loop-number-test.true c.loop-number.numbers c.loop-number.invariant (ap not (sym c.contains.ensures ∙ w.if-not-contains.true)))
      | else-not-contains w ↦ rw w.numbers-is (left-without is_left group index c.loop-number-test.true c.loop-number.numbers
          c.loop-number.invariant (ap not (sym c.contains.ensures ∙ w.if-not-contains.false)))
    ]

pub returns : goal.returns
returns c =
    let group = c.args.group.now in
    let members = grouped c.args.works.now group in
    let is_left : ℕ → Bool = λ number. not (contains nat_cmp c.in_ok-prior.prior number) in
    let is_leaf : ℕ → Bool = λ number. not (is_prior_number members number) in
    c.loop-number.invariant ∙ ap (filter is_left) (take_all c.loop-number.number-index group c.loop-number-test.false)
    ∙ filter-same is_left is_leaf group (All-any group (λ number. ap not (c.in_ok-prior.ensures number)))
    ∙ ap (filter is_leaf) c.requires.group ∙ numbers_passing is_leaf members
