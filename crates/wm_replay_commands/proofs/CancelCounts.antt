-- How many works become finished, where some are closed.
use Rattle.std.proofs.Common.{◌≡◌, ℕ, ◌+◌, ◌-◌, ◌≤◌, Bool, true, List, [], ◌∷◌, map, refl, ap, arith, inl, inr}
use Rattle.std.specs.List.{count_by, list_any}
use Rattle.std.proofs.lemmas.Bool.{and_parts, cases_Bool, or_cases}
use Rattle.wm_collections.proofs.Lists.{count-cons, weight}
use Rattle.wm_machine.proofs.Groups.{closed_by, works_closed-at_once}
use Rattle.wm_machine.specs.Cancelled.{count_reached}
use Rattle.wm_machine.specs.Closed.{is_reached, with_works_closed}
use Rattle.wm_machine.specs.Plan.{is_unfinished}
use Rattle.wm_machine.specs.declared.record.How.{How}
use Rattle.wm_machine.specs.declared.record.Record.{Record}
use Rattle.wm_machine.specs.declared.state.State.{State}

-- whether one of these works reaches a record
abbrev reaches : List ℕ → List Record → Record → Bool
reaches seqs all work = list_any (λ seq. is_reached seq all work) seqs

-- a record that is reached is unfinished
reached-unfinished : (seqs : List ℕ) (all : List Record) (work : Record) → reaches seqs all work ≡ true → is_unfinished work ≡ true
unfolding is_reached
reached-unfinished [] all work is = absurd (cc)
reached-unfinished (seq ∷ seqs) all work is =
    elim (or_cases (is_reached seq all work) (reaches seqs all work) is) [
      | inl here ↦ (and_parts _ _ here).0
      | inr there ↦ reached-unfinished seqs all work there
    ]

weights : (how : How) (now : ℕ) (seqs : List ℕ) (all : List Record) (work : Record)
    → weight (is_unfinished work) ≡ weight (reaches seqs all work) + weight (is_unfinished (closed_by how now seqs all work))
weights how now seqs all work =
    elim (cases_Bool (reaches seqs all work)) [
      | inl e ↦ let before = reached-unfinished seqs all work e in rw (before, e) refl
      | inr e ↦ rw e (omega arith)
    ]

counts : (how : How) (now : ℕ) (seqs : List ℕ) (all works : List Record)
    → count_by is_unfinished works ≡ count_by (reaches seqs all) works + count_by is_unfinished (map (closed_by how now seqs all) works)
counts how now seqs all [] = refl
counts how now seqs all (work ∷ works) =
    let then = closed_by how now seqs all in
    omega (
      arith,
      count-cons is_unfinished work works,
      count-cons (reaches seqs all) work works,
      count-cons is_unfinished (then work) (map then works),
      weights how now seqs all work,
      counts how now seqs all works,
    )

-- as many become finished as there are unfinished ones fewer
pub count-closed : (how : How) (seqs : List ℕ) (s : State)
    → count_by is_unfinished s.works - count_by is_unfinished (with_works_closed how seqs s).works ≡ count_reached seqs s.works
count-closed how seqs s =
    let all = counts how s.now seqs s.works s.works in
    let left = ap (count_by is_unfinished) (works_closed-at_once how seqs s) in
    omega (arith, all, left)

-- and none becomes unfinished
pub count-fewer : (how : How) (seqs : List ℕ) (s : State)
    → count_by is_unfinished (with_works_closed how seqs s).works ≤ count_by is_unfinished s.works
count-fewer how seqs s =
    let all = counts how s.now seqs s.works s.works in
    let left = ap (count_by is_unfinished) (works_closed-at_once how seqs s) in
    omega (arith, all, left)
