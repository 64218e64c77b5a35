-- The records that are removed in one pass are those that are removed one after another.
use Rattle.std.proofs.Common.{◌≡◌, ◌&&◌, ◌||◌, ℕ, Bool, true, false, not, eqb, List, [], ◌∷◌, filter, length, refl, sym, ◌∙◌, ap, arith, inl, inr}
use Rattle.std.specs.List.Sorted.{IsPermutation}
use Rattle.std.proofs.lemmas.Bool.{cases_Bool}
use Rattle.wm_collections.proofs.Lists.{All-any, filter-all, filter-same}
use Rattle.wm_collections.specs.Lists.{is_among}
use Rattle.wm_changes.specs.StepChanges.{other_works, without}
use Rattle.wm_graph.proofs.ListedNumbers.{sorted-among}
use Rattle.wm_graph.proofs.Tests.{eq-swap}
use Rattle.wm_machine.specs.declared.record.Record.{Record}

-- whether a record isn't removed
abbrev kept : List ℕ → Record → Bool
kept removed work = not (is_among removed work.seq)

-- what passes two tests, one after the other
filter-both : (one other : Record → Bool) (works : List Record) → filter other (filter one works) ≡ filter (λ work. one work && other work) works
filter-both one other [] = refl
filter-both one other (work ∷ works) = elim (cases_Bool (one work)) [
  | inl e ↦ rw (e, filter-both one other works) refl
  | inr e ↦ rw (e, filter-both one other works) refl
]

not-or : (a b : Bool) → (not a && not b) ≡ not (a || b)
not-or true b = refl
not-or false b = refl

-- records without those of these numbers, one number after another
pub without-kept : (numbers : List ℕ) (works : List Record) → without numbers works ≡ filter (λ work. not (is_among numbers work.seq)) works
without-kept [] works = sym (filter-all (kept []) works (λ work. refl))
without-kept (number ∷ numbers) works =
    without-kept numbers (other_works number works) ∙ filter-both (λ work. not (eqb work.seq number)) (kept numbers) works
    ∙ filter-same (λ work. not (eqb work.seq number) && kept numbers work) (kept (number ∷ numbers)) works (All-any works
    (λ work. ap (λ b. not b && kept numbers work) (eq-swap work.seq number) ∙ not-or (eqb number work.seq) (is_among numbers work.seq)))

-- in whichever order their numbers stand
pub removed-sorted : (removed sorted : List ℕ) (works : List Record) → IsPermutation removed sorted
    → filter (λ work. not (is_among sorted work.seq)) works ≡ without removed works
removed-sorted removed sorted works moved =
    filter-same (kept sorted) (kept removed) works (All-any works (λ work. ap not (sorted-among removed sorted work.seq moved)))
    ∙ sym (without-kept removed works)

-- and where there is none
pub none-removed : (removed : List ℕ) (works : List Record) → length removed ≡ 0 → works ≡ without removed works
none-removed [] works none = refl
none-removed (number ∷ removed) works none = absurd (omega (arith, none))
