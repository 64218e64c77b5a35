-- The moment at which a state wakes, computed, is the one at which it does.
use Rattle.std.proofs.Common.{◌≡◌, ℕ, ◌==◌, ◌≤◌, ◌&&◌, true, List, [], ◌∷◌, map, filter, refl, sym, ◌∙◌, ap, subst, arith, Option, Some, None, inl, inr, eq-eqb, eqb-true, le_antisymm, MatchOption}
use Rattle.std.proofs.lemmas.Bool.{and_parts, cases_lt, false_from_ne_true, false≢true, or_left, or_right}
use Rattle.std.proofs.Math.Nat.{min-eq_left, min-eq_right}
use Rattle.std.specs.List.{AllByRecursion, list_any}
use Rattle.wm_collections.proofs.Lists.{All-from_filter, All-unmap, All-weaker, any_passes, list_any-kept, list_any_after, HasOne-weaker, one_gives}
use Rattle.wm_hearings.specs.Moments.{least, wake_of}
use Rattle.wm_leases.specs.Leases.{lesser}
use Rattle.wm_machine.specs.Due.{due_of}
use Rattle.wm_machine.specs.declared.state.State.{State}
use Rattle.wm_steps.specs.Wakes.{waits_for_its_moment, IsLeastDue, IsWakeOf}

-- ---- the least of some moments

-- one of them, and none is less
record IsLeast (moments : List ℕ) (moment : ℕ) : Type 0 where
  there : list_any (λ other. other == moment) moments ≡ true
  least_is : AllByRecursion (λ other. moment ≤ other) moments

least-with : (first : ℕ) (moments : List ℕ) (found : Option ℕ) → MatchOption found (moments ≡ []) (IsLeast moments)
    → MatchOption (lesser (Some first) found) (first ∷ moments ≡ []) (IsLeast (first ∷ moments))
least-with first moments None none = record {
  there = or_left (first == first) (list_any (λ other. other == first) moments) (eq-eqb first first refl);
  least_is = rw none (omega arith, tt);
}
least-with first moments (Some moment) is = elim (cases_lt first moment) [
  | inl below ↦
      let less : first ≤ moment = omega (arith, below) in
      rw (min-eq_left less) record {
        there = or_left (first == first) (list_any (λ other. other == first) moments) (eq-eqb first first refl);
        least_is = (omega arith, All-weaker moments (λ other above. omega (arith, less, above)) is.least_is);
      }
  | inr above ↦ rw (min-eq_right above) record {
    there = or_right (first == moment) (list_any (λ other. other == moment) moments) is.there;
    least_is = (above, is.least_is);
  }
]

least-is : (moments : List ℕ) → MatchOption (least moments) (moments ≡ []) (IsLeast moments)
least-is [] = refl
least-is (first ∷ moments) = least-with first moments (least moments) (least-is moments)

-- ---- the least moment at which a work is due that waits for it

abbrev awaited : State → List ℕ
awaited s = map due_of (filter (waits_for_its_moment s) s.works)

none-awaited : {T U : Type 0} (f : T → U) (xs : List T) → map f xs ≡ [] → xs ≡ []
none-awaited f [] none = refl
none-awaited f (x ∷ xs) none = absurd (cc)

wake-with : (s : State) (wake : Option ℕ) → MatchOption wake (awaited s ≡ []) (IsLeast (awaited s)) → IsWakeOf s wake
wake-with s None none =
    let test = waits_for_its_moment s in
    All-weaker s.works (λ work fails. false_from_ne_true (test work) fails)
    (All-from_filter (λ work. ⊥) test s.works (rw (none-awaited due_of (filter test s.works) none) tt))
wake-with s (Some moment) is =
    let test = waits_for_its_moment s in record {
      there = HasOne-weaker s.works (λ work both. let parts = and_parts _ _ both in (parts.1, eqb-true (due_of work) moment parts.0))
          (any_passes (λ work. (due_of work == moment) && test work) s.works
          (sym (list_any-kept (λ work. due_of work == moment) test s.works)
          ∙ sym (list_any_after (λ other. other == moment) due_of (filter test s.works))
          ∙ is.there));
      least = All-weaker s.works (λ work least waits. least waits)
          (All-from_filter (λ work. moment ≤ due_of work) test s.works
          (All-unmap (λ other. moment ≤ other) due_of (filter test s.works) is.least_is));
    }

pub wake-computed : (s : State) → IsWakeOf s (wake_of s)
unfolding wake_of
wake-computed s = wake-with s (wake_of s) (least-is (awaited s))

-- ---- there is one such moment

least-below : (s : State) (one other : ℕ) → IsLeastDue s one → IsLeastDue s other → one ≤ other
least-below s one other least due =
    one_gives s.works (λ work above is. subst (λ moment. one ≤ moment) is.1 (above is.0)) least.least due.there

one-wake : (s : State) (one other : Option ℕ) → IsWakeOf s one → IsWakeOf s other → one ≡ other
one-wake s None None none also = refl
one-wake s None (Some other) none due = absurd (one_gives s.works (λ work fails is. false≢true (sym fails ∙ is.0)) none due.there)
one-wake s (Some one) None due none = absurd (one_gives s.works (λ work fails is. false≢true (sym fails ∙ is.0)) none due.there)
one-wake s (Some one) (Some other) least due = ap Some (le_antisymm (least-below s one other least due) (least-below s other one due least))

pub wake-one : (s : State) (wake : Option ℕ) → IsWakeOf s wake → wake ≡ wake_of s
wake-one s wake is = one-wake s wake (wake_of s) is (wake-computed s)
