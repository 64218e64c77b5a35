-- The place of the work that is first, found by its number.
use Rattle.std.proofs.Common.{◌≡◌, ℕ, ◌<◌, length, slice_get, Option, Some, None, refl, sym, ◌∙◌, ap, subst}
use Rattle.std.specs.Prelude.{IsSomeAnd, MatchOption}
use Rattle.wm_collections.specs.Lists.{AllLater}
use Rattle.wm_machine.proofs.Firsts.{first_of-stored}
use Rattle.wm_machine.proofs.Runnings.{WorksAscend-in_order}
use Rattle.wm_machine.specs.First.{first_of}
use Rattle.wm_machine.specs.Input.{work_numbered}
use Rattle.wm_machine.specs.Valid.{IsBefore}
use Rattle.wm_machine.specs.declared.record.Record.{Record}
use Rattle.wm_machine.specs.declared.state.State.{State}
use Rattle.wm_steps.proofs.Moves.{numbered-stored}

numbered-as : (s : State) (number : ℕ) → AllLater IsBefore s.works → (found : Option Record) → first_of s ≡ found → IsSomeAnd found (λ work. work.seq ≡ number)
    → work_numbered number s.works ≡ first_of s
numbered-as s number order None none same = absurd same
numbered-as s number order (Some work) is same =
    ap (λ n. work_numbered n s.works) (sym same) ∙ numbered-stored s.works work (WorksAscend-in_order s.works order) (first_of-stored s work is) ∙ sym is

-- the record of the first one's number is the first
pub first-numbered : (s : State) (number : ℕ) → AllLater IsBefore s.works → IsSomeAnd (first_of s) (λ work. work.seq ≡ number)
    → work_numbered number s.works ≡ first_of s
first-numbered s number order is = numbered-as s number order (first_of s) refl is

pub first-place : (s : State) (number : ℕ) (index : Option ℕ) → AllLater IsBefore s.works → IsSomeAnd (first_of s) (λ work. work.seq ≡ number)
    → MatchOption index (work_numbered number s.works ≡ None) (λ i. (i < length s.works) × (work_numbered number s.works ≡ slice_get s.works i))
    → MatchOption index (first_of s ≡ None) (λ i. (i < length s.works) × (first_of s ≡ slice_get s.works i))
first-place s number index order is found =
    subst (λ (of : Option Record). MatchOption index (of ≡ None) (λ i. (i < length s.works) × (of ≡ slice_get s.works i))) (first-numbered s number order is) found
