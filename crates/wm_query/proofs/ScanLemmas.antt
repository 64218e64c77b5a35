-- Looking through the records and the instances of a state.
use Rattle.std.proofs.Common.{◌≡◌, ℕ, zero, suc, ◌+◌, ◌<◌, ◌≤◌, true, List, ◌∷◌, drop, filter, get_or, length, slice_get, Option, Some, None, IfSome, MatchOption, refl, arith}
use Rattle.std.specs.Option.{option_and_then}
use Rattle.std.proofs.lemmas.List.{drop_more}
use Rattle.wm_machine.specs.First.{earlier_of, first_of, is_startable, least}
use Rattle.wm_machine.specs.declared.record.Record.{Record}
use Rattle.wm_machine.specs.declared.state.State.{State}

-- the startable work from an index on that starts next
abbrev pub first_from : State → ℕ → Option Record
first_from s index = least (filter (is_startable s) (drop index s.works))

drop-at : (works : List Record) (i j : ℕ) (work : Record) → j ≡ i + 1 → i < length works → work ≡ get_or works i work → drop i works ≡ work ∷ drop j works
drop-at works i j work next below is = let e = drop_more works i work below in cc

-- with a startable work more, the first is the earlier of it and the first so far
pub first_from-startable : (s : State) (i j : ℕ) (work : Record) → j ≡ i + 1 → i < length s.works → work ≡ get_or s.works i work → is_startable s work ≡ true
    → first_from s i ≡ Some (earlier_of work (first_from s j))
first_from-startable s i j work next below is startable = rw (drop-at s.works i j work next below is) (rw startable refl)

-- the first work from the beginning on is the first of all
pub first_of-at : (s : State) (index : ℕ) (first : Option ℕ) → index ≤ 0 → first_from s index ≡ option_and_then (slice_get s.works) first
    → IfSome first (λ i. i < length s.works) → MatchOption first (first_of s ≡ None) (λ i. (i < length s.works) × (first_of s ≡ slice_get s.works i))
unfolding first_of
first_of-at s zero None begun is within = is
first_of-at s zero (Some i) begun is within = (within, is)
first_of-at s (suc index) first begun is within = absurd (omega arith)
