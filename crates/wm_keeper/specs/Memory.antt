-- What a `MemoryKeeper` holds, and what a call does to it.
use Rattle.std.specs.Prelude.{◌≡◌, ◌==◌, ℕ, ◌+◌, ◌-◌, ◌^◌, min, Bool, false, List, Option, Some, if◌then◌else◌}
use Rattle.std.specs.List.{list_any}
use Rattle.wm_keeper.specs.Store.{Store}
use Rattle.wm_keeper.specs.declared.row.Row.{Row}

-- its rows, the name that it was last loaded with, the numbers of the calls that fail, and how many calls and faults there were
pub record MemoryState : Type 0 where
  pub rows : List Row
  pub name : Option (List ℕ)
  pub failing : List ℕ
  pub calls : ℕ
  pub faults : ℕ

-- the number of the next call: calls are counted from 1, and the count stands still at 2^64 - 1
abbrev pub next_call : MemoryState → ℕ
next_call keeper = min (keeper.calls + 1) (2 ^ 64 - 1)

-- whether the next call is one of those that fail
abbrev pub fails_next : MemoryState → Bool
fails_next keeper = list_any (λ number. number == next_call keeper) keeper.failing

-- a call was counted, and a fault where it was one of those that fail
pub record CountsCall (before after : MemoryState) : Type 0 where
  pub failing : after.failing ≡ before.failing
  pub calls : after.calls ≡ next_call before
  pub faults : after.faults ≡ (if fails_next before then min (before.faults + 1) (2 ^ 64 - 1) else before.faults)

-- it tells all that it holds, a crash leaves just that, and it is never lost
abbrev pub store_of : MemoryState → Store
store_of keeper = record { rows = Some keeper.rows; images = λ image. image ≡ keeper.rows; name = keeper.name; faults = keeper.faults; is_lost = false }
