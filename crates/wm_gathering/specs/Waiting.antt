-- How the changes that wait are found.
use Rattle.std.specs.Prelude.{◌≡◌, ℤ, List}
use Rattle.std.specs.List.{AllByRecursion}
use Rattle.wm_keeper.specs.Keeper.{changed_number}
use Rattle.wm_keeper.specs.declared.row.Change.{Change}

-- each stands under the number that it is about
abbrev pub AreByNumber : List (ℤ × Change) → Type 0
AreByNumber entries = AllByRecursion (λ entry. entry.0 ≡ changed_number entry.1) entries
