-- What a `SureKeeper` shows.
use Rattle.std.specs.Prelude.{◌≡◌, false, List, Some, None}
use Rattle.wm_keeper.specs.Store.{Store}
use Rattle.wm_keeper.specs.declared.row.Row.{Row}

-- it tells all its rows, a crash leaves just those, and it is never lost; it doesn't tell a name, and meets no fault
abbrev pub store_of : List Row → Store
store_of rows = record { rows = Some rows; images = λ image. image ≡ rows; name = None; faults = 0; is_lost = false }
