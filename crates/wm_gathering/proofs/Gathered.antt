-- That the rows of a keeper that gathers ascend.
use Rattle.std.proofs.Common.{List, Option, Some, None}
use Rattle.std.specs.Prelude.{IfSome, option_map}
use Rattle.wm_gathering.proofs.Merging.{changed-Ascends}
use Rattle.wm_keeper.proofs.Stores.{IfSome-still}
use Rattle.wm_keeper.specs.Keeper.{Ascends, changed}
use Rattle.wm_keeper.specs.Store.{IsAtMost}
use Rattle.wm_keeper.specs.declared.row.Change.{Change}
use Rattle.wm_keeper.specs.declared.row.Row.{Row}

-- with the waiting changes made
pub ascending-gathered : (waiting : List Change) (told : Option (List Row)) → IfSome told Ascends → IfSome (option_map (changed waiting) told) Ascends
ascending-gathered waiting (Some rows) up = changed-Ascends waiting rows up
ascending-gathered waiting None up = tt

-- and once these were committed
pub ascending-committed : (waiting : List Change) (told now : Option (List Row)) → IfSome told Ascends → IsAtMost (option_map (changed waiting) told) now
    → IfSome now Ascends
ascending-committed waiting told now up at = IfSome-still Ascends (option_map (changed waiting) told) now (ascending-gathered waiting told up) at
