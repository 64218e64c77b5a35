use Rattle.std.proofs.Common.{◌≡◌, ◌++◌, List, ℕ, drop, Result, Ok}
use Rattle.serde_json.specs.View.{items_view}
use Rattle.wm_data.specs.DataRead.{item_list}
use Rattle.wm_machine.specs.declared.command.LineFault.{LineFault}
use Rattle.wm_serve_text.specs.Parts.{◌>>=◌, each_run}
use Rattle.wm_serve_text.proofs.parts.each_run.Given as goal

-- the names so far, in front of those of the items that are left, are all
abbrev onto : List (List ℕ) → Result (List (List ℕ)) LineFault → Result (List (List ℕ)) LineFault
onto runs left = left >>= λ more. Ok (runs ++ more)

abbrev pub invariant-loop-item : goal.invariant-loop-item
invariant-loop-item l = onto l.runs (each_run (item_list (items_view (drop l.item-index l.items)))) ≡ each_run (item_list (items_view l.items))
