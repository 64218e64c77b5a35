-- The works whose runs new conditions stop.
use Rattle.std.specs.Prelude.{ℕ, List, map, filter, if◌then◌else◌, Option, Some, None}
use Rattle.wm_conditions.specs.declared.conditions.Conditions.{Conditions}
use Rattle.wm_machine.specs.Settings.{is_put_back_by, is_stopped_by, put_back}
use Rattle.wm_machine.specs.declared.record.Record.{Record}
use Rattle.wm_machine.specs.declared.state.Run.{Run}
use Rattle.wm_changes.specs.Replacements.{replacements}
use Rattle.wm_changes.specs.declared.change.Replacement.{Replacement}

-- the numbers of the runs that such conditions stop
abbrev pub stopped_under : Conditions → List Run → List ℕ
stopped_under conditions runs = map (λ run. run.run) (filter (is_stopped_by conditions) runs)

-- what takes the place of a record; nothing where none of its runs is stopped
abbrev pub put_back_where : Conditions → List Run → Record → Option Record
put_back_where conditions runs work = if is_put_back_by conditions runs work then Some (put_back work) else None

abbrev pub put_back_by : Conditions → List Run → List Record → List Replacement
put_back_by conditions runs works = replacements (put_back_where conditions runs) 0 works
