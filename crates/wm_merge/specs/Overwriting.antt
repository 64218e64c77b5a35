-- What the merger Overwriting makes of inputs: a key is there exactly where some input has it, and its value is that of the last input that
-- has it. After `androidx.work.OverwritingInputMerger`.
use Rattle.std.specs.Prelude.{List}
use Rattle.wm_collections.specs.Lists.{last_of}
use Rattle.wm_data.specs.declared.data.DataEntry.{DataEntry}
use Rattle.wm_merge.specs.Inputs.{all_entries, by_key}

abbrev pub overwritten : List (List DataEntry) → List DataEntry
overwritten inputs = by_key last_of (all_entries inputs)
