use Rattle.std.proofs.Common.{◌≡◌, take}
use Rattle.serde_json.specs.View.{members_view}
use Rattle.wm_data.specs.DataJson.{entries_json}
use Rattle.wm_data.proofs.written.entries_to_json.Given as goal

-- the entries so far
abbrev pub invariant-loop-entry : goal.invariant-loop-entry
invariant-loop-entry l = members_view l.members.entries ≡ entries_json (take l.entry-index l.entries)
