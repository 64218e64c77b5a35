-- The exit status and the text of each way that a run ends.
use Rattle.std.specs.Fmt.{signed_decimal}
use Rattle.std.specs.Prelude.{ℕ, ℤ, Bool, List, [], ◌++◌, codes, if◌then◌else◌}
use Rattle.wm_ended.specs.declared.status.Status.{Status}
use Rattle.wm_ended.specs.declared.status.Status.TheVariants as status
use Rattle.wm_script.specs.declared.limits.Limit.{Limit}
use Rattle.wm_script.specs.declared.limits.Limit.TheVariants.{Bytes, Line, Lines}

-- the exit status of the program
abbrev pub code_of : Status → ℕ
code_of status.Done = 0
code_of status.Usage = 2
code_of status.SourceFault = 3
code_of status.SinkFault = 4
code_of status.KeeperFault = 5
code_of (status.BadStore seq bad_row) = 6
code_of (status.ScriptTooLong limit) = 7
code_of status.Memory = 8

abbrev pub limit_name : Limit → List ℕ
limit_name Bytes = codes "bytes"
limit_name Line = codes "line"
limit_name Lines = codes "lines"

-- what is wrong with a stored row
abbrev pub row_fault_name : Bool → List ℕ
row_fault_name bad_row = if bad_row then codes "bad row" else codes "unsound"

abbrev pub bad_store_text : ℤ → Bool → List ℕ
bad_store_text seq bad_row =
    codes "bad store: row " ++ (signed_decimal seq ++ (codes ": " ++ row_fault_name bad_row))

-- what is written on standard error, without the line's end
abbrev pub status_text : Status → List ℕ
status_text status.Done = []
status_text status.Usage = codes "usage: work --store NAME [--workers N] [--generate SEED]"
status_text status.SourceFault = codes "read failed"
status_text status.SinkFault = codes "write failed"
status_text status.KeeperFault = codes "store failed"
status_text (status.BadStore seq bad_row) = bad_store_text seq bad_row
status_text (status.ScriptTooLong limit) = codes "script too long: " ++ limit_name limit
status_text status.Memory = codes "out of memory"
