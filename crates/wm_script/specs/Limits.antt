-- The limits of a script, and which one it passes.
use Rattle.std.specs.Prelude.{◌≡◌, ℕ, ◌<◌, Bool, List, length, nat_lt, if◌then◌else◌, Option, Some, None}
use Rattle.std.specs.List.{list_any}
use Rattle.wm_script.specs.Lines.{cut}
use Rattle.wm_script.specs.declared.limits.Limit.{Limit}
use Rattle.wm_script.specs.declared.limits.Limit.TheVariants as limit
use Rattle.wm_script.specs.declared.limits.ScriptFault.{ScriptFault}
use Rattle.wm_script.specs.declared.limits.ScriptFault.TheVariants.{TooLong, Memory}

-- the most bytes that a script has
abbrev pub most_script_bytes : ℕ
most_script_bytes = 16777216

-- a line has more bytes than it may have, without its LF
abbrev pub is_long : List ℕ → Bool
is_long line = nat_lt 1048576 (length line)

-- the first limit that a script passes: on its bytes, then on the bytes of a line, then on its lines
unfoldable pub first_limit : List ℕ → Option Limit
first_limit bytes =
    if nat_lt most_script_bytes (length bytes) then Some limit.Bytes
    else if list_any is_long (cut bytes) then Some limit.Line
    else if nat_lt 100000 (length (cut bytes)) then Some limit.Lines
    else None

-- a script of these bytes has this fault: it passes that limit first, or passes none and memory was refused for its lines
abbrev pub IsFaultOf : List ℕ → ScriptFault → Type 0
IsFaultOf bytes (TooLong limit) = first_limit bytes ≡ Some limit
IsFaultOf bytes Memory = (0 < length bytes) × (first_limit bytes ≡ None)
