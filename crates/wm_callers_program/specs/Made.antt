-- What callers made at a desk.
use Rattle.std.specs.Prelude.{ℕ, ◌==◌, List, [], ◌∷◌, ◌++◌, map, filter, slice_get, option_to_list}
use Rattle.wm_callers.specs.PassState.{PassState}
use Rattle.wm_callers.specs.declared.entry.Signed.{Signed}
use Rattle.wm_callers_program.specs.Lines.{AskedLine}

-- the line of an entry
abbrev pub line_of : Signed → AskedLine
line_of entry = record { number = entry.line; command = entry.command }

-- the entries at these places
abbrev pub entries_at : List ℕ → List Signed → List Signed
entries_at [] all = []
entries_at (place ∷ places) all = option_to_list (slice_get all place) ++ entries_at places all

-- those of a caller
abbrev pub entries_by : ℕ → List Signed → List Signed
entries_by number all = filter (λ entry. entry.caller == number) all

-- what the caller of a pass made
abbrev pub made_by : PassState → List Signed
made_by pass = entries_at pass.mine pass.seen

-- the lines that it called
abbrev pub lines_by : PassState → List AskedLine
lines_by pass = map line_of (made_by pass)
