-- The names of runs. This project's own.
use Rattle.std.specs.Prelude.{ℕ, ◌≤◌, ◌&&◌, Bool, List, ◌++◌, codes, length, nat_le, nat_lt}
use Rattle.std.specs.Fmt.{decimal}

-- the number of the session, `-`, and the number of the run
abbrev pub run_name : ℕ → ℕ → List ℕ
run_name session run = decimal session ++ (codes "-" ++ decimal run)

-- whether a text may name a run, of whatever session: it has 1 to 64 bytes
abbrev pub may_name : List ℕ → Bool
may_name text = nat_lt 0 (length text) && nat_le (length text) 64
