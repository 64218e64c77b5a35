-- How many works a drain may still start, by which it ends: each start leaves one fewer, and no end of a run leaves one more, since a work
-- that is put back is due later, and one that is freed was blocked. The work of a renewed run may be due at once when that run ends: so each
-- such run counts as one more, and a drain renews none.
use Rattle.std.specs.Prelude.{ℕ, ◌<◌, ◌≤◌, ◌+◌, ◌&&◌, ◌||◌, Bool, not, List, count_by, nat_le}
use Rattle.wm_machine.specs.Due.{due_of}
use Rattle.wm_machine.specs.First.{all_met, is_waiting}
use Rattle.wm_machine.specs.Role as role
use Rattle.wm_machine.specs.Role.{Role}
use Rattle.wm_machine.specs.declared.record.Record.{Record}
use Rattle.wm_machine.specs.declared.state.Run.{Run}
use Rattle.wm_machine.specs.declared.state.State.{State}

-- at this moment and among these records a work waits, and is due or blocked
abbrev pub is_left : ℕ → List Record → Record → Bool
is_left now works work = is_waiting work.phase && (nat_le (due_of work) now || not (all_met works work))

abbrev pub left_among : ℕ → List Record → ℕ
left_among now works = count_by (is_left now works) works

-- whether a run is current and renewed
abbrev pub may_leave_one : Run → Bool
may_leave_one run = run.current && run.renewed

-- how many works the ends of these runs may leave due at once
abbrev pub left_by_runs : List Run → ℕ
left_by_runs runs = count_by may_leave_one runs

abbrev pub left_to_drain : State → ℕ
left_to_drain s = left_among s.now s.works + left_by_runs s.runs

-- how many an event of this role leaves of so many: fewer where a work starts or can't, and no more otherwise, but for a line
abbrev pub LeavesOf : Role → ℕ → ℕ → Type 0
LeavesOf (role.Line asked) before left = Unit {0}
LeavesOf (role.Begins run instance) before left = left < before
LeavesOf role.Refuses before left = left < before
LeavesOf _ before left = left ≤ before
