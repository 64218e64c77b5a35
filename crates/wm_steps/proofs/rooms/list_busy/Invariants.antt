use Rattle.std.proofs.Common.{◌≡◌, ◌≤◌, take, vec_capacity, vec_len}
use Rattle.wm_steps.specs.Readied.{busy_from}
use Rattle.wm_steps.proofs.rooms.list_busy.Given as goal

-- the numbers of those so far that are busy are listed, and there is room for the others
abbrev pub invariant-loop-class : goal.invariant-loop-class
invariant-loop-class l =
    (l.busy.items ≡ busy_from 0 l.instances (take l.class-index l.classes)) × (l.number ≡ l.class-index) × (vec_len l.busy ≤ l.class-index)
    × (vec_capacity l.busy ≡ vec_capacity l.fn.busy)
