-- What is kept of the works that are ready, and agrees with a state.
use Rattle.std.specs.Prelude.{◌≡◌, ◌≤◌, length, vec_capacity}
use Rattle.wm_machine.specs.declared.state.State.{State}
use Rattle.wm_steps.specs.Readied.{AreBusy, AreNamed, AreReady}
use Rattle.wm_steps.specs.declared.startable.Startable.{Startable}

-- the classes, which of them are busy, and the conditions are those of a state
pub record HaveRooms (s : State) (kept : Startable) : Type 0 where
  pub few : length kept.classes ≤ 10000
  pub named : AreNamed kept.classes s.instances
  -- there is room to list each class as busy
  pub room : length kept.classes ≤ vec_capacity kept.busy
  pub busy_are : AreBusy kept.classes s.instances kept.busy.items
  pub tracked : kept.tracker ≡ s.conditions

-- and the entries are those of its works that are ready
pub record AreStartable (s : State) (kept : Startable) : Type 0 where
  pub rooms : HaveRooms s kept
  pub ready_are : AreReady kept.classes s.works kept.ready
