-- What rows open to, by their records.
use Rattle.std.proofs.Common.{◌≡◌, List, map, Ok, refl}
use Rattle.wm_keeper.specs.declared.row.Change.{Change}
use Rattle.wm_keeper.specs.declared.row.Row.{Row}
use Rattle.wm_machine.proofs.Openings.{reached-opened}
use Rattle.wm_machine.proofs.Runnings.{WorksAscend-in_order}
use Rattle.wm_machine.specs.Valid.{Valid}
use Rattle.wm_machine.specs.Opened.{AreFresh, opening_state, reopened}
use Rattle.wm_machine.specs.declared.record.Record.{Record}
use Rattle.wm_machine.specs.declared.state.Instance.{Instance}
use Rattle.wm_opening.proofs.Reopened.{reopened-rows, reopenings-apart, reopenings-none}
use Rattle.wm_opening.specs.Reopenings.{AreReopened, AreReopenings}
use Rattle.wm_rows.proofs.StoreRead.{checked_rows, checked_works}
use Rattle.wm_rows.specs.Sound.{checked}

pub reopened-sound : (rows : List Row) (stored works : List Record) (changes : List Change) → checked rows ≡ Ok stored → works ≡ map reopened stored
    → AreReopenings rows stored changes → AreReopened rows works changes
reopened-sound rows stored works changes reading works_are are =
    let theirs = checked_rows rows stored reading in
    let sound = checked_works rows stored reading in
    let ascend = WorksAscend-in_order stored sound.in_order in
    rw works_are (record {
      opened = λ instances fresh. record { stored = stored; rows_are_theirs = theirs; sound = sound; fresh = fresh; state = refl };
      those_differing = rw reading are;
      rows_changed = reopened-rows rows stored changes theirs are ascend;
      apart = reopenings-apart rows stored changes are ascend;
      only_changed = reopenings-none rows stored changes are;
    })

-- the state that rows open to is one that the machine reaches
pub reached-reopened : (rows : List Row) (instances : List Instance) (works : List Record) (changes : List Change) → AreFresh instances
    → AreReopened rows works changes → Valid (opening_state works instances)
reached-reopened rows instances works changes fresh are = reached-opened rows instances (opening_state works instances) (are.opened instances fresh)
