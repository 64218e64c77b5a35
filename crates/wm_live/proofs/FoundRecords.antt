-- The work that an ask is for is a record of the state.
use Rattle.std.proofs.Common.{◌≡◌, ℕ, List, Some, sym, bytes_eq}
use Rattle.wm_collections.proofs.Lists.{find-stored, All-of_one}
use Rattle.wm_machine.specs.Cancelled.{work_with_id}
use Rattle.wm_machine.specs.Valid.{IsRecord, Valid}
use Rattle.wm_machine.specs.declared.record.Record.{Record}
use Rattle.wm_machine.specs.declared.state.State.{State}

-- the record of an id is one of the state's
pub found-record : (s : State) (id : List ℕ) (work : Record) → Valid s → Some work ≡ work_with_id s.works id → IsRecord work
found-record s id work valid is =
    All-of_one IsRecord s.works work valid.works.records (find-stored (λ (other : Record). bytes_eq other.request.id id) s.works work (sym is))
