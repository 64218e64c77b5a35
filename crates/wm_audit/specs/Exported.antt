-- What an audit is exported from.
use Rattle.std.specs.Prelude.{◌≡◌, ℕ, List}
use Rattle.wm_audit_text.specs.Audits.{audit_text, IsSpelled}
use Rattle.wm_keeper.specs.declared.row.Row.{Row}
use Rattle.wm_machine.specs.Opened.{Opened}
use Rattle.wm_machine.specs.Replay.{Replay}
use Rattle.wm_machine.specs.declared.event.Event.{Event}
use Rattle.wm_machine.specs.declared.state.Instance.{Instance}
use Rattle.wm_machine.specs.declared.state.State.{State}
use Rattle.wm_rows.specs.Sound.{AreSound}
use Rattle.wm_texts.specs.Texts.{log_text}

-- a state is one that rows open to, with the instances that it has
pub record IsOpened (first : State) : Type 0 where
  pub rows : List Row
  pub opened : Opened rows first.instances first

-- The bytes are the audit of a run that ended in this state: of the rows that it began with, which are sound, its hands, its log, and the text that
-- was written for it. Each of them is spelled so that it is read again.
pub record IsAuditOf (bytes : List ℕ) (last : State) : Type 0 where
  pub rows : List Row
  pub hands : List Instance
  pub log : List Event
  pub first : State
  pub whole : bytes ≡ audit_text rows hands log (log_text first log)
  pub spelled : IsSpelled rows hands log (log_text first log)
  pub sound : AreSound rows
  pub opened : Opened rows hands first
  pub replay : Replay first log last
