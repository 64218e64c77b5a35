-- What is still to be written beside a table, and what telling its last event makes of that.
use Rattle.std.specs.Prelude.{◌≡◌, ℕ, List, ◌++◌, Option, Some, None}
use Rattle.wm_faults.specs.Faults.{Failed}
use Rattle.wm_io.specs.Pending.{nothing, still_pending, IsGivenBut, PendingState}
use Rattle.wm_session.specs.declared.book.Stop.{Stop}
use Rattle.wm_session.specs.declared.book.Stop.TheVariants as stop
use Rattle.wm_engine.specs.TableState.{TableState}
use Rattle.wm_texts.specs.Texts.{last_text}

-- the text that is pending, the last one being that of the log's last event
abbrev pub pending_text : {K : Type 0} → TableState K → PendingState → List ℕ
pending_text table pending = still_pending pending (last_text table.first table.log)

-- a session that stops since its sink failed has met a fault of it now, and none otherwise; telling never stops it for its keeper
abbrev pub TellCause : Option Stop → ℕ → ℕ → Type 0
TellCause None before now = now ≡ before
TellCause (Some stop.SinkFault) before now = Failed before now
TellCause (Some stop.Memory) before now = now ≡ before
TellCause (Some stop.KeeperFault) before now = ⊥

-- this text was put behind what was pending, and that written as far as the sink took it: all of it where the session goes on, which else stops
-- for this
pub record IsTold {W : Type 0} (given : W → Option (List ℕ)) (faults : W → ℕ) (text : List ℕ) (before now : PendingState) (sink sink_now : W)
    (stops : Option Stop) : Type 0 where
  pub texts : IsGivenBut (given sink) (given sink_now) (before.bytes ++ text) (still_pending now text)
  pub all : stops ≡ None → now ≡ nothing
  pub cause : TellCause stops (faults sink) (faults sink_now)
