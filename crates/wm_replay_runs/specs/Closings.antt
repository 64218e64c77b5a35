-- A work that is free.
use Rattle.std.specs.Prelude.{ℕ}
use Rattle.wm_machine.specs.declared.record.Record.{Record}

-- a work that nothing holds back from this moment on
abbrev pub free_from : ℕ → Record → Record
free_from now work = record work { enqueued_at = now }
