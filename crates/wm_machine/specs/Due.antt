-- When a work is due, by its times.
use Rattle.std.specs.Prelude.{ℕ}
use Rattle.wm_machine.specs.declared.record.Record.{Record}
use Rattle.wm_schedule.specs.Due.{due_at}
use Rattle.wm_schedule.specs.declared.schedule.Times.{Times}

-- what the moment depends on
abbrev pub times_of : Record → Times
times_of work = record {
  enqueued_at = work.enqueued_at;
  initial_delay = work.request.initial_delay;
  backoff = work.request.backoff;
  backoff_n = work.backoff_n;
  period = work.request.period;
  runs = work.runs;
  override_at = work.override_at;
}

-- the moment from which on a work may start
unfoldable pub due_of : Record → ℕ
due_of work = due_at (times_of work)
