-- What a summary counts.
use Rattle.std.specs.Prelude.{ℕ, List, map, count_by}
use Rattle.std.specs.List.{sum}
use Rattle.wm_machine.specs.Queried.{is_state}
use Rattle.wm_machine.specs.Shown.{shown_of}
use Rattle.wm_machine.specs.declared.record.Record.{Record}
use Rattle.wm_machine.specs.declared.record.Shown.{Shown}
use Rattle.wm_machine.specs.declared.record.Shown.TheVariants as shown
use Rattle.wm_machine.specs.declared.reply.Counts.{Counts}
use Rattle.wm_machine.specs.declared.state.State.{State}

-- how many of these works are in this shown state, among all
abbrev pub count_shown : Shown → List Record → List Record → ℕ
count_shown state all works = count_by (λ work. is_state state (shown_of all work)) works

-- how many of these works are in each shown state, among all, and the sum of their attempts
abbrev pub counts_among : List Record → List Record → Counts
counts_among all works = record {
  enqueued = count_shown shown.Enqueued all works;
  running = count_shown shown.Running all works;
  succeeded = count_shown shown.Succeeded all works;
  failed = count_shown shown.Failed all works;
  blocked = count_shown shown.Blocked all works;
  cancelled = count_shown shown.Cancelled all works;
  attempts = sum (map (λ work. work.attempt) works);
}

-- the same of all works of a state
unfoldable pub counts_of : State → Counts
counts_of s = counts_among s.works s.works
