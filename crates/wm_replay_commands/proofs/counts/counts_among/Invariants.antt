-- The works so far are counted, each once. A number of attempts has 32 bits.
use Rattle.std.proofs.Common.{◌≡◌, ◌+◌, ◌*◌, ◌≤◌, map, take}
use Rattle.std.specs.List.{sum}
use Rattle.wm_machine.specs.declared.record.Shown.TheVariants as shown
use Rattle.wm_machine.specs.Summarized.{count_shown}
use Rattle.wm_replay_commands.proofs.counts.counts_among.Given as goal

abbrev pub invariant-loop-work : goal.invariant-loop-work
invariant-loop-work l = record {
  enqueued : l.counts.enqueued ≡ count_shown shown.Enqueued l.works (take l.work-index l.works);
  running : l.counts.running ≡ count_shown shown.Running l.works (take l.work-index l.works);
  succeeded : l.counts.succeeded ≡ count_shown shown.Succeeded l.works (take l.work-index l.works);
  failed : l.counts.failed ≡ count_shown shown.Failed l.works (take l.work-index l.works);
  blocked : l.counts.blocked ≡ count_shown shown.Blocked l.works (take l.work-index l.works);
  cancelled : l.counts.cancelled ≡ count_shown shown.Cancelled l.works (take l.work-index l.works);
  attempts : l.counts.attempts ≡ sum (map (λ work. work.attempt) (take l.work-index l.works));
  each_once : l.counts.enqueued + l.counts.running + l.counts.succeeded + l.counts.failed + l.counts.blocked + l.counts.cancelled ≡ l.work-index;
  attempts_fit : l.counts.attempts ≤ 4294967295 * l.work-index;
}
