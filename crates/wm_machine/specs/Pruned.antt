-- Pruning: the finished works that no unfinished work needs are removed, once they have been kept for as long as was asked. After
-- `androidx.work.WorkManager.pruneWork`; what is counted, and that a prune looks at the keeping time, are this project's own choice.
use Rattle.std.specs.Prelude.{ℕ, ◌+◌, ◌==◌, ◌&&◌, ◌||◌, Bool, not, List, filter, count_by, nat_le}
use Rattle.std.specs.List.{list_any}
use Rattle.wm_collections.specs.Lists.{is_among}
use Rattle.wm_machine.specs.Closed.{is_open}
use Rattle.wm_machine.specs.Replied.{Outcome}
use Rattle.wm_machine.specs.declared.record.Record.{Record}
use Rattle.wm_machine.specs.declared.reply.Reply.TheVariants as reply
use Rattle.wm_machine.specs.declared.state.State.{State}

-- whether an unfinished record has the work of this number as a prerequisite
unfoldable pub is_needed : List Record → ℕ → Bool
is_needed works number = list_any (λ work. is_open work.phase && is_among work.prior number) works

-- whether a record may be removed: it is finished, and isn't needed
unfoldable pub removable : List Record → Record → Bool
removable works work = not (is_open work.phase) && not (is_needed works work.seq)

-- whether the keeping time of a finished record has passed at this moment
unfoldable pub is_kept_enough : ℕ → Record → Bool
is_kept_enough now work = work.request.keep == 0 || nat_le (work.finished_at + work.request.keep) now

-- whether a prune removes a record: it may be removed, and its keeping time has passed; by force that time isn't looked at
unfoldable pub prunable : State → Bool → Record → Bool
prunable s force work = removable s.works work && (force || is_kept_enough s.now work)

-- the prunable records are removed, and the reply counts them
abbrev pub pruned : State → Bool → Outcome
pruned s force = record {
  reply = reply.Pruned (count_by (prunable s force) s.works);
  state = record s { works = filter (λ work. not (prunable s force work)) s.works };
}
