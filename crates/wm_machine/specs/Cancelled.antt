-- Cancelling works: the one with an id, those with a tag or of a unique name, or all. After the guide's pages "Managing work" (cancel and stop
-- work) and "Chaining work"; that a finished work is left as it is, what is counted, and that a run which is stopped so is unreturned until it
-- reports, are this project's own choice.
use Rattle.std.specs.Prelude.{ℕ, ◌&&◌, Bool, true, List, filter, find, count_by, if◌then◌else◌, Option}
use Rattle.std.specs.List.{list_any}
use Rattle.std.specs.Str.{bytes_eq}
use Rattle.wm_machine.specs.Closed.{is_open, is_reached, with_works_closed}
use Rattle.wm_machine.specs.Group.{is_name, numbers_in}
use Rattle.wm_machine.specs.Queried.{has_tag}
use Rattle.wm_machine.specs.Replied.{Outcome, unchanged}
use Rattle.wm_machine.specs.declared.command.Target.{Target}
use Rattle.wm_machine.specs.declared.command.Target.TheVariants as target
use Rattle.wm_machine.specs.declared.record.How.TheVariants as how
use Rattle.wm_machine.specs.declared.record.Record.{Record}
use Rattle.wm_machine.specs.declared.reply.Refusal.TheVariants.{NoSuchWork}
use Rattle.wm_machine.specs.declared.reply.Reply.TheVariants as reply
use Rattle.wm_machine.specs.declared.state.State.{State}

-- ---- the works that are meant

-- the record with this id
abbrev pub work_with_id : List Record → List ℕ → Option Record
work_with_id works id = find (λ work. bytes_eq work.request.id id) works

-- whether a record has this id
abbrev pub is_stored : List Record → List ℕ → Bool
is_stored works id = list_any (λ work. bytes_eq work.request.id id) works

-- whether a target is for a work
abbrev pub is_for : Target → Record → Bool
is_for (target.Id id) work = bytes_eq work.request.id id
is_for (target.Tag tag) work = has_tag work.request.tags tag
is_for (target.Name name) work = is_name name work.name
is_for target.All work = true

-- whether it is unfinished, so that it becomes cancelled
abbrev pub is_cancellable : Target → Record → Bool
is_cancellable target work = is_open work.phase && is_for target work

-- the numbers of the unfinished works that a target is for
abbrev pub targeted : Target → List Record → List ℕ
targeted target works = numbers_in (filter (is_cancellable target) works)

-- ---- what is reached

-- how many records become finished, where these works are closed
abbrev pub count_reached : List ℕ → List Record → ℕ
count_reached seqs works = count_by (λ work. list_any (λ seq. is_reached seq works work) seqs) works

-- ---- the outcome

-- these works are cancelled, each with its unfinished descendants
abbrev pub cancelled_each : State → List ℕ → Outcome
cancelled_each s seqs = record { reply = reply.Cancelled (count_reached seqs s.works); state = with_works_closed how.Cancelled seqs s }

-- the unfinished works that a target is for are cancelled; an id that no record has is refused
abbrev pub cancelled : State → Target → Outcome
cancelled s (target.Id id) =
    if is_stored s.works id then cancelled_each s (targeted (target.Id id) s.works)
    else unchanged s (reply.Refused (NoSuchWork id))
cancelled s (target.Tag tag) = cancelled_each s (targeted (target.Tag tag) s.works)
cancelled s (target.Name name) = cancelled_each s (targeted (target.Name name) s.works)
cancelled s target.All = cancelled_each s (targeted target.All s.works)
