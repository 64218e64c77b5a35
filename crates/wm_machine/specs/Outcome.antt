-- What a command does: the one reply to it in a state, and the state after it; and which commands may be asked. Each has its rule in a file
-- of its own.
use Rattle.std.specs.Prelude.{◌^◌, ◌<◌, Option, Some, None, IsSome}
use Rattle.wm_machine.specs.Built.{AreAsked, AreAskedUnder}
use Rattle.wm_machine.specs.Cancelled.{cancelled}
use Rattle.wm_machine.specs.Enqueued.{enqueued}
use Rattle.wm_machine.specs.Observed.{observed}
use Rattle.wm_machine.specs.Pruned.{pruned}
use Rattle.wm_machine.specs.Queried.{answer_to}
use Rattle.wm_machine.specs.Quiet.{settled}
use Rattle.wm_machine.specs.Replied.{Outcome, unchanged}
use Rattle.wm_machine.specs.Retired.{retired}
use Rattle.wm_machine.specs.Settings.{conditioned, hushed, moved}
use Rattle.wm_machine.specs.Summarized.{counts_of}
use Rattle.wm_machine.specs.Updated.{update}
use Rattle.wm_machine.specs.declared.command.Command.{Command}
use Rattle.wm_machine.specs.declared.command.Command.TheVariants as command
use Rattle.wm_machine.specs.declared.reply.Refusal.TheVariants.{Line}
use Rattle.wm_machine.specs.declared.reply.Reply.TheVariants as reply
use Rattle.wm_machine.specs.declared.state.State.{State}
use Rattle.wm_request.specs.Requests.{IsRequest}

-- none where the command isn't legal in the state
abbrev pub outcome : State → Command → Option Outcome
outcome s (command.Enqueue named batch) = Some (enqueued s named batch.works)
outcome s (command.Cancel target) = Some (cancelled s target)
outcome s (command.Update request) = Some (update s request)
outcome s (command.Moment at) = Some (moved s at)
outcome s (command.Conditions conditions) = Some (conditioned s conditions)
outcome s (command.Prune force) = Some (pruned s force)
outcome s (command.Query query) = Some (unchanged s (reply.Query (answer_to s query)))
outcome s (command.Observe query) = Some (observed s query)
outcome s (command.Retire class) = Some (retired s class)
outcome s command.Settle = settled s
outcome s command.Hush = Some (hushed s)
outcome s command.Summary = Some (unchanged s (reply.Summary (counts_of s)))
outcome s (command.Faulty fault) = Some (unchanged s (reply.Refused (Line fault)))

-- a command that may be asked in some state: what it asks for is within its limits
abbrev pub IsAskable : Command → Type 0
IsAskable (command.Enqueue None batch) = AreAsked batch.works
IsAskable (command.Enqueue (Some unique) batch) = AreAskedUnder unique.name batch.works
IsAskable (command.Cancel target) = Unit {0}
IsAskable (command.Update request) = IsRequest request
IsAskable (command.Moment at) = at < 2 ^ 53
IsAskable (command.Conditions conditions) = Unit {0}
IsAskable (command.Prune force) = Unit {0}
IsAskable (command.Query query) = Unit {0}
IsAskable (command.Observe query) = Unit {0}
IsAskable (command.Retire class) = Unit {0}
IsAskable command.Settle = Unit {0}
IsAskable command.Hush = Unit {0}
IsAskable command.Summary = Unit {0}
IsAskable (command.Faulty fault) = Unit {0}

-- A command is legal in a state: it is askable, and has an outcome there. Each has, but for one that settles, which has one in a quiet state
-- alone.
pub record IsLegalLine (s : State) (asked : Command) : Type 0 where
  pub askable : IsAskable asked
  pub answered : IsSome (outcome s asked)
