-- What holds of every command, with a row for each.
use Rattle.std.proofs.Common.{◌≡◌, ℕ, Option, Some, None, IsSome, IsSomeAnd, refl}
use Rattle.std.proofs.lemmas.Bool.{false≢true}
use Rattle.wm_machine.proofs.Cancels.{cancel-answered}
use Rattle.wm_machine.proofs.Enqueues.{enqueue-answered}
use Rattle.wm_collections.proofs.Lists.{All-any}
use Rattle.wm_machine.proofs.Names.{enqueue-named-answered}
use Rattle.wm_machine.proofs.Observings.{observe-answered}
use Rattle.wm_machine.proofs.Owed.{IsAnswered, IsLinedIn-quiet, MayBeAsked}
use Rattle.wm_machine.proofs.Removals.{prunable_removable, reached-removed}
use Rattle.wm_machine.proofs.Retirings.{retire-answered}
use Rattle.wm_machine.proofs.Settings.{conditions-answered, hush-answered, moment-answered}
use Rattle.wm_machine.proofs.Settles.{settle-answered}
use Rattle.wm_machine.proofs.Updates.{update-answered}
use Rattle.wm_machine.specs.Outcome.{outcome, IsAskable, IsLegalLine}
use Rattle.wm_machine.specs.Pruned.{prunable}
use Rattle.wm_machine.specs.Replied.{Outcome}
use Rattle.wm_machine.specs.Step.{Legal}
use Rattle.wm_machine.specs.Types.{Command, Reply, State}
use Rattle.wm_machine.specs.declared.command.Command.TheVariants as command
use Rattle.wm_machine.specs.declared.event.Event.TheVariants as event

reply_in : (o : Option Outcome) → IsSome o → (answer : Reply) × IsSomeAnd o (λ outcome. answer ≡ outcome.reply)
reply_in None is = absurd (false≢true is)
reply_in (Some out) is = (out.reply, refl)

-- each askable command has an outcome where it may be asked, keeps what holds of every state, leaves the runs but for those that it stops, and
-- retires what it retires
pub answered : (s : State) (asked : Command) → IsAskable asked → IsAnswered s asked
answered s (command.Enqueue None batch) askable = enqueue-answered s batch askable
answered s (command.Enqueue (Some unique) batch) askable = enqueue-named-answered s unique batch askable
answered s (command.Cancel target) askable = cancel-answered s target
answered s (command.Update request) askable = update-answered s request askable
answered s (command.Moment at) askable = moment-answered s at askable
answered s (command.Conditions conditions) askable = conditions-answered s conditions
answered s (command.Prune force) askable = record {
  answered = λ may. refl;
  reached = λ reached. reached-removed s (prunable s force) reached (All-any s.works (λ work is. prunable_removable s force work is));
  frame = IsLinedIn-quiet (command.Prune force) s _ refl;
}
answered s (command.Query query) askable =
    record { answered = λ may. refl; reached = λ reached. reached; frame = IsLinedIn-quiet (command.Query query) s _ refl }
answered s (command.Observe query) askable = observe-answered s query
answered s (command.Retire class) askable = retire-answered s class
answered s command.Settle askable = settle-answered s
answered s command.Hush askable = hush-answered s
answered s command.Summary askable =
    record { answered = λ may. refl; reached = λ reached. reached; frame = IsLinedIn-quiet command.Summary s _ refl }
answered s (command.Faulty fault) askable =
    record { answered = λ may. refl; reached = λ reached. reached; frame = IsLinedIn-quiet (command.Faulty fault) s _ refl }

-- where it may be asked each askable command is legal
pub legal_line-asked : (s : State) (asked : Command) → IsAskable asked → MayBeAsked s asked → IsLegalLine s asked
legal_line-asked s asked askable may = record { askable = askable; answered = (answered s asked askable).answered may }

-- and has a reply
pub reply_where_asked : (s : State) (asked : Command) (line : ℕ) → IsAskable asked → MayBeAsked s asked
    → (answer : Reply) × Legal s (event.Command line asked answer)
reply_where_asked s asked line askable may =
    let replied = reply_in (outcome s asked) ((answered s asked askable).answered may) in (replied.0, (askable, replied.1))
