-- What is owed for a cancel.
use Rattle.std.proofs.Common.{ℕ, cond, List, [], ◌∷◌, refl}
use Rattle.std.proofs.lemmas.Bool.{and_parts, cond_both}
use Rattle.wm_machine.proofs.Closings.{not_yet_passing}
use Rattle.wm_machine.proofs.Groups.{frame-works_closed, is_any_run_reached, Valid-works_closed}
use Rattle.wm_collections.proofs.Lists.{All-stored}
use Rattle.wm_machine.proofs.Owed.{IsAnswered, IsLinedIn-quiet, IsLinedIn-stops}
use Rattle.wm_machine.specs.Cancelled.{cancelled, cancelled_each, is_cancellable, is_for, is_stored, targeted}
use Rattle.wm_machine.specs.Closed.{is_open}
use Rattle.wm_machine.specs.Frame.{untouched, IsLinedIn}
use Rattle.wm_machine.specs.Valid.{Valid}
use Rattle.wm_machine.specs.Replied.{Outcome, unchanged}
use Rattle.wm_machine.specs.Types.{Command, State, Target}
use Rattle.wm_machine.specs.declared.command.Command.TheVariants as command
use Rattle.wm_machine.specs.declared.command.Target.TheVariants as target
use Rattle.wm_machine.specs.declared.record.How.TheVariants as how
use Rattle.wm_machine.specs.declared.reply.Refusal.TheVariants.{NoSuchWork}
use Rattle.wm_machine.specs.declared.reply.Reply.TheVariants as reply

-- what is owed for an outcome
record IsOwed (s : State) (asked : Command) (done : Outcome) : Type 0 where
  reached : Valid s → Valid done.state
  frame : IsLinedIn asked s (untouched done.state (asked ∷ []))

-- works are cancelled, which stops the runs of what they reach
owed-each : (s : State) (asked target : Target) → IsOwed s (command.Cancel asked) (cancelled_each s (targeted target s.works))
owed-each s asked target =
    let seqs = targeted target s.works in
    record {
      reached = λ valid. Valid-works_closed seqs s valid
          (not_yet_passing s (is_cancellable target) s.works valid (λ work is. (and_parts (is_open work.phase) (is_for target work) is).0)
          (All-stored s.works));
      frame = IsLinedIn-stops (command.Cancel asked) s _ (is_any_run_reached seqs s.works)
          (frame-works_closed how.Cancelled seqs s (command.Cancel asked ∷ []));
    }

owed-id : (s : State) (id : List ℕ) → IsOwed s (command.Cancel (target.Id id))
    (cond (is_stored s.works id) (cancelled_each s (targeted (target.Id id) s.works)) (unchanged s (reply.Refused (NoSuchWork id))))
owed-id s id =
    cond_both (is_stored s.works id) (cancelled_each s (targeted (target.Id id) s.works)) (unchanged s (reply.Refused (NoSuchWork id)))
    (IsOwed s (command.Cancel (target.Id id))) (λ there. owed-each s (target.Id id) (target.Id id))
    (λ missing. record { reached = λ valid. valid; frame = IsLinedIn-quiet (command.Cancel (target.Id id)) s _ refl })

-- what is owed for an outcome is owed for its command
answered-by : (s : State) (target : Target) → IsOwed s (command.Cancel target) (cancelled s target) → IsAnswered s (command.Cancel target)
answered-by s target owed = record { answered = λ may. refl; reached = owed.reached; frame = owed.frame }

pub cancel-answered : (s : State) (target : Target) → IsAnswered s (command.Cancel target)
cancel-answered s (target.Id id) = answered-by s (target.Id id) (owed-id s id)
cancel-answered s (target.Tag tag) = answered-by s (target.Tag tag) (owed-each s (target.Tag tag) (target.Tag tag))
cancel-answered s (target.Name name) = answered-by s (target.Name name) (owed-each s (target.Name name) (target.Name name))
cancel-answered s target.All = answered-by s target.All (owed-each s target.All target.All)
