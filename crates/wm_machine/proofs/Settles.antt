-- What is owed for a line that settles, and what its reply tells.
use Rattle.std.proofs.Common.{◌≡◌, List, [], ◌∷◌, Option, Some, None, IsSomeAnd, is_some, refl, ap, IsSome}
use Rattle.std.proofs.lemmas.Bool.{false≢true}
use Rattle.wm_machine.proofs.Owed.{IsAnswered, IsLinedIn-quiet}
use Rattle.wm_machine.specs.First.{first_of}
use Rattle.wm_machine.specs.Frame.{untouched}
use Rattle.wm_machine.specs.Valid.{Valid}
use Rattle.wm_machine.specs.Outcome.{outcome}
use Rattle.wm_machine.specs.Quiet.{settled_by, IsQuiet}
use Rattle.wm_machine.specs.Replied.{unchanged}
use Rattle.wm_machine.specs.Step.{state_by, Answers}
use Rattle.wm_machine.specs.Types.{Record, Reply, Run, State}
use Rattle.wm_machine.specs.declared.command.Command.TheVariants as command
use Rattle.wm_machine.specs.declared.reply.Reply.TheVariants as reply

-- where nothing is startable and no run is unreturned it is answered, and changes nothing
settled-is : (s : State) (first : Option Record) (runs : List Run) → first ≡ None → runs ≡ [] → settled_by s first runs ≡ Some (unchanged s reply.Settled)
settled-is s first runs none no_run = rw (none, no_run) refl

-- where it has an outcome it is that one
settled-some : (s : State) (first : Option Record) (runs : List Run) → IsSome (settled_by s first runs)
    → settled_by s first runs ≡ Some (unchanged s reply.Settled)
settled-some s None [] some = refl
settled-some s None (run ∷ runs) some = absurd (false≢true some)
settled-some s (Some work) runs some = absurd (false≢true some)

pub settled-unchanged : (s : State) → IsSome (outcome s command.Settle) → outcome s command.Settle ≡ Some (unchanged s reply.Settled)
settled-unchanged s some = settled-some s (first_of s) s.runs some

-- whether it is answered or not, the state stays
stays : (P : State → Type 0) (s : State) (first : Option Record) (runs : List Run) → P s → P (state_by s (settled_by s first runs))
stays P s None [] p = p
stays P s None (run ∷ runs) p = p
stays P s (Some work) runs p = p

pub settle-answered : (s : State) → IsAnswered s command.Settle
settle-answered s = record {
  answered = λ may.
      let quiet = may.settled refl in ap is_some (settled-is s (first_of s) s.runs quiet.nothing_startable quiet.no_run);
  reached = λ reached. stays Valid s (first_of s) s.runs reached;
  frame = IsLinedIn-quiet command.Settle s _ (stays (λ t. untouched t (command.Settle ∷ []) ≡ untouched s (command.Settle ∷ [])) s (first_of s) s.runs refl);
}

-- and only there
quiet-by : (s : State) (answer : Reply) (first : Option Record) (runs : List Run) → IsSomeAnd (settled_by s first runs) (λ outcome. answer ≡ outcome.reply)
    → (first ≡ None) × (runs ≡ [])
quiet-by s answer None [] answers = (refl, refl)
quiet-by s answer None (run ∷ runs) answers = absurd answers
quiet-by s answer (Some work) runs answers = absurd answers

pub quiet-settled : (s : State) (answer : Reply) → Answers s command.Settle answer → IsQuiet s
quiet-settled s answer answers =
    let both = quiet-by s answer (first_of s) s.runs answers in record { nothing_startable = both.0; no_run = both.1 }
