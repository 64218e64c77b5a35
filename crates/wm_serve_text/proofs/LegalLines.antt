-- A command that a line of a session says is legal in every state.
use Rattle.std.proofs.Common.{◌≡◌, ℕ, Bool, true, false, cond, List, [], ◌∷◌, Option, Some, None, IfSome, option_and_then, option_map, Result, Ok, Err, IfOk, refl, rules}
use Rattle.std.specs.Prelude.{codes}
use Rattle.std.specs.List.{AllByRecursion}
use Rattle.std.specs.Map.{lookup}
use Rattle.std.specs.Str.{bytes_eq}
use Rattle.serde_json.specs.Data as json
use Rattle.serde_json.specs.Find.{as_str, get}
use Rattle.wm_collections.proofs.Options.{then_any}
use Rattle.wm_machine.specs.Outcome.{IsAskable, IsLegalLine}
use Rattle.wm_machine.specs.declared.command.Command.{Command}
use Rattle.wm_machine.specs.declared.command.Command.TheVariants as command
use Rattle.wm_machine.specs.declared.command.LineFault.{LineFault}
use Rattle.wm_machine.specs.declared.command.LineFault.TheVariants as fault
use Rattle.wm_machine.specs.declared.state.State.{State}
use Rattle.wm_script.proofs.BuiltCommands.{IsAskable-command_of}
use Rattle.wm_script.specs.Lines.{command_of, value_of}
use Rattle.wm_serve_text.specs.Lines.{beat_of, failure_of, IsAlwaysLegal, or_faulty, own_line, progress_of, readers, retry_of, said_by, served, success_of}
use Rattle.wm_serve_text.specs.Parts.{◌>>=◌}
use Rattle.wm_serve_text.specs.declared.lines.SessionLine.{SessionLine}

-- ---- a command of a script

-- one that is askable is legal, since it doesn't settle
IsLegalLine-served : (s : State) (asked : Command) → IsAskable asked → IsLegalLine s (served asked)
IsLegalLine-served s (command.Enqueue named batch) askable = record { askable = askable; answered = refl }
IsLegalLine-served s (command.Cancel target) askable = record { askable = askable; answered = refl }
IsLegalLine-served s (command.Update request) askable = record { askable = askable; answered = refl }
IsLegalLine-served s (command.Moment at) askable = record { askable = tt; answered = refl }
IsLegalLine-served s (command.Conditions conditions) askable = record { askable = askable; answered = refl }
IsLegalLine-served s (command.Prune force) askable = record { askable = askable; answered = refl }
IsLegalLine-served s (command.Query query) askable = record { askable = askable; answered = refl }
IsLegalLine-served s (command.Observe query) askable = record { askable = askable; answered = refl }
IsLegalLine-served s (command.Retire class) askable = record { askable = askable; answered = refl }
IsLegalLine-served s command.Settle askable = record { askable = tt; answered = refl }
IsLegalLine-served s command.Hush askable = record { askable = askable; answered = refl }
IsLegalLine-served s command.Summary askable = record { askable = askable; answered = refl }
IsLegalLine-served s (command.Faulty found) askable = record { askable = askable; answered = refl }

-- ---- a line of a session's own says no command, but a faulty one

bind_any : {A : Type 0} (f : A → Result SessionLine LineFault) (r : Result A LineFault) → ((x : A) → IfOk (f x) IsAlwaysLegal)
    → IfOk (r >>= f) IsAlwaysLegal
bind_any f (Ok x) h = h x
bind_any f (Err found) h = tt

tested : (b : Bool) (r : Result SessionLine LineFault) → IfOk r IsAlwaysLegal → IfOk (cond b r (Err fault.Bad)) IsAlwaysLegal
tested true r h = h
tested false r h = tt

-- whatever each reader reads
AreOwn : List (List ℕ × (json.Data → Result SessionLine LineFault)) → Type 0
AreOwn table = AllByRecursion (λ reader. (d : json.Data) → IfOk (reader.1 d) IsAlwaysLegal) table

AreOwn-readers : AreOwn readers
unfolding AreOwn progress_of success_of failure_of retry_of beat_of
AreOwn-readers = search (rules, tested, bind_any)

IsAlwaysLegal-or_faulty : (r : Result SessionLine LineFault) → IfOk r IsAlwaysLegal → IsAlwaysLegal (or_faulty r)
IsAlwaysLegal-or_faulty (Ok said) h = h
IsAlwaysLegal-or_faulty (Err found) h = λ s. record { askable = tt; answered = refl }

found_first : (b : Bool) (reader : json.Data → Result SessionLine LineFault) (rest : Option (json.Data → Result SessionLine LineFault)) (d : json.Data)
    → IfOk (reader d) IsAlwaysLegal → IfSome (option_map (λ reader. or_faulty (reader d)) rest) IsAlwaysLegal
    → IfSome (option_map (λ reader. or_faulty (reader d)) (cond b (Some reader) rest)) IsAlwaysLegal
found_first true reader rest d h k = IsAlwaysLegal-or_faulty (reader d) h
found_first false reader rest d h k = k

found_among : (test : List ℕ → Bool) (table : List (List ℕ × (json.Data → Result SessionLine LineFault))) (d : json.Data) → AreOwn table
    → IfSome (option_map (λ reader. or_faulty (reader d)) (lookup test table)) IsAlwaysLegal
unfolding AreOwn
found_among test [] d own = tt
found_among test (reader ∷ table) d own = found_first (test reader.0) reader.1 (lookup test table) d (own.0 d) (found_among test table d own.1)

IsAlwaysLegal-said_by : (d : json.Data) → IfSome (said_by d) IsAlwaysLegal
unfolding said_by
IsAlwaysLegal-said_by d =
    then_any IsAlwaysLegal _ (option_and_then as_str (get (codes "cmd") d)) (λ name. found_among (bytes_eq name) readers d AreOwn-readers)

-- ---- a line

-- what a line says that is no command of a script
pub own_legal : (bytes : List ℕ) (said : SessionLine) → own_line bytes ≡ Some said → IsAlwaysLegal said
own_legal bytes said is = rw is at (then_any IsAlwaysLegal said_by (value_of bytes) IsAlwaysLegal-said_by)

-- and a command of a script
pub served_legal : (bytes : List ℕ) (asked : Command) → asked ≡ served (command_of bytes) → (s : State) → IsLegalLine s asked
served_legal bytes asked is s = rw is (IsLegalLine-served s (command_of bytes) (IsAskable-command_of bytes))
