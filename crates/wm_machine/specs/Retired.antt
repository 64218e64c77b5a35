-- Retiring a class of workers: none of them starts a work any more. The command is this project's own.
use Rattle.std.specs.Prelude.{true, List, ℕ, map, count_by, if◌then◌else◌}
use Rattle.std.specs.Str.{bytes_eq}
use Rattle.wm_machine.specs.First.{is_idle, is_live}
use Rattle.wm_machine.specs.Replied.{Outcome, unchanged}
use Rattle.wm_machine.specs.declared.reply.Refusal.TheVariants.{NoSuchClass}
use Rattle.wm_machine.specs.declared.reply.Reply.TheVariants as reply
use Rattle.wm_machine.specs.declared.state.Instance.{Instance}
use Rattle.wm_machine.specs.declared.state.State.{State}

-- an instance that is retired
abbrev pub made_retired : Instance → Instance
made_retired instance = record instance { retired = true }

-- the instances, with those of this class retired
abbrev pub with_retired : List ℕ → List Instance → List Instance
with_retired class instances = map (λ instance. if bytes_eq instance.class class then made_retired instance else instance) instances

-- the instances of the class are retired, and the reply counts those that are idle; a class that isn't live is refused
abbrev pub retired : State → List ℕ → Outcome
retired s class =
    if is_live s.instances class
    then record { reply = reply.Retired (count_by (is_idle class) s.instances); state = record s { instances = with_retired class s.instances } }
    else unchanged s (reply.Refused NoSuchClass)
