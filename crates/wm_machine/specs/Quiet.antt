-- When there is nothing left to do, and the line that waits for it.
use Rattle.std.specs.Prelude.{◌≡◌, List, [], Option, Some, None}
use Rattle.wm_machine.specs.First.{first_of}
use Rattle.wm_machine.specs.Replied.{Outcome, unchanged}
use Rattle.wm_machine.specs.declared.record.Record.{Record}
use Rattle.wm_machine.specs.declared.reply.Reply.TheVariants as reply
use Rattle.wm_machine.specs.declared.state.Run.{Run}
use Rattle.wm_machine.specs.declared.state.State.{State}

-- no work is startable, and no run is unreturned
pub record IsQuiet (s : State) : Type 0 where
  pub nothing_startable : first_of s ≡ None
  pub no_run : s.runs ≡ []

-- a line that settles is answered in a quiet state alone
abbrev pub settled_by : State → Option Record → List Run → Option Outcome
settled_by s None [] = Some (unchanged s reply.Settled)
settled_by s _ _ = None

abbrev pub settled : State → Option Outcome
settled s = settled_by s (first_of s) s.runs
