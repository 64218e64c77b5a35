-- The text of a log that has no observers: by what each event is alone, with whether only summaries are written.
use Rattle.std.specs.Prelude.{ℕ, ◌||◌, Bool, true, false, List, [], ◌∷◌, ◌++◌}
use Rattle.wm_machine.specs.declared.command.Command.{Command}
use Rattle.wm_machine.specs.declared.command.Command.TheVariants as command
use Rattle.wm_machine.specs.declared.event.Event.{Event}
use Rattle.wm_machine.specs.declared.event.Event.TheVariants as event
use Rattle.wm_texts.specs.Texts.{text_of}

abbrev pub is_hush : Command → Bool
is_hush command.Hush = true
is_hush _ = false

-- whether an event hushes what is written
abbrev pub hushes : Event → Bool
hushes (event.Command line asked answer) = is_hush asked
hushes _ = false

-- the text of a log, where only summaries are written before it or aren't
abbrev pub plain_text : Bool → List Event → List ℕ
plain_text hushed [] = []
plain_text hushed (e ∷ log) = text_of e [] (hushed || hushes e) ++ plain_text (hushed || hushes e) log

abbrev pub IsNoObserve : Command → Type 0
IsNoObserve (command.Observe query) = ⊥
IsNoObserve _ = Unit {0}

-- an event that adds no observer
abbrev pub AddsNoObserver : Event → Type 0
AddsNoObserver (event.Command line asked answer) = IsNoObserve asked
AddsNoObserver _ = Unit {0}
