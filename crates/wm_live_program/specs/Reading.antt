-- What reading the asks of a script answers.
use Rattle.std.specs.Prelude.{◌≡◌, ℕ, List, Option, None}
use Rattle.wm_asks.specs.declared.ask.Ask.{Ask}
use Rattle.wm_beginning.specs.Reading.{ForScript}
use Rattle.wm_live_program.specs.Asks.{asks_in}
use Rattle.wm_script.specs.Limits.{first_limit}

-- the asks are those of the script, which passes no limit
abbrev pub AreAsksOf : Option (List ℕ) → List Ask → Type 0
AreAsksOf left asks = ForScript left (λ bytes. (asks ≡ asks_in bytes) × (first_limit bytes ≡ None))
