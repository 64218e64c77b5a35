-- What the words ask for, as it is read.
use Rattle.std.specs.Prelude.{◌≡◌, ℕ, List, ◌∷◌, codes, map, string_bytes}
use Rattle.wm_outcome.specs.Outcomes.{AskForRun}
use Rattle.wm_outcome.specs.declared.top.Asked.{Asked}
use Rattle.wm_outcome.specs.declared.top.Asked.TheVariants.{Callers, Check, Export, Live, Run}

-- a run, or what the first word asks for, with the words after it
abbrev pub IsAsked : List (List ℕ) → Asked → Type 0
IsAsked words Run = AskForRun words
IsAsked words (Export others) = words ≡ codes "export" ∷ map string_bytes others.now
IsAsked words (Check others) = words ≡ codes "check" ∷ map string_bytes others.now
IsAsked words (Live others) = words ≡ codes "live" ∷ map string_bytes others.now
IsAsked words (Callers others) = words ≡ codes "callers" ∷ map string_bytes others.now
