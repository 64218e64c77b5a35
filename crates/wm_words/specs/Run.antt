-- What the words of a run ask for.
use Rattle.std.specs.Prelude.{◌≡◌, ℕ, List, [], ◌∷◌, codes, if◌then◌else◌, Option, Some, None, IfSome, option_and_then, option_map, IsSomeAnd}
use Rattle.std.specs.Option.{option_map_or}
use Rattle.wm_words.specs.Settings.{are_options, most_seed, number_within, settings_of, store_in, value_of, Setting}
use Rattle.wm_words.specs.declared.run.Options.{Options as ReadOptions}
use Rattle.wm_words.specs.declared.run.Origin.{Origin}
use Rattle.wm_words.specs.declared.run.Origin.TheVariants.{Script, Seed}

-- the options that there are
abbrev pub run_options : List (List ℕ)
run_options = codes "--store" ∷ codes "--workers" ∷ codes "--generate" ∷ []

-- the number of workers, at most 64; 0 where it isn't set
abbrev pub workers_in : List Setting → Option ℕ
workers_in settings = elim (value_of (codes "--workers") settings) [ Some value ↦ number_within 64 value | None ↦ Some 0 ]

-- where the lines come from: of a seed, a number of 64 bits, where one is set, and else of the script
abbrev pub origin_in : List Setting → Option Origin
origin_in settings = option_map_or (λ value. option_map Seed (number_within most_seed value)) (value_of (codes "--generate") settings) (Some Script)

-- what the words ask for
pub record Options : Type 0 where
  pub store : List ℕ
  pub workers : ℕ
  pub origin : Origin

-- what the settings ask for
abbrev pub options_in : List Setting → Option Options
options_in settings =
    option_and_then (λ store. option_and_then (λ workers.
    option_map (λ origin. record { store = store; workers = workers; origin = origin }) (origin_in settings)) (workers_in settings)) (store_in settings)

-- what the words ask for: they are settings, of options that there are, none twice, and each value has the form of its option
abbrev pub options_of : List (List ℕ) → Option Options
options_of words =
    option_and_then (λ settings. if are_options run_options settings then options_in settings else None) (settings_of words)

-- what options that point to their words ask for
abbrev pub asked : ReadOptions → Options
asked options = record { store = options.store.now; workers = options.workers; origin = options.origin }

-- the words ask for no threads
abbrev pub AskForNoThreads : List (List ℕ) → Type 0
AskForNoThreads words = IfSome (options_of words) (λ options. options.workers ≡ 0)

-- the words are right, and ask for a script
abbrev pub AskForScript : List (List ℕ) → Type 0
AskForScript words = IsSomeAnd (options_of words) (λ options. options.origin ≡ Script)

-- where the lines come from that the words ask for, where they are right
abbrev pub origin_of : List (List ℕ) → Origin
origin_of words = option_map_or (λ options. options.origin) (options_of words) Script
