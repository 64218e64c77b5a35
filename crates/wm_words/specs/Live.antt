-- What the words after `live` ask for.
use Rattle.std.specs.Prelude.{ℕ, List, [], ◌∷◌, codes, if◌then◌else◌, Option, Some, None, option_and_then, option_map}
use Rattle.wm_words.specs.Settings.{are_options, most_seed, number_within, settings_of, store_in, value_of, Setting}
use Rattle.wm_words.specs.declared.live.LiveOptions.{LiveOptions as ReadOptions}

-- the options that there are
abbrev pub live_options : List (List ℕ)
live_options = codes "--store" ∷ codes "--step" ∷ []

-- the step of the clock, a number of 64 bits; 0 where it isn't set
abbrev pub step_in : List Setting → Option ℕ
step_in settings = elim (value_of (codes "--step") settings) [ Some value ↦ number_within most_seed value | None ↦ Some 0 ]

-- what the words ask for
pub record LiveOptions : Type 0 where
  pub store : List ℕ
  pub step : ℕ

-- what the settings ask for
abbrev pub live_options_in : List Setting → Option LiveOptions
live_options_in settings =
    option_and_then (λ store. option_map (λ step. record { store = store; step = step }) (step_in settings)) (store_in settings)

-- what the words ask for: they are settings, of options that there are, none twice, and each value has the form of its option
abbrev pub live_options_of : List (List ℕ) → Option LiveOptions
live_options_of words =
    option_and_then (λ settings. if are_options live_options settings then live_options_in settings else None) (settings_of words)

-- what options that point to their words ask for
abbrev pub live_asked : ReadOptions → LiveOptions
live_asked options = record { store = options.store.now; step = options.step }
