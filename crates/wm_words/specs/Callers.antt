-- What the words after `callers` ask for.
use Rattle.std.specs.Prelude.{ℕ, List, [], ◌∷◌, codes, nat_lt, if◌then◌else◌, Option, Some, None, option_and_then, option_map}
use Rattle.wm_words.specs.Settings.{are_options, number_within, settings_of, store_in, value_of, Setting}
use Rattle.wm_words.specs.declared.callers.CallersOptions.{CallersOptions as ReadOptions}

-- the options that there are
abbrev pub callers_options : List (List ℕ)
callers_options = codes "--store" ∷ codes "--workers" ∷ []

-- the number of callers, from 1 to 64, which has to be set
abbrev pub callers_in : List Setting → Option ℕ
callers_in settings =
    option_and_then (λ value. option_and_then (λ callers. if nat_lt 0 callers then Some callers else None) (number_within 64 value))
    (value_of (codes "--workers") settings)

-- what the words ask for
pub record CallersOptions : Type 0 where
  pub store : List ℕ
  pub callers : ℕ

-- what the settings ask for
abbrev pub callers_options_in : List Setting → Option CallersOptions
callers_options_in settings =
    option_and_then (λ store. option_map (λ callers. record { store = store; callers = callers }) (callers_in settings)) (store_in settings)

-- what the words ask for: they are settings, of options that there are, none twice, and each value has the form of its option
abbrev pub callers_options_of : List (List ℕ) → Option CallersOptions
callers_options_of words =
    option_and_then (λ settings. if are_options callers_options settings then callers_options_in settings else None) (settings_of words)

-- what options that point to their words ask for
abbrev pub callers_asked : ReadOptions → CallersOptions
callers_asked options = record { store = options.store.now; callers = options.callers }
