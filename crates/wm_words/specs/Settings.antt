-- The words of the command line as settings, and the forms of their values.
use Rattle.std.specs.Prelude.{◌≡◌, ℕ, ◌+◌, ◌<◌, ◌==◌, ◌&&◌, ◌||◌, Bool, true, not, List, [], ◌∷◌, length, find, slice_index, nat_lt, nat_le, codes, take, drop, position, is_none, if◌then◌else◌, Option, Some, None, bytes_eq, option_and_then, option_map}
use Rattle.std.specs.Char.{is_ascii_digit}
use Rattle.std.specs.List.{list_all, list_any}
use Rattle.std.specs.Str.Parse.{digits_value}
use Rattle.wm_words.specs.declared.settings.Setting.{Setting as ReadSetting}

abbrev pub is_between : ℕ → ℕ → ℕ → Bool
is_between low high byte = nat_le low byte && nat_le byte high

-- an ASCII letter or digit, or one of `.`, `_`, `/` and `-`
abbrev pub is_name_byte : ℕ → Bool
is_name_byte byte =
    is_between 48 57 byte || is_between 65 90 byte || is_between 97 122 byte
    || byte == 46 || byte == 95 || byte == 47 || byte == 45

-- the name of a store: 1 to 200 such bytes, of which the first isn't `-`
abbrev pub is_name : List ℕ → Bool
is_name name =
    nat_lt 0 (length name) && nat_le (length name) 200
    && not (slice_index name 0 == 45) && list_all is_name_byte name

-- 1 to 20 decimal digits
abbrev pub is_numeral : List ℕ → Bool
is_numeral text = nat_lt 0 (length text) && nat_le (length text) 20 && list_all is_ascii_digit text

-- the number that 1 to 20 decimal digits write, where it is at most this
abbrev pub number_within : ℕ → List ℕ → Option ℕ
number_within most text =
    if is_numeral text && nat_le (digits_value 10 text) most then Some (digits_value 10 text) else None

-- an option of the command line, with its value
pub record Setting : Type 0 where
  pub option : List ℕ
  pub value : List ℕ

-- a word with `=`, cut at the first one
abbrev pub setting_in : List ℕ → Option Setting
setting_in word =
    option_map (λ place. record { option = take place word; value = drop (place + 1) word }) (position (λ byte. byte == 61) word)

-- The settings that the words are: a word with `=` is one, and any other word is an option that has the word after it as its value. There
-- are none where the last word would be an option without a value.
abbrev pub settings_of : List (List ℕ) → Option (List Setting)
settings_of [] = Some []
settings_of (word ∷ []) = option_map (λ setting. setting ∷ []) (setting_in word)
settings_of (word ∷ next ∷ words) =
    elim (setting_in word) [
      | Some setting ↦ option_map (λ settings. setting ∷ settings) (settings_of (next ∷ words))
      | None ↦ option_map (λ settings. record { option = word; value = next } ∷ settings) (settings_of words)
    ]

-- the value that the settings give this option, the first where it stands twice
abbrev pub value_of : List ℕ → List Setting → Option (List ℕ)
value_of option settings =
    option_map (λ setting. setting.value) (find (λ setting. bytes_eq setting.option option) settings)

-- each option is one of these, and none stands twice
abbrev pub are_options : List (List ℕ) → List Setting → Bool
are_options options [] = true
are_options options (setting ∷ later) =
    list_any (λ own. bytes_eq own setting.option) options && is_none (value_of setting.option later) && are_options options later

-- the name of the store, which has to be set
abbrev pub store_in : List Setting → Option (List ℕ)
store_in settings =
    option_and_then (λ name. if is_name name then Some name else None) (value_of (codes "--store") settings)

-- the greatest number of 64 bits
abbrev pub most_seed : ℕ
most_seed = 18446744073709551615

-- what a setting that points to its words sets
abbrev pub set : ReadSetting → Setting
set setting = record { option = setting.option.now; value = setting.value.now }

-- these words are this setting, and after it those
pub record IsFirst (setting : Setting) (words later : List (List ℕ)) : Type 0 where
  pub settings : settings_of words ≡ option_map (λ settings. setting ∷ settings) (settings_of later)
  pub shorter : length later < length words
