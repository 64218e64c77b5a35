-- Lemmas on the words of the command line.
use Rattle.std.proofs.Common.{◌≡◌, ◌⊎◌, ◌==◌, ◌&&◌, inl, inr, ◌<◌, ◌≤◌, ◌^◌, ℕ, Bool, true, false, leb, List, ◌∷◌, length, Option, Some, None, option_map, option_and_then, ap, IfSome, IsSomeAnd, Result, Ok, Err, bytes_eq, codes, cond, refl, sym, subst, arith, rules}
use Rattle.std.specs.Char.{is_ascii_digit}
use Rattle.std.specs.List.{list_all}
use Rattle.std.specs.Option.{option_map_or}
use Rattle.std.specs.Result.{result_ok}
use Rattle.std.specs.Str.Parse.{digits_value, ParsesUnsigned}
use Rattle.std.proofs.lemmas.Bool.{leb-true}
use Rattle.std.proofs.lemmas.Bool.Decides.{nat_tests}
use Rattle.std.proofs.lemmas.Str.Parse.{IsNumeralModel, numerals_by_value, parse_digits}
use Rattle.wm_words.specs.Run.{run_options, Options, asked, options_in, options_of, origin_in, origin_of, workers_in, AskForNoThreads, AskForScript}
use Rattle.wm_words.specs.Settings.{Setting, are_options, is_numeral, most_seed, number_within, settings_of, store_in, value_of}
use Rattle.wm_words.specs.declared.run.Options.{Options as ReadOptions}
use Rattle.wm_words.specs.declared.run.Origin.{Origin}
use Rattle.wm_words.specs.declared.run.Origin.TheVariants.{Script, Seed}

-- texts of digits, and their values, as `parse` has them
digits_read : IsNumeralModel (λ text. list_all is_ascii_digit text ≡ true) (digits_value 10)
digits_read = numerals_by_value _ (search rules)

-- what is no number of the type is above each one that is
above : (most value size : ℕ) → most < 2 ^ 64 → 0 < size → ((0 < size) × (value < 2 ^ 64) → ⊥) → leb value most ≡ false
above most value size fits some none = grind (arith, nat_tests)

-- a numeral that `parse` refuses is above every number of the type
pub number_within-refused : {E : Type 0} (most : ℕ) (text : List ℕ) (r : Result ℕ E) → most < 2 ^ 64 → is_numeral text ≡ true → ParsesUnsigned 64 10 text r → result_ok r ≡ None
    → None ≡ number_within most text
number_within-refused most text (Ok number) fits is parsed refused = absurd cc
number_within-refused most text (Err fault) fits is parsed refused =
    let digits : list_all is_ascii_digit text ≡ true = grind (arith, nat_tests) in
    let some : 0 < length text = grind (arith, nat_tests) in
    let large = above most (digits_value 10 text) (length text) fits some (parse_digits digits_read 64 text (Err fault) parsed digits) in
    rw (is, large) refl

-- so many words that have no first setting can't be read, where there are any
pub none_read : (size : ℕ) (read : Option (List Setting)) → false ≡ (size == 0) → (size ≡ 0) ⊎ (read ≡ None) → read ≡ None
none_read size read some (inl none) = absurd (grind (arith, nat_tests))
none_read size read some (inr is) = is

-- where the words that are left can't be read, all of them couldn't
pub IfSome-unread : (P : List Setting → Type 0) (option : List ℕ) (read : Option (List Setting)) → option_map (value_of option) read ≡ None → IfSome read P
IfSome-unread P option None is = tt
IfSome-unread P option (Some settings) is = absurd cc

-- the value of the first setting of those that are left, where it is of the option
pub value_of-first : (option : List ℕ) (setting : Setting) (later read : Option (List Setting)) → bytes_eq setting.option option ≡ true
    → option_map (value_of option) (option_map (λ settings. setting ∷ settings) later) ≡ option_map (value_of option) read
    → IfSome read (λ settings. Some setting.value ≡ value_of option settings)
value_of-first option setting later None is same = tt
value_of-first option setting None (Some settings) is same = absurd cc
value_of-first option setting (Some others) (Some settings) is same = let first = rw is at same in cc

-- where the words ask for no threads, the options that were read have none
pub no_threads : (words : List (List ℕ)) (options : ReadOptions) → Some (asked options) ≡ options_of words → AskForNoThreads words → options.workers ≡ 0
no_threads words options are none = subst (λ read. IfSome read (λ options. options.workers ≡ 0)) (sym are) none

-- ---- where the lines come from

-- settings without a seed
pub origin_unset : (read : Option (List Setting)) → IfSome read (λ settings. None ≡ value_of (codes "--generate") settings)
    → IfSome read (λ settings. Some Script ≡ origin_in settings)
origin_unset None unset = tt
origin_unset (Some settings) unset = rw (sym unset) refl

-- settings with one
pub origin_set : (read : Option (List Setting)) (value : List ℕ) (number : Option ℕ) → IfSome read (λ settings. Some value ≡ value_of (codes "--generate") settings)
    → number ≡ number_within most_seed value → IfSome read (λ settings. option_map Seed number ≡ origin_in settings)
origin_set None value number is reads = tt
origin_set (Some settings) value number is reads = rw (sym is, reads) refl

-- a seed is a number of 64 bits
abbrev IsOfSeed : Origin → Type 0
IsOfSeed (Seed seed) = seed < 2 ^ 64
IsOfSeed Script = Unit {0}

at_most : (is fits : Bool) (value most : ℕ) → leb value most ≡ fits → IfSome (cond (is && fits) (Some value) None) (λ number. number ≤ most)
at_most true true value most within = leb-true value most within
at_most true false value most within = tt
at_most false fits value most within = tt

IsOfSeed-read : (number : Option ℕ) → IfSome number (λ seed. seed ≤ most_seed) → IfSome (option_map Seed number) IsOfSeed
IsOfSeed-read None within = tt
IsOfSeed-read (Some seed) within = omega arith

IsOfSeed-value : (value : Option (List ℕ)) → IfSome (option_map_or (λ v. option_map Seed (number_within most_seed v)) value (Some Script)) IsOfSeed
IsOfSeed-value None = tt
IsOfSeed-value (Some v) =
    IsOfSeed-read (number_within most_seed v) (at_most (is_numeral v) (leb (digits_value 10 v) most_seed) (digits_value 10 v) most_seed refl)

IsOfSeed-options : (store : Option (List ℕ)) (workers : Option ℕ) (origin : Option Origin) → IfSome origin IsOfSeed
    → IfSome (option_and_then (λ store. option_and_then (λ workers.
    option_map (λ origin. record { store = store; workers = workers; origin = origin }) origin) workers) store) (λ (options : Options). IsOfSeed options.origin)
IsOfSeed-options None workers origin within = tt
IsOfSeed-options (Some store) None origin within = tt
IsOfSeed-options (Some store) (Some workers) None within = tt
IsOfSeed-options (Some store) (Some workers) (Some origin) within = within

abbrev origin_or : Option Options → Origin
origin_or options = option_map_or (λ options. options.origin) options Script

IsOfSeed-settings : (are : Bool) (options : Option Options) → IfSome options (λ options. IsOfSeed options.origin) → IsOfSeed (origin_or (cond are options None))
IsOfSeed-settings true None within = tt
IsOfSeed-settings true (Some options) within = within
IsOfSeed-settings false options within = tt

IsOfSeed-words : (read : Option (List Setting))
    → IsOfSeed (origin_or (option_and_then (λ settings. cond (are_options run_options settings) (options_in settings) None) read))
IsOfSeed-words None = tt
IsOfSeed-words (Some settings) =
    IsOfSeed-settings (are_options run_options settings) (options_in settings)
    (IsOfSeed-options (store_in settings) (workers_in settings) (origin_in settings) (IsOfSeed-value (value_of (codes "--generate") settings)))

-- each seed that the words give is a number of 64 bits
pub origin-fits : (words : List (List ℕ)) (seed : ℕ) → origin_of words ≡ Seed seed → seed < 2 ^ 64
origin-fits words seed is = subst IsOfSeed is (IsOfSeed-words (settings_of words))

-- it is what the options that were read have
pub origin_read : (words : List (List ℕ)) (options : ReadOptions) → Some (asked options) ≡ options_of words → origin_of words ≡ options.origin
origin_read words options are = ap origin_or (sym are)

-- where the words ask for a script, the options that were read do
pub script_asked : (words : List (List ℕ)) (options : ReadOptions) → Some (asked options) ≡ options_of words → AskForScript words → options.origin ≡ Script
script_asked words options are asks = subst (λ read. IsSomeAnd read (λ options. options.origin ≡ Script)) (sym are) asks
