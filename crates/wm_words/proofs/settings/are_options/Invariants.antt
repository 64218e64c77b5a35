-- What is left of the words are settings that there are exactly where all of them are.
use Rattle.std.proofs.Common.{◌≡◌, false, length, map, string_bytes}
use Rattle.std.specs.Option.{option_map_or}
use Rattle.wm_words.specs.Settings.{are_options, settings_of}
use Rattle.wm_words.proofs.settings.are_options.Given as goal

abbrev pub invariant-loop-rest : goal.invariant-loop-rest
invariant-loop-rest l =
    option_map_or (are_options (map (λ own. own.now) l.fn.options)) (settings_of (map string_bytes l.rest)) false
    ≡ option_map_or (are_options (map (λ own. own.now) l.fn.options)) (settings_of (map string_bytes l.fn.words)) false

abbrev pub decreases-loop-rest : goal.decreases-loop-rest
decreases-loop-rest l = length l.rest
