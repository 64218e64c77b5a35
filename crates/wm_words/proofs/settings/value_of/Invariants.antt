-- What is left of the words has the same value of the option as all of them.
use Rattle.std.proofs.Common.{◌≡◌, length, map, option_map, string_bytes}
use Rattle.wm_words.specs.Settings.{settings_of, value_of}
use Rattle.wm_words.proofs.settings.value_of.Given as goal

abbrev pub invariant-loop-option : goal.invariant-loop-option
invariant-loop-option l =
    option_map (value_of l.option) (settings_of (map string_bytes l.rest))
    ≡ option_map (value_of l.option) (settings_of (map string_bytes l.fn.words))

abbrev pub decreases-loop-option : goal.decreases-loop-option
decreases-loop-option l = length l.rest
