use Rattle.std.proofs.Common.{◌≡◌, ◌++◌, drop, option_map}
use Rattle.wm_rows.specs.Fields.{each_in, greatest, number_in}
use Rattle.wm_rows.proofs.fields.numbers_in.Given as goal

-- the numbers so far, and what is read of the values from here on, are what is read of all
abbrev pub invariant-loop-value : goal.invariant-loop-value
invariant-loop-value l =
    option_map (λ rest. l.numbers ++ rest) (each_in (number_in 1 greatest) (drop l.value-index l.values)) ≡ each_in (number_in 1 greatest) l.values
