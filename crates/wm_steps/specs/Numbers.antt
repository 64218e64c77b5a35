-- The works that numbers are of.
use Rattle.std.specs.Prelude.{ℕ, List, filter_map}
use Rattle.wm_machine.specs.Input.{work_numbered}
use Rattle.wm_machine.specs.declared.record.Record.{Record}

-- the records of these numbers that are there, in the order of the numbers
abbrev pub numbered : List Record → List ℕ → List Record
numbered works numbers = filter_map (λ number. work_numbered number works) numbers
