-- What is told of works by their numbers.
use Rattle.std.specs.Prelude.{◌≡◌, ℕ, List, filter_map, Some, option_map}
use Rattle.wm_machine.specs.Input.{work_numbered}
use Rattle.wm_machine.specs.Shown.{info_of}
use Rattle.wm_machine.specs.declared.record.Record.{Record}
use Rattle.wm_machine.specs.declared.reply.WorkInfo.{WorkInfo}

-- a work is the one of its number
abbrev pub IsThere : List Record → Record → Type 0
IsThere works work = work_numbered work.seq works ≡ Some work

-- what is told of the works of these numbers, in their order
abbrev pub infos_numbered : List Record → List ℕ → List WorkInfo
infos_numbered works numbers = filter_map (λ number. option_map (info_of works) (work_numbered number works)) numbers
