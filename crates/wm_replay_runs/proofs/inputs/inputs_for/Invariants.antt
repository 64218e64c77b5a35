use Rattle.std.proofs.Common.{◌≡◌, ◌∷◌, ◌++◌, drop, filter_map, option_map}
use Rattle.wm_machine.specs.Input.{outputs_for, work_numbered}
use Rattle.wm_machine.specs.declared.record.Record.{Record}
use Rattle.wm_replay_runs.proofs.inputs.inputs_for.Given as goal

-- the inputs so far and the outputs of the prerequisites that are left are all
abbrev pub invariant-loop-number : goal.invariant-loop-number
invariant-loop-number l =
    l.inputs ++ filter_map (λ seq. option_map (λ (prior : Record). prior.output) (work_numbered seq l.works)) (drop l.number-index l.work.prior)
    ≡ l.work.request.input ∷ outputs_for l.works l.work
