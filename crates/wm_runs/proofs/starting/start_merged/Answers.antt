use Rattle.std.proofs.Common.{refl, ◌∙◌}
use Rattle.wm_machine.proofs.Firsts.{idle_instance-live}
use Rattle.wm_machine.proofs.Inputs.{start_refusal-no_input}
use Rattle.wm_machine.specs.Input.{input_of}
use Rattle.wm_runs.proofs.starting.start_merged.Goals as goal

pub start-requires-clause-input : goal.start-requires-clause-input
start-requires-clause-input c = rw c.in-Ok.is at c.in_ok-input.ensures

pub fail-requires-clause-refused : goal.fail-requires-clause-refused
fail-requires-clause-refused c =
    let s = c.args.view.now in
    let work = c.args.work.now in
    let idle = c.args.idle.now in
    let refused = rw c.in-Err.is at c.in_ok-input.ensures in
    start_refusal-no_input s work (input_of s work) (idle_instance-live s.instances work.request.class idle c.requires.idle) refl ∙ refused
