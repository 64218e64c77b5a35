use Rattle.std.proofs.Common.{◌≡◌, rules, Some, None}
use Rattle.wm_machine.proofs.Firsts.{first_of-no_worker, start_refusal-no_worker}
use Rattle.wm_machine.specs.First.{first_of, idle_instance}
use Rattle.wm_runs.proofs.starting.claim_first.Goals as goal

pub fail-requires-clause-refused : goal.fail-requires-clause-refused
fail-requires-clause-refused c =
    let s = c.args.view.now in
    let work = c.work_at-work.result.now in
    let first : first_of s ≡ Some work = search rules in
    let none : idle_instance s.instances work.request.class ≡ None = search rules in
    start_refusal-no_worker s work (first_of-no_worker s work first none)
