use Rattle.wm_replay_runs.proofs.TurnLemmas.{late-made}
use Rattle.wm_replay_runs.proofs.returning.late.Goals as goal

pub returns-clause-state : goal.returns-clause-state
returns-clause-state c =
    late-made c.args.state.now c.args.run c.in-Some.instance c.remove_run.new.runs c.set_out.new.instances c.in-Some.ensures c.remove_run.ensures
    c.set_out.ensures
