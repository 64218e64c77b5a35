use Rattle.std.proofs.Common.{◌≡◌, Some, refl, rules}
use Rattle.wm_machine.specs.Runs.{run_numbered}
use Rattle.wm_replay_runs.proofs.finishing.timed_out_run.Goals as goal

pub returns-then-branch : goal.returns-then-branch
returns-then-branch c =
    let s = c.args.state.now in
    let found : run_numbered c.args.number s.runs ≡ Some c.in-Some.run'.now = search rules in
    let more = c.in_ok-may_want_more.ensures.0 c.if-branch.true in
    record {
      legal = record {
        progress = more.0;
        report = record {
          run = c.in-Some.run'.now;
          is_running = found;
          is_current = c.if-run.true;
          may_give = more.1;
        };
        none_left = c.if-run-eq-LAST_TURN.true;
      };
      of = record { seq = refl; instance = refl; renewed = refl };
    }
