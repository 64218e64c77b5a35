use Rattle.std.proofs.Common.{◌≡◌, Some, refl, rules}
use Rattle.wm_machine.specs.Runs.{run_numbered}
use Rattle.wm_replay_runs.proofs.turning.turning_work.Goals as goal

pub returns-then-branch : goal.returns-then-branch
returns-then-branch c =
    let s = c.args.state.now in
    let found : run_numbered c.args.number s.runs ≡ Some c.in-Some.run'.now = search rules in
    record {
      legal = record {
        report = record {
          run = c.in-Some.run'.now;
          is_running = found;
          is_current = c.if-run.true;
          may_give = c.in_ok-may_turn.ensures.0 c.if-branch.true;
        };
        turns_left = c.if-run-lt-LAST_TURN.true;
      };
      of = refl;
    }
