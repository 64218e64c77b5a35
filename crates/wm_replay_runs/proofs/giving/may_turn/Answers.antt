use Rattle.std.proofs.Common.{subst}
use Rattle.wm_replay_runs.proofs.Givings.{stock-decides}
use Rattle.wm_replay_runs.specs.Giving.{IsStockAnswer}
use Rattle.wm_worker.specs.Answers.{stock_answer}
use Rattle.wm_replay_runs.proofs.giving.may_turn.Goals as goal

pub returns-in-Some : goal.returns-in-Some
returns-in-Some c =
    let run = c.args.run.now in
    let stock = stock_answer run.kind run.input run.attempt run.turn in
    let has = subst (IsStockAnswer stock) c.in-Some.is c.in_ok-answer.ensures in
    stock-decides stock _ _ _ has.is_stock has.same c.is_more.ensures
