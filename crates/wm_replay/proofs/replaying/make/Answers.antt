use Rattle.wm_machine.specs.declared.event.Event.TheVariants as event
use Rattle.wm_replay.proofs.Steps.{stepped, then_after}
use Rattle.wm_replay.proofs.replaying.make.Goals as goal

pub returns-in-Start : goal.returns-in-Start
returns-in-Start c =
    rw c.in-Start.is (stepped c.args.state.now c.start.new.state (event.Start c.in-Start.run' c.in-Start.seq c.in-Start.instance c.in-Start.input) c.start.result c.start.ensures.legal c.start.ensures.state)

pub returns-in-StartFailed : goal.returns-in-StartFailed
returns-in-StartFailed c =
    rw c.in-StartFailed.is (stepped c.args.state.now c.start_failed.new.state (event.StartFailed c.in-StartFailed.seq c.in-StartFailed.cause) c.start_failed.result c.start_failed.ensures.legal c.start_failed.ensures.state)

pub returns-in-Turn : goal.returns-in-Turn
returns-in-Turn c =
    rw c.in-Turn.is (stepped c.args.state.now c.turn.new.state (event.Turn c.in-Turn.run' c.in-Turn.progress) c.turn.result c.turn.ensures.legal c.turn.ensures.state)

pub returns-in-Finish : goal.returns-in-Finish
returns-in-Finish c =
    rw c.in-Finish.is (stepped c.args.state.now c.finish.new.state (event.Finish c.in-Finish.run' c.in-Finish.end) c.finish.result c.finish.ensures.legal c.finish.ensures.state)

pub returns-in-TimedOut : goal.returns-in-TimedOut
returns-in-TimedOut c =
    rw c.in-TimedOut.is (stepped c.args.state.now c.timed_out.new.state (event.TimedOut c.in-TimedOut.run') c.timed_out.result c.timed_out.ensures.legal c.timed_out.ensures.state)

pub returns-in-Late : goal.returns-in-Late
returns-in-Late c =
    rw c.in-Late.is (record {
      legal_is = c.late.ensures.legal;
      state_is = then_after c.args.state.now c.late.new.state (event.Late c.in-Late.run') c.late.result c.late.ensures.state;
    })
