-- What the reader of each name reads is what a value of that name says.
use Rattle.serde_json.specs.View.{view}
use Rattle.wm_serve_text.specs.Lines.{alone, beat_of, failure_of, of_id, progress_of, retry_of, success_of}
use Rattle.wm_serve_text.specs.declared.lines.Met.TheVariants as met
use Rattle.wm_serve_text.specs.declared.lines.SessionLine.TheVariants as line
use Rattle.wm_serve_text.proofs.reading.named_line.Goals as goal

pub returns-in-progress : goal.returns-in-progress
returns-in-progress c = rw c.in-progress.is (c.or_faulty.ensures (progress_of (view c.args.value.now)) c.progress_of.ensures.ok c.progress_of.ensures.err)

pub returns-in-success : goal.returns-in-success
returns-in-success c = rw c.in-success.is (c.or_faulty-in-success.ensures (success_of (view c.args.value.now)) c.success_of.ensures.ok c.success_of.ensures.err)

pub returns-in-failure : goal.returns-in-failure
returns-in-failure c = rw c.in-failure.is (c.or_faulty-in-failure.ensures (failure_of (view c.args.value.now)) c.failure_of.ensures.ok c.failure_of.ensures.err)

pub returns-in-retry : goal.returns-in-retry
returns-in-retry c = rw c.in-retry.is (c.or_faulty-in-retry.ensures (retry_of (view c.args.value.now)) c.retry_of.ensures.ok c.retry_of.ensures.err)

pub returns-in-beat : goal.returns-in-beat
returns-in-beat c = rw c.in-beat.is (c.or_faulty-in-beat.ensures (beat_of (view c.args.value.now)) c.beat_of.ensures.ok c.beat_of.ensures.err)

pub returns-in-close : goal.returns-in-close
returns-in-close c = rw c.in-close.is (c.or_faulty-in-close.ensures (alone line.Close (view c.args.value.now)) c.alone.ensures.ok c.alone.ensures.err)

pub returns-in-delay_met : goal.returns-in-delay_met
returns-in-delay_met c = rw c.in-delay_met.is (c.or_faulty-in-delay_met.ensures (of_id met.Delay (view c.args.value.now)) c.delay_met_of.ensures.ok c.delay_met_of.ensures.err)

pub returns-in-period_met : goal.returns-in-period_met
returns-in-period_met c = rw c.in-period_met.is (c.or_faulty-in-period_met.ensures (of_id met.Period (view c.args.value.now)) c.period_met_of.ensures.ok c.period_met_of.ensures.err)

pub returns-in-constraints_met : goal.returns-in-constraints_met
returns-in-constraints_met c = rw c.in-constraints_met.is (c.or_faulty-in-constraints_met.ensures (of_id met.Constraints (view c.args.value.now)) c.constraints_met_of.ensures.ok c.constraints_met_of.ensures.err)

pub returns-in-wake : goal.returns-in-wake
returns-in-wake c = rw c.in-wake.is (c.or_faulty-in-wake.ensures (alone line.Wake (view c.args.value.now)) c.alone-in-wake.ensures.ok c.alone-in-wake.ensures.err)
