use Rattle.std.proofs.Common.{refl, sym, ◌∙◌, subst}
use Rattle.wm_live.proofs.DrainSteps.{drained-nothing, drained-then, stopped-then}
use Rattle.wm_live.specs.Drained.{HasSettled}
use Rattle.wm_live.proofs.drive.drain_at.Goals as goal

pub starts-init : goal.starts-init
starts-init g c = record { rest = record { replay = c.replays.ensures; idle = c.requires }; drained = drained-nothing c.args.stand.now; same = refl }

pub starts-preserved : goal.starts-preserved
starts-preserved g c =
    let kept = c.starts.invariant in
    let driven = c.in-Driven.ensures in
    record {
      rest = driven.advanced.rest;
      drained = drained-then c.args.stand.now c.starts.stand c.drive_first.new.stand kept.drained driven.advanced.drained;
      same = driven.cause ∙ kept.same;
    }

pub returns-in-Nothing-clause-drained : goal.returns-in-Nothing-clause-drained
returns-in-Nothing-clause-drained g c =
    let kept = c.starts.invariant in
    let nothing = c.in-Nothing.ensures.advanced in
    subst (HasSettled g.B.Worker.kind_of c.args.stand.now) (sym nothing.same) (record {
      drained = kept.drained;
      rest = kept.rest;
      quiet = record { nothing_startable = nothing.none_first; no_run = kept.rest.idle.no_run };
    })

pub returns-in-Stopped-clause-drained : goal.returns-in-Stopped-clause-drained
returns-in-Stopped-clause-drained g c =
    stopped-then g.B.Worker.kind_of c.in-Stopped.trouble c.args.stand.now c.starts.stand c.drive_first.new.stand c.starts.invariant.drained c.in-Stopped.ensures.advanced
