use Rattle.std.proofs.Common.{◌≡◌, true, Option, Some, None, slice_get, rules, subst}
use Rattle.std.specs.Prelude.{IsSomeAnd}
use Rattle.wm_machine.specs.Input.{work_numbered}
use Rattle.wm_machine.specs.Runs.{run_numbered}
use Rattle.wm_machine.specs.declared.record.Record.{Record}
use Rattle.wm_machine.specs.Valid.{IsWorkOf}
use Rattle.wm_machine.specs.declared.state.Run.{Run}
use Rattle.wm_runs.proofs.RunLookups.{found-at, work-found}
use Rattle.wm_steps.proofs.Views.{reached-view}
use Rattle.wm_runs.proofs.reports.found_run.Goals as goal

pub unreachable-requires-in_default-place_of : goal.unreachable-requires-in_default-place_of
unreachable-requires-in_default-place_of c =
    let s = c.args.view.now in
    let reached = reached-view _ s _ c.view.view_is c.view.invariant in
    let run = c.in-Some.run'.now in
    let found : run_numbered c.args.number s.runs ≡ Some run = search rules in
    let none : work_numbered run.seq s.works ≡ None = search rules in
    subst (λ (o : Option Record). IsSomeAnd o (IsWorkOf run)) none
    (work-found s c.args.number run reached found (subst (λ (found : Option Run). IsSomeAnd found (λ run. run.current ≡ true)) found c.requires))

pub returns : goal.returns
returns c =
    let s = c.args.view.now in
    let number = c.args.number in
    let reached = reached-view _ s _ c.view.view_is c.view.invariant in
    let run = c.in-Some.run'.now in
    let index = c.in-Some-place_of.index in
    let work = c.work_at.result.now in
    let found : run_numbered number s.runs ≡ Some run = search rules in
    let there : slice_get s.works index ≡ Some work = search rules in
    let same : work_numbered run.seq s.works ≡ slice_get s.works index = search rules in
    let current = subst (λ (found : Option Run). IsSomeAnd found (λ run. run.current ≡ true)) found c.requires in
    found-at s number index run work reached found current there same
