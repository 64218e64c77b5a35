use Rattle.std.proofs.Common.{◌≡◌, eqb, Some, rules}
use Rattle.wm_collections.proofs.Lists.{All-find}
use Rattle.wm_machine.specs.Input.{work_numbered}
use Rattle.wm_machine.specs.declared.record.Record.{Record}
use Rattle.wm_observe.proofs.StepRecords.{old-records}
use Rattle.wm_observe.specs.Compared.{StaysRecord}
use Rattle.wm_steps.proofs.Views.{reached-view}
use Rattle.wm_observe.proofs.comparing.add_numbered.Goals as goal

pub pair_at-requires-clause-record : goal.pair_at-requires-clause-record
pair_at-requires-clause-record c =
    let s = c.args.view.now in
    let change = c.args.change.now in
    let found : work_numbered c.args.number s.works ≡ Some c.in-Some.work.now = search rules in
    All-find (StaysRecord change) (λ (work : Record). eqb work.seq c.args.number) s.works c.in-Some.work.now found
    (old-records s change (reached-view _ s _ c.view.view_is c.view.invariant) c.requires.step)
