use Rattle.std.proofs.Common.{◌∙◌, option_map, ap}
use Rattle.wm_machine.specs.Cancelled.{work_with_id}
use Rattle.wm_machine.specs.declared.record.Record.{Record}
use Rattle.wm_machine.specs.declared.state.State.{State}
use Rattle.wm_steps.proofs.FoundEntries.{id-found}
use Rattle.wm_steps.proofs.view.View.number_of.Goals as goal

pub returns : goal.returns
returns c =
    c.by_id.ensures ∙ id-found c.self.inside.state.works c.self.inside.index c.args.id c.self.invariant.entries_are
    ∙ ap (λ (t : State). option_map (λ (work : Record). work.seq) (work_with_id t.works c.args.id)) c.self.view_is
