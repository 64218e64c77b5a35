use Rattle.std.proofs.Common.{◌∙◌, ap}
use Rattle.wm_index.specs.Entries.{by_name}
use Rattle.wm_machine.specs.Group.{members_of, numbers_in}
use Rattle.wm_machine.specs.declared.state.State.{State}
use Rattle.wm_steps.proofs.FoundEntries.{names-found}
use Rattle.wm_steps.proofs.view.View.members.Goals as goal

pub returns : goal.returns
returns c =
    c.by_name.ensures ∙ ap (by_name c.self.inside.index) c.as_str.ensures
    ∙ names-found c.self.inside.state.works c.self.inside.index c.args.name.now c.self.invariant.entries_are
    ∙ ap (λ (t : State). numbers_in (members_of t.works c.args.name.now)) c.self.view_is
