use Rattle.std.proofs.Common.{◌∙◌, filter, ap}
use Rattle.wm_index.specs.Entries.{by_tag}
use Rattle.wm_machine.specs.Group.{numbers_in}
use Rattle.wm_machine.specs.Queried.{has_tag}
use Rattle.wm_machine.specs.declared.state.State.{State}
use Rattle.wm_steps.proofs.FoundEntries.{tags-found}
use Rattle.wm_steps.proofs.view.View.tagged.Goals as goal

pub returns : goal.returns
returns c =
    c.by_tag.ensures ∙ ap (by_tag c.self.inside.index) c.as_str.ensures
    ∙ tags-found c.self.inside.state.works c.self.inside.index c.args.tag.now c.self.invariant.entries_are
    ∙ ap (λ (t : State). numbers_in (filter (λ work. has_tag work.request.tags c.args.tag.now) t.works)) c.self.view_is
