use Rattle.std.proofs.Common.{◌≡◌, sym, ◌∙◌}
use Rattle.wm_index.proofs.Founds.{none-missing}
use Rattle.wm_index.proofs.work.Work.missing.Goals as goal

pub returns-then-are_same : goal.returns-then-are_same
returns-then-are_same c =
    let same : c.self.inside.tags.items ≡ c.args.tags.now = sym c.as_slice.ensures.value ∙ c.are_same.ensures c.if-are_same.true in
    rw (← c.self.view_is, same) (c.new-missing.ensures.items ∙ sym (none-missing c.args.tags.now))
