use Rattle.std.proofs.Common.{◌≡◌, filter, refl, rules, sym, ◌∙◌}
use Rattle.std.proofs.lemmas.Fn.{filter_same}
use Rattle.wm_index.specs.Entries.{has_tag}
use Rattle.wm_index.proofs.Founds.{own-kept}
use Rattle.wm_index.proofs.work.Work.keep.Goals as goal

pub returns-then-are_same : goal.returns-then-are_same
returns-then-are_same c =
    let same : c.self.inside.tags.items ≡ c.args.tags.now = sym c.as_slice.ensures.value ∙ c.are_same.ensures c.if-are_same.true in
    rw (← c.self.view_is, same, own-kept c.args.tags.now) refl

pub returns : goal.returns
returns c =
    let kept : c.retain.new.self.items ≡ filter (has_tag c.args.tags.now) c.self.inside.tags.items =
    filter_same _ _ _ (λ x b f' k. search rules) _ _ c.retain.ensures.filtered in
    rw (← c.self.view_is, kept) refl
