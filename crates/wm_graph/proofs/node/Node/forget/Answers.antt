use Rattle.std.proofs.Common.{◌≡◌, ◌==◌, not, filter, refl, rules}
use Rattle.std.proofs.lemmas.Fn.{filter_same}
use Rattle.wm_graph.proofs.node.Node.forget.Goals as goal

pub returns-then-not-was_done : goal.returns-then-not-was_done
returns-then-not-was_done c =
    let kept : c.retain.new.self.items ≡ filter (λ number. not (number == c.args.seq)) c.self.inside.before.items =
    filter_same _ _ _ (λ x b f' k. search rules) _ _ c.retain.ensures.filtered in
    rw (← c.self.view_is, kept, c.if-not-was_done.true, c.saturating_sub-self-inside.ensures) refl

pub returns-else-not-was_done : goal.returns-else-not-was_done
returns-else-not-was_done c =
    let kept : c.retain.new.self.items ≡ filter (λ number. not (number == c.args.seq)) c.self.inside.before.items =
    filter_same _ _ _ (λ x b f' k. search rules) _ _ c.retain.ensures.filtered in
    rw (← c.self.view_is, kept, c.if-not-was_done.false) refl
