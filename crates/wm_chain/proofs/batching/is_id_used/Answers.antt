use Rattle.std.proofs.Common.{sym, ap, ◌∙◌}
use Rattle.std.specs.List.{list_any}
use Rattle.std.specs.Str.{bytes_eq}
use Rattle.wm_collections.proofs.Lists.{list_any_after}
use Rattle.wm_request.specs.declared.request.Node.{Node}
use Rattle.wm_chain.proofs.batching.is_id_used.Goals as goal

pub returns : goal.returns
returns c =
    let works = c.args.before.now in
    c.has_work.ensures ∙ ap (λ id. list_any (λ (work : Node). bytes_eq work.request.id id) works) c.id.ensures
    ∙ sym (list_any_after (λ id. bytes_eq id c.args.work.now.request.id) (λ (work : Node). work.request.id) works)
