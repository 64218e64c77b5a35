use Rattle.std.proofs.Common.{sym, ◌∙◌}
use Rattle.std.specs.Str.{bytes_eq}
use Rattle.wm_collections.proofs.Lists.{list_any_after}
use Rattle.wm_request.specs.declared.request.Node.{Node}
use Rattle.wm_unique.proofs.checks.has_id.Goals as goal

pub returns : goal.returns
returns c = c.has_work.ensures ∙ sym (list_any_after (λ id. bytes_eq id c.args.id) (λ (work : Node). work.request.id) c.args.batch.now)
