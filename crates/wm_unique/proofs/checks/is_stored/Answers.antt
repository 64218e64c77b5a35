use Rattle.std.proofs.Common.{◌∙◌}
use Rattle.std.specs.Str.{bytes_eq}
use Rattle.wm_unique.proofs.Numbered.{any_numbered}
use Rattle.wm_unique.proofs.checks.is_stored.Goals as goal

pub returns : goal.returns
returns c =
    c.any_of_id.ensures ∙ any_numbered (λ work. bytes_eq work.request.id c.args.id) c.args.works.now c.args.known.now c.requires.in_order c.requires.known
