use Rattle.std.proofs.Common.{◌&&◌, is_some, ◌∙◌}
use Rattle.std.specs.Str.{bytes_eq}
use Rattle.wm_unique.proofs.Numbered.{any_numbered}
use Rattle.wm_unique.proofs.checks.is_stored_periodic.Goals as goal

pub returns : goal.returns
returns c =
    c.any_periodic_of_id.ensures
    ∙ any_numbered (λ work. bytes_eq work.request.id c.args.id && is_some work.request.period) c.args.works.now c.args.known.now c.requires.in_order
    c.requires.known
