use Rattle.std.proofs.Common.{◌&&◌, not, sym, ◌∙◌}
use Rattle.std.specs.Str.{bytes_eq}
use Rattle.wm_collections.specs.Lists.{is_among}
use Rattle.wm_unique.proofs.Checked.{any_without}
use Rattle.wm_unique.proofs.Numbered.{any_numbered}
use Rattle.wm_unique.specs.Plans.{grouped}
use Rattle.wm_unique.proofs.checks.is_left.Goals as goal

pub returns : goal.returns
returns c =
    let works = c.args.works.now in
    let known = c.args.known.now in
    let numbers = c.args.let_go.now in
    c.any_left_of_id.ensures
    ∙ any_numbered (λ work. bytes_eq work.request.id c.args.id && not (is_among numbers work.seq)) works known c.requires.in_order c.requires.known
    ∙ sym (any_without (λ work. bytes_eq work.request.id c.args.id) numbers (grouped works known))
