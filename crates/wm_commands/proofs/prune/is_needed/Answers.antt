use Rattle.std.proofs.Common.{◌∙◌, ap}
use Rattle.wm_commands.proofs.ClearedNumbers.{needed-now}
use Rattle.wm_commands.specs.Cleared.{is_needed_then}
use Rattle.wm_commands.proofs.prune.is_needed.Goals as goal

pub returns : goal.returns
returns c =
    let works = c.args.view.now.works in
    let number = c.args.number in
    c.in_ok-needed.ensures ∙ ap (λ cancelled. is_needed_then cancelled works number) c.none-cancelled.ensures ∙ needed-now works number
