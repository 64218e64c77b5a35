use Rattle.std.proofs.Common.{◌∙◌, ap}
use Rattle.wm_machine.specs.Group.{unnamed}
use Rattle.wm_commands.proofs.clearing.cleared.Goals as goal

pub returns : goal.returns
returns c = c.unnamed.ensures ∙ ap (unnamed c.args.clearing.now.unnamed) c.in_ok-changed.ensures
