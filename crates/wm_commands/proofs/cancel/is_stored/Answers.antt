use Rattle.std.proofs.Common.{◌∙◌, ap}
use Rattle.std.specs.Option.{is_some}
use Rattle.wm_commands.proofs.IndexedWorks.{stored-found}
use Rattle.wm_commands.proofs.cancel.is_stored.Goals as goal

pub returns : goal.returns
returns c = c.is_some.ensures ∙ ap is_some c.number_of.ensures ∙ stored-found c.args.view.now.works c.args.id
