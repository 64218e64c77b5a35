use Rattle.wm_machine.proofs.Settles.{settled-unchanged}
use Rattle.wm_settings.proofs.settle.execute.Goals as goal

pub replying-requires : goal.replying-requires
replying-requires c = record { askable = tt; is = settled-unchanged c.args.view.now c.requires.legal.answered }
