use Rattle.wm_steps.proofs.Wakings.{rooms-quiet}
use Rattle.wm_steps.proofs.laws.each_class_has_room_without_a_run.Goals as goal

pub returns : goal.returns
returns c = rooms-quiet
