use Rattle.wm_live.proofs.FoundRecords.{found-record}
use Rattle.wm_live.proofs.asked.period_met.Goals as goal

pub due-requires : goal.due-requires
due-requires g c = found-record c.args.table.now.state c.args.id c.in-Some.work.now c.requires c.in-Some.ensures
