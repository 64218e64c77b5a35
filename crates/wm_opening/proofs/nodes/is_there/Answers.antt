use Rattle.std.proofs.Common.{is_some, ap, rules}
use Rattle.wm_opening.proofs.Numbers.{numbered-there}
use Rattle.wm_opening.proofs.nodes.is_there.Goals as goal

pub returns : goal.returns
returns c =
    let there = numbered-there c.args.number c.args.works.now in
    let found = ap is_some c.work_numbered.ensures in
    search (rules, there, found)
