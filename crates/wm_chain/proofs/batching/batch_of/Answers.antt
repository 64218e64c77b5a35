use Rattle.std.proofs.Common.{◌≡◌, None, rules}
use Rattle.wm_chain.proofs.Sound.{IsBatch-sound}
use Rattle.wm_chain.specs.Walk.{fault_in}
use Rattle.wm_chain.proofs.batching.batch_of.Goals as goal

pub new-requires : goal.new-requires
new-requires c =
    let none : fault_in c.args.works ≡ None = search rules in
    IsBatch-sound c.args.works c.requires none
