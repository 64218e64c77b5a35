use Rattle.std.proofs.Common.{rules}
use Rattle.std.proofs.lemmas.Result.{IfOk-weaker}
use Rattle.wm_collections.specs.Sets.{IsListOf}
use Rattle.wm_collections.proofs.NumberSets.{merged-are}
use Rattle.wm_collections.specs.Sets.{AreMerged}
use Rattle.wm_collections.proofs.sets.merged.Goals as goal

pub returns : goal.returns
returns c =
    IfOk-weaker c.listed.result (λ list. IsListOf c.add_each-2.new.numbers list.items) (λ numbers. AreMerged c.args.one.now c.args.other.now numbers.items)
    (λ list are. merged-are c.args.one.now c.args.other.now list.items c.new-numbers.result c.add_each.new.numbers c.add_each-2.new.numbers
    (λ number. search rules) c.in_ok-add_each.ensures c.in_ok-add_each-2.ensures are) c.listed.ensures
