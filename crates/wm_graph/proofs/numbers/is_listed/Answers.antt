use Rattle.std.proofs.Common.{◌∙◌}
use Rattle.wm_graph.proofs.ListedNumbers.{listed-search}
use Rattle.wm_graph.proofs.numbers.is_listed.Goals as goal

pub returns : goal.returns
returns c = c.is_ok.ensures.value ∙ listed-search c.args.number c.args.numbers.now c.binary_search.result c.requires c.binary_search.ensures.position
