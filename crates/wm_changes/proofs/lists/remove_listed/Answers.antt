use Rattle.std.proofs.Common.{rules}
use Rattle.std.proofs.lemmas.Fn.{filter_same}
use Rattle.wm_changes.proofs.lists.remove_listed.Goals as goal

pub returns-clause-works : goal.returns-clause-works
returns-clause-works c = let ascend = c.requires in filter_same _ _ _ (λ x b f' k. search (rules, ascend)) _ _ c.retain.ensures.filtered
