use Rattle.std.proofs.Common.{ℕ, Bool, List, rules, sym, tests, ◌∙◌}
use Rattle.std.proofs.lemmas.Iterator.Search.{any_from_yields_List}
use Rattle.std.proofs.lemmas.Iterator.{YieldsList-from_slice}
use Rattle.wm_machine.specs.Queried.{has_tag}
use Rattle.wm_query.proofs.Groups.{any_of_group}
use Rattle.wm_query.proofs.queries.any_tag.Goals as goal

pub returns-else-is_empty : goal.returns-else-is_empty
returns-else-is_empty c =
    let asked = c.args.asked.now in
    let test : List ℕ → Bool = has_tag c.args.tags.now in
    any_from_yields_List test _ _ c.any.result c.any.ensures.ran (YieldsList-from_slice asked cc) (λ x b q k. search (rules, tests))
    ∙ any_of_group test asked (sym c.is_empty.ensures ∙ c.if-is_empty.false)
