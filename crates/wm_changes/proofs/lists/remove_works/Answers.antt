use Rattle.std.proofs.Common.{◌≡◌, ℕ, not, List, filter, length, rules, ◌∙◌, ap}
use Rattle.wm_collections.specs.Lists.{is_among}
use Rattle.wm_machine.specs.declared.record.Record.{Record}
use Rattle.wm_graph.proofs.ListedNumbers.{sorted-ascend}
use Rattle.wm_changes.specs.StepChanges.{without}
use Rattle.wm_changes.proofs.RemovedWorks.{none-removed, removed-sorted}
use Rattle.wm_changes.proofs.lists.remove_works.Goals as goal

pub returns-then-is_empty-clause-works : goal.returns-then-is_empty-clause-works
returns-then-is_empty-clause-works c =
    let none : length c.args.removed ≡ 0 = search rules in
    none-removed c.args.removed c.args.works.now.items none

pub remove_listed-requires : goal.remove_listed-requires
remove_listed-requires c = rw c.deref.ensures.value (sorted-ascend c.sort_unstable.new.self.items c.sort_unstable.ensures.sorted)

pub returns-clause-works : goal.returns-clause-works
returns-clause-works c =
    let works = c.args.works.now.items in
    let given : c.into_vec-numbers.result.items ≡ c.args.removed = search rules in
    c.remove_listed.ensures.works
    ∙ ap (λ (numbers : List ℕ). filter (λ (work : Record). not (is_among numbers work.seq)) works) c.deref.ensures.value
    ∙ removed-sorted c.into_vec-numbers.result.items c.sort_unstable.new.self.items works c.sort_unstable.ensures.permutation
    ∙ ap (λ (removed : List ℕ). without removed works) given
