use Rattle.std.proofs.Common.{◌≡◌, rules, w64}
use Rattle.std.proofs.lemmas.Int.{to_z-of_z}
use Rattle.std.specs.Ordering.{int_eq}
use Rattle.std.specs.Prelude.{FitsSigned}
use Rattle.indexmap.specs.IndexMap.{insert_entry}
use Rattle.wm_gathering.proofs.Merging.{AreByNumber-insert, changed-insert}
use Rattle.wm_keeper.specs.Keeper.{changed_number}
use Rattle.wm_gathering.proofs.waiting.put.Goals as goal

-- the entries after it
inserted : (c : goal.After-drop)
    → c.insert.new.self.entries ≡ insert_entry int_eq c.args.waiting.now.entries (changed_number c.args.change) c.args.change
inserted c =
    let fits : FitsSigned w64 c.number_of-number.result = search rules in
    let entries = rw c.unwrap.ensures at c.insert.ensures.entries in
    let kept = simp (to_z-of_z w64 c.number_of-number.result fits) at entries in
    rw c.number_of-number.ensures at kept

pub returns-clause-by_number : goal.returns-clause-by_number
returns-clause-by_number c = rw (inserted c) (AreByNumber-insert c.args.change c.args.waiting.now.entries c.requires.by_number)

pub returns-clause-merged : goal.returns-clause-merged
returns-clause-merged c = λ rows up.
    rw (inserted c) (changed-insert c.args.change c.args.waiting.now.entries rows c.requires.by_number c.requires.unique up)
