use Rattle.std.proofs.Common.{rules, w64}
use Rattle.std.specs.Prelude.{FitsSigned}
use Rattle.std.proofs.lemmas.Int.{to_z-of_z}
use Rattle.std.proofs.lemmas.List.Sorted.{answers_always}
use Rattle.wm_keeper.proofs.Places.{search_found, search_missing}
use Rattle.wm_keeper.proofs.rows.search.Goals as goal

pub returns-clause-found : goal.returns-clause-found
returns-clause-found c =
    let fits : FitsSigned w64 c.args.seq = c.ranges.seq in
    let at = c.binary_search_by_key.ensures.position (λ row. row.seq) (answers_always _ _ _ (λ f a r g called. search rules)) in
    let position = simp to_z-of_z at at in
    search_found c.args.seq c.args.rows.now _ position

pub returns-clause-missing : goal.returns-clause-missing
returns-clause-missing c =
    let fits : FitsSigned w64 c.args.seq = c.ranges.seq in
    let at = c.binary_search_by_key.ensures.position (λ row. row.seq) (answers_always _ _ _ (λ f a r g called. search rules)) in
    let position = simp to_z-of_z at at in
    search_missing c.args.seq c.args.rows.now _ c.requires position
