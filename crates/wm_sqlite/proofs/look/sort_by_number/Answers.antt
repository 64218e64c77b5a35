use Rattle.std.proofs.Common.{rules}
use Rattle.std.proofs.lemmas.Fn.{always_returns_same}
use Rattle.wm_sqlite.proofs.HeldRows.{climbs_ascends, sorted_climbs, Differ-same}
use Rattle.wm_sqlite.proofs.Rests.{on_ok_then}
use Rattle.wm_sqlite.proofs.look.sort_by_number.Goals as goal

pub returns-clause-ascending : goal.returns-clause-ascending
returns-clause-ascending c =
    on_ok_then c.sort_by_key.result c.sort_by_key.ensures.sorted (λ up apart.
    climbs_ascends _ (sorted_climbs _ (up (λ row. row.seq) (always_returns_same _ _ _ (λ a r q k. search rules))))
    (Differ-same _ _ c.sort_by_key.ensures.permutation apart))
