-- A record that takes the place of another without succeeding.
use Rattle.std.proofs.Common.{◌≡◌, ◌&&◌, true, eqb, List, sym, ◌∙◌}
use Rattle.std.proofs.lemmas.Bool.{and_from, eq-eqb, false≢true}
use Rattle.wm_collections.proofs.Lists.{list_any-stored}
use Rattle.wm_collections.specs.Lists.{HasOne}
use Rattle.wm_machine.specs.First.{is_succeeded}
use Rattle.wm_machine.specs.declared.record.Record.{Record}
use Rattle.wm_changes.specs.Readiness.{Succeeds}

-- it has succeeded only where that had
abbrev pub Unsucceeding : Record → Record → Type 0
Unsucceeding old new = is_succeeded new.phase ≡ true → is_succeeded old.phase ≡ true

-- then none succeeds
pub unsucceeding-not : (old new : Record) (works : List Record) → HasOne (λ other. other ≡ old) works → new.seq ≡ old.seq → Unsucceeding old new
    → Succeeds works new → ⊥
unsucceeding-not old new works stored same none is =
    false≢true (sym is.not_before ∙ list_any-stored (λ other. eqb other.seq new.seq && is_succeeded other.phase) works old stored
    (and_from _ _ (eq-eqb old.seq new.seq (sym same)) (none is.succeeded)))
