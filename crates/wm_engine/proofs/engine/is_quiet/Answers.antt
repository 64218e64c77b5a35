use Rattle.std.proofs.Common.{◌≡◌, [], length, sym, subst}
use Rattle.std.proofs.lemmas.Bool.{eqb-true}
use Rattle.std.proofs.lemmas.List.{nil_from_length}
use Rattle.wm_machine.specs.declared.state.State.{State}
use Rattle.wm_engine.proofs.Steps.{quiet-told}
use Rattle.wm_engine.proofs.engine.is_quiet.Goals as goal

pub returns-then-is_empty : goal.returns-then-is_empty
returns-then-is_empty c =
    let s = c.args.view.now in
    let s_is : c.view.inside.state ≡ s = cc in
    let no_run = subst (λ (t : State). t.runs ≡ []) s_is (nil_from_length c.view.inside.state.runs (eqb-true (length c.view.inside.state.runs) 0 (sym c.if-is_empty.ensures))) in
    quiet-told s c.first.result c.is_none.result c.first.ensures c.is_none.ensures no_run
