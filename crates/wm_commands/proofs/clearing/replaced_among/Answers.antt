use Rattle.std.proofs.Common.{List, [], ◌∷◌, ◌++◌, Some, None, take, sym, ◌∙◌, ap}
use Rattle.std.proofs.lemmas.List.{append-nil}
use Rattle.wm_commands.proofs.ClearedNumbers.{one-more}
use Rattle.wm_commands.specs.Cleared.{cleared_by}
use Rattle.wm_changes.specs.Replacements.{by_numbers}
use Rattle.wm_changes.specs.declared.change.Replacement.{Replacement}
use Rattle.wm_commands.proofs.clearing.replaced_among.Goals as goal
use Rattle.wm_commands.proofs.clearing.replaced_among.Goals.{in-Some+in_ok-push, in_default}

pub loop-number-preserved : goal.loop-number-preserved
loop-number-preserved c =
    let change = cleared_by c.args.clearing.now in
    let works = c.args.view.now.works in
    let numbers = c.args.numbers.now in
    let i = c.loop-number.number-index in
    elim c.match-branch-2.branch [
      | in-Some+in_ok-push w ↦
          w.replaced-is ∙ w.in_ok-push.ensures.ok
          ∙ ap (λ (before : List Replacement). before ++ w.in-Some.replacement ∷ []) c.loop-number.invariant
          ∙ sym (one-more change works numbers i (Some w.in-Some.replacement) c.loop-number-test.true (sym w.in-Some.is ∙ c.in_ok-replacement.ensures))
      | in_default w ↦
          w.replaced-is ∙ c.loop-number.invariant
          ∙ sym (one-more change works numbers i None c.loop-number-test.true (sym w.in_default.is ∙ c.in_ok-replacement.ensures)
          ∙ append-nil (by_numbers change (take i numbers) works))
    ]
