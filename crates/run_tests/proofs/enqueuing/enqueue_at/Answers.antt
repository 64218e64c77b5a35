use Rattle.std.proofs.Common.{◌≡◌, ℕ, List, length, map, sym, ap, ◌∙◌}
use Rattle.std.proofs.lemmas.List.{length-map}
use Rattle.wm_callers.specs.PassState.{PassState}
use Rattle.wm_callers_program.proofs.Histories.{passes-ascend}
use Rattle.wm_callers_program.specs.Lines.{numbers_from}
use Rattle.run_tests.proofs.enqueuing.enqueue_at.Goals as goal

pub closed-requires-clause-all : goal.closed-requires-clause-all
closed-requires-clause-all g c =
    let own : PassState → ℕ = λ pass. pass.number in
    let numbers = c.enqueue_by-passes.ensures ∙ ap (map own) c.requires.fresh in
    sym (length-map c.enqueue_by-passes.result.items own) ∙ ap length numbers ∙ sym c.requires.four

pub closed-requires-clause-ascending : goal.closed-requires-clause-ascending
closed-requires-clause-ascending g c =
    let own : PassState → ℕ = λ pass. pass.number in
    passes-ascend 4 _ (c.enqueue_by-passes.ensures ∙ ap (map own) c.requires.fresh)
