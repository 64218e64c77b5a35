use Rattle.std.proofs.Common.{◌&&◌, not, sym, ◌∙◌, ap}
use Rattle.wm_commands.proofs.ClearedNumbers.{removable-numbered, there-passing}
use Rattle.wm_commands.specs.Cleared.{is_needed_then, phase_then}
use Rattle.wm_machine.specs.Closed.{is_open}
use Rattle.wm_machine.specs.declared.record.Record.{Record}
use Rattle.wm_commands.proofs.clearing.is_removable_then.Goals as goal

pub is_needed_then-requires : goal.is_needed_then-requires
is_needed_then-requires c =
    there-passing (λ (work : Record). not (is_open (phase_then c.args.cancelled.now work))) c.args.view.now.works c.args.number
    (sym c.is_finished_then.ensures ∙ c.if-is_finished_then.true)

pub returns-in_ok-is_needed_then : goal.returns-in_ok-is_needed_then
returns-in_ok-is_needed_then c =
    let works = c.args.view.now.works in
    let cancelled = c.args.cancelled.now in
    let number = c.args.number in
    ap not c.in_ok-is_needed_then.ensures
    ∙ sym (removable-numbered cancelled works works number
    ∙ ap (λ b. b && not (is_needed_then cancelled works number)) (sym c.is_finished_then.ensures ∙ c.if-is_finished_then.true))
