use Rattle.std.proofs.Common.{◌==◌, ◌&&◌, ◌||◌, ap, sym, ◌∙◌}
use Rattle.std.specs.List.{list_any}
use Rattle.wm_commands.proofs.Placings.{any_either}
use Rattle.wm_commands.specs.Placed.{is_done}
use Rattle.wm_machine.specs.declared.record.Record.{Record}
use Rattle.wm_commands.proofs.placing.has_either.Goals as goal

pub returns-then-has_stored : goal.returns-then-has_stored
returns-then-has_stored c =
    let test = λ (work : Record). work.seq == c.args.number && is_done c.args.how work.phase in
    c.if-has_stored.true
    ∙ sym (any_either c.args.clearing.now c.args.view.now.works c.args.placed.now c.args.number c.args.how
    ∙ ap (λ b. b || list_any test c.args.placed.now) (sym c.has_stored.ensures ∙ c.if-has_stored.true))

pub returns-else-has_stored : goal.returns-else-has_stored
returns-else-has_stored c =
    let test = λ (work : Record). work.seq == c.args.number && is_done c.args.how work.phase in
    c.has_placed.ensures
    ∙ sym (any_either c.args.clearing.now c.args.view.now.works c.args.placed.now c.args.number c.args.how
    ∙ ap (λ b. b || list_any test c.args.placed.now) (sym c.has_stored.ensures ∙ c.if-has_stored.false))
