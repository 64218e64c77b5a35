use Rattle.std.proofs.Common.{List, sym, ap, ◌∙◌, subst}
use Rattle.wm_audit.proofs.Openings.{of_rows-works}
use Rattle.wm_machine.proofs.Openings.{works-reopened}
use Rattle.wm_machine.specs.Opened.{next_number, opening_state}
use Rattle.wm_machine.specs.Valid.{AreWorks}
use Rattle.wm_machine.specs.declared.record.Record.{Record}
use Rattle.wm_audit.proofs.opening.opened.Goals as goal

pub opening_state-requires : goal.opening_state-requires
opening_state-requires c =
    let works = c.args.works in
    subst (λ (works : List Record). AreWorks (next_number works) works) (sym c.reopened.ensures) (works-reopened works (of_rows-works works c.requires))

pub returns : goal.returns
returns c = c.opening_state.ensures ∙ ap (λ (works : List Record). opening_state works c.args.instances) c.reopened.ensures
