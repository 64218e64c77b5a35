use Rattle.std.proofs.Common.{inl, inr, ◌∙◌, subst}
use Rattle.wm_faults.specs.Faults.{HasCause}
use Rattle.wm_live.specs.Live.{is_for_keeper}
use Rattle.wm_live_program.proofs.program.drive.Goals as goal

pub returns-in-Ok-clause-driven : goal.returns-in-Ok-clause-driven
returns-in-Ok-clause-driven g c =
    let asked = c.ask_and_close.ensures.asked in
    record {
      table = c.args.table;
      no_event = c.requires.empty;
      at_first = c.requires.at_first;
      asked = inr (record { live = c.in-Ok.live; opened = c.in-Ok.ensures.opened; asked = asked });
      first = asked.first ∙ c.in-Ok.ensures.opened.first;
      replay = asked.replay;
    }

pub returns-in-Ok-clause-cause : goal.returns-in-Ok-clause-cause
returns-in-Ok-clause-cause g c =
    let store = g.K.Keeper.store in
    let end = c.ask_and_close.result in
    subst (λ n. HasCause (is_for_keeper end.trouble) n (store end.table.keeper).faults) c.in-Ok.ensures.steady c.ask_and_close.ensures.cause

pub returns-in-Err-clause-driven : goal.returns-in-Err-clause-driven
returns-in-Err-clause-driven g c =
    let trouble = c.in-Err.ensures.err in
    record {
      table = c.args.table;
      no_event = c.requires.empty;
      at_first = c.requires.at_first;
      asked = inl trouble;
      first = trouble.first;
      replay = trouble.replay;
    }
