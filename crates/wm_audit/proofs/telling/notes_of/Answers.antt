use Rattle.std.proofs.Common.{List, map, true, ap, ◌∙◌}
use Rattle.wm_audit.proofs.Tellings.{notes-made}
use Rattle.wm_audit.specs.Happened.{pairs_with}
use Rattle.wm_machine.specs.Shown.{info_of}
use Rattle.wm_machine.specs.declared.record.Record.{Record}
use Rattle.wm_machine.specs.declared.reply.WorkInfo.{WorkInfo}
use Rattle.wm_audit.proofs.telling.notes_of.Goals as goal

pub returns-in_ok-pairs-in-Some : goal.returns-in_ok-pairs-in-Some
returns-in_ok-pairs-in-Some c =
    let state = c.args.state.now in
    let seen = c.in-Some.seen in
    let pairs =
    c.as_slice-in-Some-2.ensures ∙ c.in_ok-pairs-in-Some.ensures
    ∙ ap (λ (infos : List WorkInfo). pairs_with infos seen.next (map (info_of c.as_slice-works.result.now) c.as_slice-works.result.now)) c.as_slice.ensures
    ∙ ap (λ (works : List Record). pairs_with seen.infos seen.next (map (info_of works) works)) c.as_slice-works.ensures in
    notes-made c.notes.result c.args.seen.now seen state _ _ c.in-Some.is c.if-not-state.true c.as_slice-in-Some.ensures pairs
    c.notes.ensures
