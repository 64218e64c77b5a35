use Rattle.std.proofs.Common.{◌∙◌, ◌<◌, ◌+◌, ◌^◌, length, sym, ap, subst, arith, ◌++◌, None, []}
use Rattle.wm_session.proofs.Words.{AllByRecursion, AreNumberedFrom, IsAskable, PendingState, Replay, all_here, commands_of}
use Rattle.wm_session.proofs.BookSteps.{AwayInvariant-from}
use Rattle.wm_ended.proofs.WrittenTexts.{IsGivenBut-unwritten}
use Rattle.wm_session.proofs.book.Book.new.Goals as goal

pub invariant_of-result : goal.invariant_of-result
invariant_of-result g c =
    let asked = c.requires in
    let table = c.args.table in
    let left = c.from_vec.ensures.items ∙ c.into_vec.ensures in
    let few : 0 + length c.from_vec.result.items < 2 ^ 32 = omega (arith, ap length left) in
    let none = c.in-Ok.ensures in
    record {
      replay = subst (λ log. Replay table.first log table.state) (sym asked.log) asked.begun;
      valid = asked.valid;
      lines = sym (left ∙ asked.lines) ∙ ap (λ log. commands_of log ++ c.from_vec.result.items) (sym asked.log);
      askable = subst (AllByRecursion IsAskable) (sym left) asked.askable;
      numbered = subst (AreNumberedFrom 1) (sym asked.log) tt;
      line = ap (λ log. length (commands_of log)) (sym asked.log);
      few_lines = few;
      texts = rw (asked.log, none, asked.written) (IsGivenBut-unwritten g.M.Mark.inputs.written []);
      all_told = λ same. ap (λ (p : PendingState). p.untold) none;
      workers = asked.workers;
      away = AwayInvariant-from None _ asked.valid (rw (asked.none_out, asked.no_run) (record { of_runs = tt; each = tt }))
          (all_here g.B.Worker.kind_of c.args.bench table.state.instances asked.workers asked.none_away asked.all_in);
      keeper_later = asked.keeper_faults;
      sink_later = asked.sink_faults;
      cause = tt;
      images = asked.images;
    }
