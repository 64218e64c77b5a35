use Rattle.std.proofs.Common.{sym, ◌∙◌, ap}
use Rattle.wm_bench.specs.Seat.{Seat}
use Rattle.wm_cli.proofs.Desks.{run-kept}
use Rattle.wm_cli.proofs.desk.Desk.report.Goals as goal

pub invariant_of-result : goal.invariant_of-result
invariant_of-result g c =
    let work = c.args.work in
    let same =
    run-kept _ g.K.Keeper.store g.B.Worker.kind_of work.ticket c.in-Go.ticket work.seat c.in-Go.seat _ _ c.args.told c.report.result c.report.ensures c.in-Go.is in
    record {
      number = ap (λ (seat : Seat _). seat.number) same.0 ∙ work.number ∙ sym same.1;
      kind = ap (λ (seat : Seat _). g.B.Worker.kind_of seat.worker) same.0 ∙ work.kind ∙ sym same.2;
      own_signal = work.own_signal ∙ sym same.3;
    }
