use Rattle.std.proofs.Common.{◌≡◌, ◌<◌, Some, arith}
use Rattle.wm_audit.proofs.Cuts.{later-shorter}
use Rattle.wm_audit.proofs.Reachings.{found-end, reached-few, reached-next, reached-ready}
use Rattle.wm_audit_text.specs.Audits.{next_line}
use Rattle.wm_audit.proofs.checking.check.Goals as goal

pub returns-then-branch : goal.returns-then-branch
returns-then-branch c =
    let cut : next_line c.lines.rest.now ≡ Some (c.in-Some.line.now, c.in-Some.later.now) = c.in-Some.ensures in
    found-end c.args.bytes.now c.lines.rest.now c.lines.number c.lines.place c.in-Some.line.now c.in-Some.later.now c.judged.result c.lines.invariant cut
    (c.in_ok-is_end.ensures.0 c.if-branch.true) c.judged.ensures

pub next_place-requires : goal.next_place-requires
next_place-requires c =
    let cut : next_line c.lines.rest.now ≡ Some (c.in-Some.line.now, c.in-Some.later.now) = c.in-Some.ensures in
    let few = reached-few c.args.bytes.now c.lines.rest.now c.lines.number c.lines.place c.in-Some.line.now c.in-Some.later.now c.lines.invariant cut in
    let below : c.lines.number < 18446744073709551615 = omega (arith, few) in
    reached-ready c.args.bytes.now c.lines.rest.now c.lines.number c.lines.place c.lines.invariant below

pub overflow_add-number : goal.overflow_add-number
overflow_add-number c =
    let cut : next_line c.lines.rest.now ≡ Some (c.in-Some.line.now, c.in-Some.later.now) = c.in-Some.ensures in
    let few = reached-few c.args.bytes.now c.lines.rest.now c.lines.number c.lines.place c.in-Some.line.now c.in-Some.later.now c.lines.invariant cut in
    omega (arith, few)

pub lines-smaller : goal.lines-smaller
lines-smaller c = later-shorter c.lines.rest.now c.in-Some.line.now c.in-Some.later.now c.in-Some.ensures

pub lines-preserved : goal.lines-preserved
lines-preserved c =
    let cut : next_line c.lines.rest.now ≡ Some (c.in-Some.line.now, c.in-Some.later.now) = c.in-Some.ensures in
    reached-next c.args.bytes.now c.lines.rest.now c.lines.number c.lines.place c.in-Some.line.now c.in-Some.later.now c.in-Some-2.next c.lines.invariant cut
    (rw c.in-Some-2.is at c.in_ok-next.ensures)
