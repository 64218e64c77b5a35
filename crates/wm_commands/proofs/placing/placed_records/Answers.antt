use Rattle.std.proofs.Common.{◌≡◌, ◌+◌, ◌∷◌, [], ◌++◌, List, drop, length, length-append, ap, arith, ◌∙◌}
use Rattle.wm_commands.proofs.Placings.{placed-on}
use Rattle.wm_commands.specs.Cleared.{cleared_state}
use Rattle.wm_commands.specs.Placed.{placed_record, placed_records, with_placed}
use Rattle.wm_machine.specs.declared.record.Record.{Record}
use Rattle.wm_commands.proofs.placing.placed_records.Goals as goal

pub loop-work-preserved : goal.loop-work-preserved
loop-work-preserved c =
    let s = cleared_state c.args.clearing.now c.args.view.now in
    let name = c.args.name.now in
    let after = c.args.after.now in
    let before = c.loop-work.placed in
    let made = c.in_ok-new.ensures ∙ ap (λ (placed : List Record). placed_record (with_placed s placed) name after c.work-item.result) c.as_slice.ensures in
    let pushed : c.push.new.self ≡ before ++ c.in_ok-new.new ∷ [] = c.in_ok-push.ensures.ok in
    let rest = drop (c.loop-work.work-index + 1) c.args.works.now in
    record {
      count = ap length pushed ∙ length-append before (c.in_ok-new.new ∷ []) ∙ (let had = c.loop-work.invariant.count in omega arith);
      done = ap (λ (placed : List Record). placed ++ placed_records (with_placed s placed) name after rest) pushed
          ∙ placed-on s name after before c.in_ok-new.new c.args.works.now c.loop-work.work-index c.work-item.result c.loop-work-test.true c.work-item.is made
          ∙ c.loop-work.invariant.done;
    }
