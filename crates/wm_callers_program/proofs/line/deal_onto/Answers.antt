use Rattle.std.proofs.Common.{◌≡◌, ◌∙◌, ◌+◌, ◌-◌, ◌%◌, [], ◌∷◌, ◌++◌, length, sym, ap, subst, arith, append_assoc}
use Rattle.std.proofs.Math.Nat.{mod-lt}
use Rattle.std.specs.List.{AllByRecursion}
use Rattle.wm_callers_program.proofs.Dealing.{dealt-length, dealt-more}
use Rattle.wm_callers_program.specs.Lines.{for_desk, lines_from, with_line, AskedLine}
use Rattle.wm_machine.specs.Outcome.{IsAskable}
use Rattle.wm_callers_program.proofs.line.deal_onto.Goals as goal

pub add-requires : goal.add-requires
add-requires c =
    let below = mod-lt c.loop-command.index c.requires.some in
    let long = ap length c.loop-command.invariant.lots ∙ dealt-length c.args.callers c.loop-command.invariant.so_far in
    omega (arith, below, long)

pub loop-command-preserved : goal.loop-command-preserved
loop-command-preserved c =
    let kept = c.loop-command.invariant in
    let index = c.loop-command.index in
    let line : AskedLine = record { number = index + 1; command = for_desk c.in-Some.command } in
    let below = mod-lt index c.requires.some in
    let one : (index + 1) - 1 ≡ index = omega arith in
    let left : c.loop-command.left.items ≡ c.in-Some.command ∷ c.pop_front.new.self.items = c.in-Some.ensures.items in
    record {
      so_far = kept.so_far ++ line ∷ [];
      lots = c.in_ok-add.ensures ∙ (λ i. with_line (index % c.args.callers) (c.new.ensures i) (kept.lots i))
          ∙ dealt-more c.args.callers (index % c.args.callers) kept.so_far line (ap (λ n. n % c.args.callers) (sym one)) below;
      all = append_assoc kept.so_far (line ∷ []) (lines_from ((index + 1) + 1) c.pop_front.new.self.items)
          ∙ ap (λ l. kept.so_far ++ lines_from (index + 1) l) (sym left) ∙ kept.all;
      counted = omega (arith, kept.counted, ap length left);
      askable = (subst (AllByRecursion IsAskable) left kept.askable).1;
    }
