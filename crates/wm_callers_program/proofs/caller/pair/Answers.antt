use Rattle.std.proofs.Common.{◌≡◌, ◌∙◌, None, refl, suc, ◌∷◌, [], ◌++◌, length, map, reverse, subst, sym, ap, arith, length-append}
use Rattle.std.specs.List.{AllByRecursion}
use Rattle.std.proofs.lemmas.List.{append-nil}
use Rattle.wm_callers.specs.Closing.{fresh_pass, fresh_passes}
use Rattle.wm_callers_program.proofs.Pairing.{fresh-length, lot-popped, numbers-paired, pass-popped}
use Rattle.wm_callers_program.specs.Lines.{lines_for, numbers_from}
use Rattle.wm_callers_program.specs.Serving.{IsFresh, IsReady}
use Rattle.wm_callers_program.specs.declared.caller.Caller.{Caller}
use Rattle.wm_collections.proofs.Lists.{All-push}
use Rattle.wm_callers_program.proofs.caller.pair.Goals as goal

pub loop-pass-init : goal.loop-pass-init
loop-pass-init g c =
    let count : length c.args.passes.items ≡ c.args.callers = ap length c.requires.fresh ∙ fresh-length c.args.callers in
    record {
      passes = c.requires.fresh ∙ ap fresh_passes (sym count);
      counted = count ∙ sym c.requires.lots;
      fits = omega (arith, count, ap length c.requires.none);
      room = c.requires.room;
      numbers = (λ i. numbers_from 0 (count i) ++ reverse (map (λ (caller : Caller g.row.J.Denot). caller.pass.number) (c.requires.none i))) ∙ append-nil (numbers_from 0 c.args.callers);
      fresh = subst (AllByRecursion IsFresh) (sym c.requires.none) tt;
      ready = λ lines dealt. (
        dealt ∙ ap (λ n. map (λ number. lines_for c.args.callers number lines) (numbers_from 0 n)) (sym count),
        subst (AllByRecursion (IsReady c.args.callers lines)) (sym c.requires.none) tt,
      );
    }

pub loop-pass-preserved : goal.loop-pass-preserved
loop-pass-preserved g c =
    let kept = c.loop-pass.invariant in
    let rest = c.pop.new.self.items in
    let pass = c.in-Some.pass in
    let lot = c.in-Some-pop.lot in
    let paired = c.loop-pass.paired.items in
    let apart : c.loop-pass.passes.items ≡ rest ++ pass ∷ [] = c.in-Some.ensures.items in
    let count : length c.loop-pass.passes.items ≡ suc (length rest) = omega (arith, ap length apart, length-append rest (pass ∷ [])) in
    let lots : c.loop-pass.lots.items ≡ c.pop-in-Some.new.self.items ++ lot ∷ [] = c.in-Some-pop.ensures.items in
    let popped = pass-popped c.loop-pass.passes.items rest pass apart kept.passes in
    let caller : Caller g.row.J.Denot = record { pass = pass; lot = lot; refused = None } in
    let pushed : c.push_reserved.new.self.items ≡ paired ++ caller ∷ [] = c.push_reserved.ensures.items in
    let number : pass.number ≡ length rest = ap (λ (p : _). p.number) popped.1 in
    let fresh_one : IsFresh caller = record { pass_is = popped.1 ∙ ap fresh_pass (sym number); going = refl } in
    record {
      passes = popped.0;
      counted = omega (arith, kept.counted, count, ap length lots, length-append c.pop-in-Some.new.self.items (lot ∷ []));
      fits = omega (arith, kept.fits, count, ap length pushed, length-append paired (caller ∷ []));
      room = omega (arith, kept.room, c.push_reserved.ensures.capacity);
      numbers = ap (λ l. numbers_from 0 (length rest) ++ reverse (map (λ (c : Caller g.row.J.Denot). c.pass.number) l)) pushed
          ∙ numbers-paired (length rest) paired caller number
          ∙ ap (λ n. numbers_from 0 n ++ reverse (map (λ (c : Caller g.row.J.Denot). c.pass.number) paired)) (sym count) ∙ kept.numbers;
      fresh = subst (AllByRecursion IsFresh) (sym pushed) (All-push IsFresh paired caller kept.fresh fresh_one);
      ready = λ lines dealt.
          let was = kept.ready lines dealt in
          let taken = lot-popped c.args.callers (length rest) lines c.loop-pass.lots.items c.pop-in-Some.new.self.items lot lots
          (was.0 ∙ ap (λ n. map (λ number. lines_for c.args.callers number lines) (numbers_from 0 n)) count) in (
            taken.0,
            subst (AllByRecursion (IsReady c.args.callers lines)) (sym pushed)
                (All-push (IsReady c.args.callers lines) paired caller was.1
                (record { fresh = fresh_one; lot_is = taken.1 ∙ ap (λ n. lines_for c.args.callers n lines) (sym number) })),
          );
    }
