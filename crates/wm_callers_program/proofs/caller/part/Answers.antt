use Rattle.std.proofs.Common.{◌≡◌, ◌∙◌, ◌∷◌, [], ◌++◌, length, map, reverse, subst, sym, ap, arith, length-append}
use Rattle.std.specs.List.{AllByRecursion}
use Rattle.wm_callers.specs.PassState.{PassState}
use Rattle.wm_callers_program.proofs.Pairing.{numbers-parted, parted-more}
use Rattle.wm_callers_program.specs.Calls.{worse, HaveCalled}
use Rattle.wm_callers_program.specs.Serving.{IsServed}
use Rattle.wm_callers_program.specs.declared.caller.Caller.{Caller}
use Rattle.wm_collections.proofs.Lists.{All-back, All-front}
use Rattle.wm_callers_program.proofs.caller.part.Goals as goal

pub loop-caller-preserved : goal.loop-caller-preserved
loop-caller-preserved g c =
    let kept = c.loop-caller.invariant in
    let caller = c.in-Some.caller in
    let rest = c.pop.new.self.items in
    let passes = c.loop-caller.passes.items in
    let apart : c.loop-caller.callers.items ≡ rest ++ caller ∷ [] = c.in-Some.ensures.items in
    let pushed : c.push_reserved.new.self.items ≡ passes ++ caller.pass ∷ [] = c.push_reserved.ensures.items in
    record {
      room = omega (arith, kept.room, c.push_reserved.ensures.capacity, ap length pushed, length-append passes (caller.pass ∷ []), ap length apart, length-append rest (caller ∷ []));
      numbers = ap (λ (l : _). map (λ (p : PassState). p.number) l ++ reverse (map (λ (c : Caller g.row.J.Denot). c.pass.number) rest)) pushed
          ∙ numbers-parted passes rest caller
          ∙ ap (λ l. map (λ (p : PassState). p.number) passes ++ reverse (map (λ (c : Caller g.row.J.Denot). c.pass.number) l)) (sym apart) ∙ kept.numbers;
      called = λ count lines all.
          let both = kept.called count lines all in
          let these = subst (AllByRecursion (IsServed count lines)) apart both.0 in (
            All-front (IsServed count lines) rest (caller ∷ []) these,
            subst (λ refused. HaveCalled count lines refused c.push_reserved.new.self.items) (sym c.worse-refused.ensures)
                (subst (HaveCalled count lines (worse c.loop-caller.refused caller.refused)) (sym pushed)
                (parted-more count lines c.loop-caller.refused passes caller (All-back (IsServed count lines) rest (caller ∷ []) these).0 both.1)),
          );
    }

pub returns-clause-called : goal.returns-clause-called
returns-clause-called g c = λ count lines all. (c.loop-caller.invariant.called count lines all).1
