use Rattle.std.proofs.Common.{◌≡◌, ℕ, ◌+◌, ◌<◌, ◌≤◌, List, arith, cond, drop, eqb, get_or, length, set, sym, ◌∙◌, ap, subst}
use Rattle.std.specs.List.{AllByRecursion}
use Rattle.std.proofs.lemmas.Bool.{eq-eqb, ne_eqb}
use Rattle.std.proofs.lemmas.List.{drop-set-lt, drop_more}
use Rattle.std.proofs.lemmas.List.Edits.{map_over_more}
use Rattle.wm_machine.specs.Turns.{turned}
use Rattle.wm_machine.specs.declared.state.Run.{Run}
use Rattle.wm_lifecycle.proofs.runs.turn_run.Goals as goal
use Rattle.wm_lifecycle.proofs.runs.turn_run.Goals.{then-run-number, else-run-number}

-- what holds of each from an index on holds of each after it, whatever comes to stand there
All-after : {T : Type 0} (P : T → Type 0) (xs : List T) (i : ℕ) (x y : T) → i < length xs → AllByRecursion P (drop i xs)
    → AllByRecursion P (drop (i + 1) (set xs i y))
All-after {T} P xs i x y within all =
    let later = subst (λ (ys : List T). AllByRecursion P ys) (drop_more xs i x within) all in
    subst (λ (ys : List T). AllByRecursion P ys) (sym (drop-set-lt (i + 1) xs i y (omega arith))) later.1

pub loop-run-preserved : goal.loop-run-preserved
loop-run-preserved c =
    let now = c.loop-run.runs in
    let i = c.loop-run.run-index in
    let x = c.run-item.result in
    let number = c.args.number in
    let still : length now ≡ length c.args.runs.now = c.loop-run.auto.runs in
    let within : i < length now = omega (arith, c.loop-run-test.true) in
    let more =
    map_over_more (λ (run : Run). cond (eqb run.run number) (turned run) run) c.args.runs.now now i x c.loop-run-test.true
    c.loop-run.invariant.done c.run-item.is in
    let named : x.run ≡ (get_or now i x).run = ap (λ (y : Run). y.run) c.run-item.is in
    let left = λ (y : Run). All-after (λ (run : Run). run.turn ≤ 999) now i x y within c.loop-run.invariant.left in
    elim c.if-run-number.branch [
      | then-run-number w ↦
          let hit = eq-eqb x.run number (named ∙ w.if-run-number.true) in
          let is : c.if-run-number.runs ≡ set now i (turned x) = w.runs-is ∙ ap (λ (y : Run). set now i (turned y)) (sym c.run-item.is) in
          record {
            done = is ∙ (rw hit at more);
            left = subst (λ (runs : List Run). AllByRecursion (λ run. run.turn ≤ 999) (drop (i + 1) runs)) (sym is) (left (turned x));
          }
      | else-run-number w ↦
          let miss = ne_eqb x.run number (λ e. w.if-run-number.false (sym named ∙ e)) in
          let is : c.if-run-number.runs ≡ set now i x = w.runs-is ∙ ap (set now i) (sym c.run-item.is) in
          record {
            done = is ∙ (rw miss at more);
            left = subst (λ (runs : List Run). AllByRecursion (λ run. run.turn ≤ 999) (drop (i + 1) runs)) (sym is) (left x);
          }
    ]
