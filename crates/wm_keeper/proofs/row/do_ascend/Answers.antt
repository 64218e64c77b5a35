use Rattle.std.proofs.Common.{◌≡◌, ℕ, zero, suc, ◌<◌, Bool, true, false, List, [], ◌∷◌, length, get_or, rules, arith, ℤ, refl, add-one}
use Rattle.std.proofs.lemmas.Bool.{false≢true}
use Rattle.std.proofs.lemmas.Fn.{always_returns_same}
use Rattle.std.proofs.lemmas.Int.{ints}
use Rattle.std.specs.Prelude.{◌<ℤ◌, ◌↔◌, IsTrue, int_lt}
use Rattle.std.specs.List.{IsAllAdjacentAnswer}
use Rattle.wm_collections.proofs.Lists.{All-weaker}
use Rattle.wm_keeper.specs.Keeper.{Ascends}
use Rattle.wm_keeper.specs.declared.row.Row.{Row}
use Rattle.wm_keeper.proofs.row.do_ascend.Goals as goal

-- rows of which each has a lower number than the next ascend
Ascends-adjacent : (rows : List Row) → ((k : ℕ) (d : Row) → suc k < length rows → (get_or rows k d).seq <ℤ (get_or rows (suc k) d).seq) → Ascends rows
Ascends-adjacent [] step = tt
Ascends-adjacent (row ∷ []) step = (tt, tt)
Ascends-adjacent (row ∷ next ∷ rows) step =
    let rest = Ascends-adjacent (next ∷ rows) (λ k d within. step (suc k) d (omega (arith, within))) in
    let first : row.seq <ℤ next.seq = step 0 row (omega arith) in
    ((first, All-weaker rows (λ later above. omega (arith, ints, first, above)) rest.0), rest)

-- and where rows ascend, each has a lower number than the next
adjacent-Ascends : (rows : List Row) → Ascends rows → (k : ℕ) (d : Row) → suc k < length rows → (get_or rows k d).seq <ℤ (get_or rows (suc k) d).seq
adjacent-Ascends [] up k d within = absurd (omega (arith, within))
adjacent-Ascends (row ∷ []) up k d within = absurd (omega (arith, within))
adjacent-Ascends (row ∷ next ∷ rows) up zero d within = up.0.0
adjacent-Ascends (row ∷ next ∷ rows) up (suc k) d within = adjacent-Ascends (next ∷ rows) up.1 k d (omega (arith, within))

lower : (a b : ℤ) → true ≡ int_lt a b → a <ℤ b
lower a b is = grind (arith, ints)

not_lower : (a b : ℤ) → false ≡ int_lt a b → a <ℤ b → ⊥
not_lower a b is below = grind (arith, ints)

-- what the test of each row and the next says of all
answered : (rows : List Row) (result : Bool) → IsAllAdjacentAnswer (λ row next b. b ≡ int_lt row.seq next.seq) rows result
    → IsTrue result ↔ Ascends rows
answered rows true each =
    (λ _. Ascends-adjacent rows (λ k d within. lower _ _ (rw (add-one k) at (each k d (omega (arith, within))))), λ _. refl)
answered [] false one = absurd (omega (arith, one.1))
answered (row ∷ rows) false one = (
  λ no. absurd (false≢true no),
  λ up. absurd (not_lower _ _ (rw (add-one one.0) at (one.2 row)) (adjacent-Ascends (row ∷ rows) up one.0 row (omega (arith, one.1)))),
)

pub returns : goal.returns
returns c =
    let each =
    c.is_sorted_by.ensures.cases (λ (row : Row) (next : Row). int_lt row.seq next.seq) (always_returns_same _ _ _ (λ a r q k. search rules)) in
    answered c.args.rows.now _ each
