-- Records in order, with one more behind them.
use Rattle.std.proofs.Common.{◌≡◌, ℕ, suc, ◌-◌, ◌<◌, Bool, true, false, ◌&&◌, List, [], ◌∷◌, length, slice_get, nat_lt, Some, refl, sym, ap, ◌∙◌, arith, lt-ltb}
use Rattle.std.proofs.lemmas.Bool.{ltb-true}
use Rattle.std.proofs.Math.Bool.{and-false, and-true}
use Rattle.wm_collections.specs.Lists.{AllLater}
use Rattle.wm_machine.specs.Valid.{IsBefore}
use Rattle.wm_machine.specs.declared.record.Record.{Record}
use Rattle.wm_rows.specs.Sound.{is_above}

-- a record before another adds nothing to what that one asks for
below_both : (a b n : ℕ) (rest : Bool) → a < b → (nat_lt b n && rest) ≡ (nat_lt a n && (nat_lt b n && rest))
below_both a b n rest less = by_case (nat_lt b n) refl where
  by_case : (above : Bool) → nat_lt b n ≡ above → (above && rest) ≡ (nat_lt a n && (above && rest))
  by_case true is = let both : a < n = omega (arith, less, ltb-true b n is) in rw (lt-ltb a n both) refl
  by_case false is = sym (and-false (nat_lt a n))

-- what is above the last of records in order is above all of them
pub above-last : (work : Record) (works : List Record) (last : Record) → AllLater IsBefore works → Some last ≡ slice_get works (length works - 1)
    → nat_lt last.seq work.seq ≡ is_above works work
above-last work [] last in_order is = absurd (cc)
above-last work (one ∷ []) last in_order is =
    let same : last ≡ one = cc in ap (λ (w : Record). nat_lt w.seq work.seq) same ∙ sym (and-true (nat_lt one.seq work.seq))
above-last work (one ∷ next ∷ works) last in_order is =
    let at_end : suc (suc (length works)) - 1 ≡ suc (suc (length works) - 1) = omega arith in
    let rest = above-last work (next ∷ works) last in_order.1 (is ∙ ap (slice_get (one ∷ next ∷ works)) at_end) in
    rest ∙ below_both one.seq next.seq work.seq (is_above works work) in_order.0.0.number
