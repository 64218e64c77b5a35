-- What striking a part off a list leaves, and that no two in hand are of its run.
use Rattle.std.proofs.Common.{◌≡◌, ◌≢◌, ℕ, ◌+◌, true, false, not, List, [], ◌∷◌, length, count_by, refl, sym, ap, subst, ◌∙◌, inl, inr, arith, eq-eqb, ne_eqb}
use Rattle.std.specs.List.{AllByRecursion}
use mathlib.Core.Logic.{dite}
use native.Mathlib.Decide.{ℕ_discrete}
use Rattle.wm_collections.specs.Lists.{AllLater}
use Rattle.wm_collections.proofs.Lists.{All-any, All-of_one, All-weaker, AllLater-filter, HasOne-filter, count-cons, filter-each, weight}
use Rattle.wm_roll.specs.Parts.{DifferInRun, IsListed, is_of, without}
use Rattle.wm_roll.specs.declared.part.Part.{Part}

-- a part of another run stays
kept : (run : ℕ) (part : Part) → part.run ≢ run → not (is_of run part) ≡ true
kept run part other = ap not (ne_eqb part.run run other)

-- a listed part of another run is listed still
pub listed-without : (run : ℕ) (listed : List Part) (part : Part) → part.run ≢ run → IsListed listed part → IsListed (without run listed) part
listed-without run listed part other one =
    HasOne-filter {A = λ it. Unit {0}} {P = λ it. it ≡ part} (λ it. not (is_of run it)) listed
    (λ it any is. subst (λ (x : Part). not (is_of run x) ≡ true) (sym is) (kept run part other)) (All-any listed (λ it. tt)) one

-- parts that differ in their run differ still
pub differ-without : (run : ℕ) (listed : List Part) → AllLater DifferInRun listed → AllLater DifferInRun (without run listed)
differ-without run listed differ = AllLater-filter DifferInRun (λ it. not (is_of run it)) listed differ

-- the list is one shorter
pub shorter-without : (listed : List Part) (part : Part) → AllLater DifferInRun listed → IsListed listed part → length (without part.run listed) + 1 ≡ length listed
shorter-without [] part differ one = absurd one
shorter-without (first ∷ listed) part differ (inl is) =
    let gone : not (is_of part.run first) ≡ false = ap not (eq-eqb first.run part.run (ap (λ (it : Part). it.run) is)) in
    let rest : without part.run listed ≡ listed =
    filter-each (λ it. not (is_of part.run it)) listed
    (All-weaker listed (λ it other. kept part.run it (λ e. other (ap (λ (x : Part). x.run) is ∙ sym e))) differ.0) in
    rw (gone, rest) (omega arith)
shorter-without (first ∷ listed) part differ (inr one) =
    let stays : not (is_of part.run first) ≡ true = kept part.run first (All-of_one (DifferInRun first) listed part differ.0 one) in
    rw stays (omega (arith, shorter-without listed part differ.1 one))

-- none of this run is in hand where none is counted
pub none_of : (run : ℕ) (held : List Part) → count_by (is_of run) held ≡ 0 → AllByRecursion (λ part. part.run ≢ run) held
none_of run [] none = tt
none_of run (part ∷ held) none =
    let counted = count-cons (is_of run) part held in
    dite (ℕ_discrete part.run run)
    (λ same. let one : weight (is_of run part) ≡ 1 = ap weight (eq-eqb part.run run same) in absurd (omega (arith, counted, one, none)))
    (λ other. (other, none_of run held (omega (arith, counted, none))))

-- and none is counted where none is in hand
pub counts_none : (run : ℕ) (held : List Part) → AllByRecursion (λ part. part.run ≢ run) held → count_by (is_of run) held ≡ 0
counts_none run [] others = refl
counts_none run (part ∷ held) others =
    let zero_here : weight (is_of run part) ≡ 0 = ap weight (ne_eqb part.run run others.0) in
    omega (arith, count-cons (is_of run) part held, zero_here, counts_none run held others.1)

-- a part counts for its own run
pub counts_own : (part : Part) → count_by (is_of part.run) (part ∷ []) ≡ 1
counts_own part =
    let one : weight (is_of part.run part) ≡ 1 = ap weight (eq-eqb part.run part.run refl) in
    omega (arith, count-cons (is_of part.run) part [], one)
