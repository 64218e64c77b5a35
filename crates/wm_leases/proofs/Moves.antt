-- What is kept of the ends after one comes or goes, and the runs whose ends have come.
use Rattle.std.proofs.Common.{◌≡◌, append_assoc, length, map, Bor, ℕ, ◌<◌, ◌≤◌, ◌==◌, ◌&&◌, ◌||◌, Bool, true, false, not, cond, List, [], ◌∷◌, ◌++◌, refl, sym, ap, subst, ◌∙◌, arith, inl, inr, Option, Some, None}
use Rattle.std.proofs.lemmas.Bool.{and_from, and_parts, eq-eqb, eqb-true, false≢true, or_cases}
use Rattle.std.proofs.lemmas.Bool.Decides.{nat_tests}
use Rattle.std.proofs.lemmas.List.{map-append}
use Rattle.std.proofs.lemmas.List.Folds.{list_any-append}
use Rattle.std.proofs.lemmas.Map.Keys.{le_from_not_gt, sorted_head, sorted_tail}
use Rattle.std.specs.BTreeMap.{is_at}
use Rattle.std.specs.BTreeSet.{contains, BTreeSet, Updates}
use Rattle.std.specs.List.{AllByRecursion, list_any}
use Rattle.std.specs.List.Sorted.{IsStrictlySortedBy}
use Rattle.std.specs.Ordering.{is_eq, is_gt, nat_cmp, ordering_then}
use Rattle.std.specs.declared.cmp.Ordering.{Ordering}
use Rattle.std.specs.declared.cmp.Ordering.TheVariants.{Equal, Greater, Less}
use Rattle.std.specs.Map.Iter.{deref}
use Rattle.wm_collections.specs.Lists.{is_among}
use Rattle.wm_collections.specs.Sets.{has_number}
use Rattle.wm_collections.proofs.Lists.{All-push, All-stored, All-weaker, All-with2, any_passes, HasOne-front, HasOne-weaker, list_any-one, list_any-stored, one_gives}
use Rattle.wm_collections.proofs.NumberSets.{added-one}
use Rattle.wm_leases.specs.Ends.{end_cmp, ends_at, has_end, AreOverIn, End, HasComeFor, IsEndForgotten, IsEndKept, IsEndMoved, IsEndOf, Table}

-- ---- one end

eq-both : (one other : Ordering) → is_eq (ordering_then one other) ≡ (is_eq other && is_eq one)
eq-both Less Less = refl
eq-both Less Equal = refl
eq-both Less Greater = refl
eq-both Equal Less = refl
eq-both Equal Equal = refl
eq-both Equal Greater = refl
eq-both Greater Less = refl
eq-both Greater Equal = refl
eq-both Greater Greater = refl

number-test : (number key : ℕ) → is_eq (nat_cmp number key) ≡ (number == key)
number-test number key = grind (arith, nat_tests)

-- a search by an end and its run finds where both are equal
pub end-test : (one other : End) → is_at (end_cmp one) other ≡ (one.1 == other.1 && one.0 == other.0)
end-test one other =
    eq-both (nat_cmp one.0 other.0) (nat_cmp one.1 other.1)
    ∙ ap (λ b. b && is_eq (nat_cmp one.0 other.0)) (number-test one.1 other.1)
    ∙ ap (λ b. one.1 == other.1 && b) (number-test one.0 other.0)

own-test : (end : End) → is_at (end_cmp end) end ≡ true
own-test end = end-test end end ∙ and_from _ _ (eq-eqb end.1 end.1 refl) (eq-eqb end.0 end.0 refl)

case-kept : (n o : Bool) → cond n true o ≡ (n || o)
case-kept true o = refl
case-kept false o = refl

case-forgotten : (n o : Bool) → cond n false o ≡ (o && not n)
case-forgotten true true = refl
case-forgotten true false = refl
case-forgotten false true = refl
case-forgotten false false = refl

pub end-kept : (run end : ℕ) (old new : BTreeSet End) → Updates end_cmp old new (end, run) true → IsEndKept run (Some end) (has_end old) (has_end new)
end-kept run end old new updates = λ at of.
    updates.0 (at, of) ∙ ap (λ b. cond b true (has_end old at of)) (end-test (end, run) (at, of)) ∙ case-kept (run == of && end == at) (has_end old at of)

pub end-forgotten : (run end : ℕ) (old new : BTreeSet End) → Updates end_cmp old new (end, run) false
    → IsEndForgotten run (Some end) (has_end old) (has_end new)
end-forgotten run end old new updates = λ at of.
    updates.0 (at, of) ∙ ap (λ b. cond b false (has_end old at of)) (end-test (end, run) (at, of))
    ∙ case-forgotten (run == of && end == at) (has_end old at of)

-- ---- the end of a run

-- no moment is the end twice over
pub one-end : (at : ℕ) (before end : Option ℕ) → ends_at at before ≡ true → ends_at at end ≡ true → before ≡ end
one-end at None end is also = absurd (false≢true is)
one-end at (Some own) None is also = absurd (false≢true also)
one-end at (Some own) (Some end) is also = ap Some (eqb-true own at is ∙ sym (eqb-true end at also))

case-moved : (same now was old : Bool) → (same ≡ true → old ≡ was) → (was ≡ true → now ≡ true → ⊥)
    → ((same && now || old) && not (same && was)) ≡ cond same now old
case-moved true true true old is differ = absurd (differ refl refl)
case-moved true false true old is differ = rw (is refl) refl
case-moved true true false old is differ = refl
case-moved true false false old is differ = rw (is refl) refl
case-moved false now was true is differ = refl
case-moved false now was false is differ = refl

pub end-moved : (run : ℕ) (before end : Option ℕ) (old mid new : Table) → (before ≡ end → ⊥) → IsEndOf run before old → IsEndKept run end old mid
    → IsEndForgotten run before mid new → IsEndMoved run end old new
end-moved run before end old mid new differ was kept forgotten = λ at of.
    forgotten at of ∙ ap (λ b. b && not (run == of && ends_at at before)) (kept at of)
    ∙ case-moved (run == of) (ends_at at end) (ends_at at before) (old at of)
    (λ is. subst (λ n. old at n ≡ ends_at at before) (eqb-true run of is) (was at)) (λ one other. differ (one-end at before end one other))

-- it stays
case-same : (same now old : Bool) → (same ≡ true → old ≡ now) → old ≡ cond same now old
case-same true now old is = is refl
case-same false now old is = refl

pub end-same : (run : ℕ) (end : Option ℕ) (ends : Table) → IsEndOf run end ends → IsEndMoved run end ends ends
end-same run end ends was = λ at of.
    case-same (run == of) (ends_at at end) (ends at of) (λ is. subst (λ n. ends at n ≡ ends_at at end) (eqb-true run of is) (was at))

-- it goes
case-gone : (same was old : Bool) → (same ≡ true → old ≡ was) → (old && not (same && was)) ≡ cond same false old
case-gone true true old is = rw (is refl) refl
case-gone true false old is = rw (is refl) refl
case-gone false was true is = refl
case-gone false was false is = refl

pub end-gone : (run : ℕ) (end : Option ℕ) (old new : Table) → IsEndOf run end old → IsEndForgotten run end old new → IsEndMoved run None old new
end-gone run end old new was forgotten = λ at of.
    forgotten at of
    ∙ case-gone (run == of) (ends_at at end) (old at of) (λ is. subst (λ n. old at n ≡ ends_at at end) (eqb-true run of is) (was at))

-- and what was moved is the end then
pub end-is : (run : ℕ) (end : Option ℕ) (old new : Table) → IsEndMoved run end old new → IsEndOf run end new
end-is run end old new moved = λ at. moved at run ∙ ap (λ b. cond b (ends_at at end) (old at run)) (eq-eqb run run refl)

-- ---- the ends in their order

not-after : (one other : Ordering) → is_gt (ordering_then one other) ≡ false → is_gt one ≡ false
not-after Less other e = refl
not-after Equal other e = refl
not-after Greater other e = e

-- no end that isn't before another one is at an earlier moment
pub in-order : (one other : End) → is_gt (end_cmp one other) ≡ false → one.0 ≤ other.0
in-order one other e = le_from_not_gt one.0 other.0 (not-after (nat_cmp one.0 other.0) (nat_cmp one.1 other.1) e)

less-is : (one other : End) → end_cmp one other ≡ Less → one.0 ≤ other.0
less-is one other e = in-order one other (ap is_gt e)

later-behind : (seen rest : List End) (end : End) → IsStrictlySortedBy end_cmp (seen ++ end ∷ rest) → AllByRecursion (λ other. end_cmp end other ≡ Less) rest
later-behind [] rest end sorted = sorted_head end_cmp end rest sorted
later-behind (first ∷ seen) rest end sorted = later-behind seen rest end (sorted_tail end_cmp first (seen ++ end ∷ rest) sorted)

-- where one is above a moment, it and those after it are
pub later-above : (moment : ℕ) (seen rest : List End) (end : End) → IsStrictlySortedBy end_cmp (seen ++ end ∷ rest) → moment < end.0
    → AllByRecursion (λ other. moment < other.0) (end ∷ rest)
later-above moment seen rest end sorted above =
    (above, All-weaker rest (λ other less. let order = less-is end other less in omega (arith, order, above)) (later-behind seen rest end sorted))

module _ (ends : BTreeSet End) (seen rest : List End) (split : seen ++ rest ≡ ends.keys) (moment : ℕ) where
  stored : AllByRecursion (λ end. has_end ends end.0 end.1 ≡ true) seen
  stored =
      All-weaker seen
      (λ end is. subst (λ keys. list_any (is_at (end_cmp end)) keys ≡ true) split
      (list_any-stored (is_at (end_cmp end)) (seen ++ rest) end (HasOne-front (λ other. other ≡ end) seen rest is) (own-test end)))
      (All-stored seen)

  come-from : (run : ℕ) → AllByRecursion (λ end. end.0 ≤ moment) seen → list_any (λ end. end.1 == run) seen ≡ true → HasComeFor (has_end ends) moment run
  come-from run early any =
      one_gives {A = λ end. (has_end ends end.0 end.1 ≡ true) × (end.0 ≤ moment)} seen
      (λ end known is. record { end = end.0; there = subst (λ n. has_end ends end.0 n ≡ true) (eqb-true end.1 run is) known.0; come = known.1 })
      (All-with2 seen (λ end there come. (there, come)) stored early) (any_passes (λ end. end.1 == run) seen any)

  comes-of : (run : ℕ) → AllByRecursion (λ end. moment < end.0) rest → HasComeFor (has_end ends) moment run → list_any (λ end. end.1 == run) seen ≡ true
  comes-of run late come =
      let end : End = (come.end, run) in
      let both = sym (list_any-append (is_at (end_cmp end)) seen rest) ∙ ap (list_any (is_at (end_cmp end))) split ∙ come.there in
      elim (or_cases (list_any (is_at (end_cmp end)) seen) (list_any (is_at (end_cmp end)) rest) both) as (λ _. list_any (λ end. end.1 == run) seen ≡ true) [
        | inl here ↦
            list_any-one (λ end. end.1 == run) seen
            (HasOne-weaker seen (λ other is. eq-eqb other.1 run (sym (eqb-true run other.1 (and_parts _ _ (sym (end-test end other) ∙ is)).0)))
            (any_passes (is_at (end_cmp end)) seen here))
        | inr there ↦
            absurd (one_gives rest
            (λ other above is.
            let same = eqb-true come.end other.0 (and_parts _ _ (sym (end-test end other) ∙ is)).1 in
            let early = come.come in
            too-late come.end other.0 same early above)
            late (any_passes (is_at (end_cmp end)) rest there))
      ]
    where
      too-late : (one other : ℕ) → one ≡ other → one ≤ moment → moment < other → ⊥
      too-late one other same early above = absurd (omega (arith, same, early, above))

  pub over-are : (runs : BTreeSet ℕ) → AllByRecursion (λ end. end.0 ≤ moment) seen → AllByRecursion (λ end. moment < end.0) rest
      → ((run : ℕ) → has_number runs run ≡ list_any (λ end. end.1 == run) seen) → AreOverIn (has_end ends) moment runs
  over-are runs early late are = record {
    come = λ run has. come-from run early (sym (are run) ∙ has);
    all = λ run come. are run ∙ comes-of run late come;
  }

-- ---- one more of them

pub split-more : (yielded : List (Bor End)) (end : Bor End) (rest more all : List End) → more ≡ deref end ∷ rest → map deref yielded ++ more ≡ all
    → map deref (yielded ++ end ∷ []) ++ rest ≡ all
split-more yielded end rest more all next split =
    ap (λ seen. seen ++ rest) (map-append deref yielded (end ∷ [])) ∙ append_assoc (map deref yielded) (deref end ∷ []) rest
    ∙ ap (λ others. map deref yielded ++ others) (sym next) ∙ split

pub early-more : (moment : ℕ) (yielded : List (Bor End)) (end : Bor End) → AllByRecursion (λ (one : End). one.0 ≤ moment) (map deref yielded)
    → (deref end).0 ≤ moment → AllByRecursion (λ (one : End). one.0 ≤ moment) (map deref (yielded ++ end ∷ []))
early-more moment yielded end early come =
    subst (AllByRecursion (λ (one : End). one.0 ≤ moment)) (sym (map-append deref yielded (end ∷ [])))
    (All-push (λ (one : End). one.0 ≤ moment) (map deref yielded) (deref end) early come)

pub runs-more : (yielded : List (Bor End)) (end : Bor End) (old new : BTreeSet ℕ)
    → ((run : ℕ) → has_number old run ≡ list_any (λ (one : End). one.1 == run) (map deref yielded)) → Updates nat_cmp old new (deref end).1 true
    → (run : ℕ) → has_number new run ≡ list_any (λ (one : End). one.1 == run) (map deref (yielded ++ end ∷ []))
runs-more yielded end old new are updates run =
    added-one old new (deref end).1 updates run ∙ ap (λ b. b || is_among ((deref end).1 ∷ []) run) (are run)
    ∙ sym (list_any-append (λ (one : End). one.1 == run) (map deref yielded) (deref end ∷ []))
    ∙ sym (ap (list_any (λ (one : End). one.1 == run)) (map-append deref yielded (end ∷ [])))

-- no end is among none
pub no-ends : (test : End → Bool) (ends : List End) → (0 < length ends → ⊥) → list_any test ends ≡ false
no-ends test [] none = refl
no-ends test (end ∷ ends) none = absurd (none (omega arith))

-- where the first of them hasn't come, none has
pub none-over : (ends : BTreeSet End) (first : End) (moment : ℕ) → ((other : End) → contains end_cmp ends other ≡ true → is_gt (end_cmp first other) ≡ false)
    → moment < first.0 → (run : ℕ) → HasComeFor (has_end ends) moment run → ⊥
none-over ends first moment least above run come =
    let order = in-order first (come.end, run) (least (come.end, run) come.there) in
    let early = come.come in
    absurd (omega (arith, order, early, above))
