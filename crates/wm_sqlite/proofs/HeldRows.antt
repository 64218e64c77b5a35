-- What puts and removals make of rows that ascend: where they may change places, and where the rows may stand in any order.
use Rattle.std.proofs.Common.{◌≡◌, ◌≢◌, ◌&&◌, ◌+◌, suc, get_or, subst, ℤ, Bool, true, false, cond, not, List, [], ◌∷◌, ◌++◌, Some, None, IfSome, IsPermutation, refl, sym, ◌∙◌, ap, arith}
use Rattle.std.specs.Prelude.{◌<ℤ◌, ◌≤ℤ◌}
use Rattle.std.specs.Ordering.{int_cmp, int_eq, is_lt}
use Rattle.std.specs.List.Sorted.{IsSortedByKey}
use Rattle.std.proofs.lemmas.Bool.{and_parts, false≢true}
use Rattle.std.proofs.lemmas.Bool.Decides.{Decides-int_eq}
use Rattle.std.specs.List.{AllByRecursion, list_all}
use Rattle.std.proofs.lemmas.Int.{ints, by_lt_z}
use Rattle.sqlite_keyed.proofs.ListLemmas.{along_permutation}
use Rattle.wm_collections.proofs.Lists.{All-weaker}
use Rattle.wm_keeper.proofs.Ascending.{int_lt-true, int_lt-false, put_row-Ascends, remove_row-Ascends}
use Rattle.wm_keeper.specs.Keeper.{AreOfDifferentNumbers, Ascends, changed, changed_number, put_row, remove_row}
use Rattle.wm_keeper.specs.declared.row.Change.{Change}
use Rattle.wm_keeper.specs.declared.row.Change.TheVariants.{Put, Remove}
use Rattle.wm_keeper.specs.declared.row.Row.{Row}
use Rattle.wm_sqlite.specs.Held.{added, differ, Differ, in_order, removed, told_rows}

-- ---- one step

-- two numbers are one, or one of them is lower
by_order : {P : Type 0} (a b : ℤ) → (a <ℤ b → P) → (a ≡ b → P) → (b <ℤ a → P) → P
by_order a b lower same higher = by_lt_z a b lower (λ at_least. by_lt_z b a higher (λ at_most. same (omega (arith, ints))))

-- a put before a higher number, in place of the same one, and after a lower one
put_row-before : (row first : Row) (rows : List Row) → row.seq <ℤ first.seq → put_row row (first ∷ rows) ≡ row ∷ first ∷ rows
put_row-before row first rows below = rw (int_lt-true row.seq first.seq below) refl

put_row-there : (row first : Row) (rows : List Row) → row.seq ≡ first.seq → put_row row (first ∷ rows) ≡ row ∷ rows
put_row-there row first rows same =
    rw (int_lt-false row.seq first.seq (omega (arith, ints, same)), int_lt-false first.seq row.seq (omega (arith, ints, same))) refl

put_row-after : (row first : Row) (rows : List Row) → first.seq <ℤ row.seq → put_row row (first ∷ rows) ≡ first ∷ put_row row rows
put_row-after row first rows above =
    rw (int_lt-false row.seq first.seq (omega (arith, ints, above)), int_lt-true first.seq row.seq above) refl

-- a removal before a higher number, of the number that stands there, and after a lower one
remove_row-before : (n : ℤ) (first : Row) (rows : List Row) → n <ℤ first.seq → remove_row n (first ∷ rows) ≡ first ∷ rows
remove_row-before n first rows below = rw (int_lt-true n first.seq below) refl

remove_row-there : (n : ℤ) (first : Row) (rows : List Row) → n ≡ first.seq → remove_row n (first ∷ rows) ≡ rows
remove_row-there n first rows same = rw (int_lt-false n first.seq (omega (arith, ints, same)), int_lt-false first.seq n (omega (arith, ints, same))) refl

remove_row-after : (n : ℤ) (first : Row) (rows : List Row) → first.seq <ℤ n → remove_row n (first ∷ rows) ≡ first ∷ remove_row n rows
remove_row-after n first rows above = rw (int_lt-false n first.seq (omega (arith, ints, above)), int_lt-true first.seq n above) refl

-- what is above a number is above each lower one
above_lower : (a b : ℤ) (rows : List Row) → a <ℤ b → AllByRecursion (λ later. b <ℤ later.seq) rows → AllByRecursion (λ later. a <ℤ later.seq) rows
above_lower a b rows lower above = All-weaker rows (λ later h. omega (arith, ints, lower, h)) above

-- a put before rows of higher numbers
put_row-first : (row : Row) (rows : List Row) → AllByRecursion (λ later. row.seq <ℤ later.seq) rows → put_row row rows ≡ row ∷ rows
put_row-first row [] above = refl
put_row-first row (first ∷ rows) above = put_row-before row first rows above.0

-- ---- two steps

-- a put of a higher number first
put-put-lower : (a b : Row) (rows : List Row) → a.seq <ℤ b.seq → put_row a (put_row b rows) ≡ put_row b (put_row a rows)
put-put-lower a b [] lower = put_row-before a b [] lower ∙ sym (put_row-after b a [] lower)
put-put-lower a b (first ∷ rows) lower =
    by_order b.seq first.seq
    (λ before.
    let under : a.seq <ℤ first.seq = omega (arith, ints, lower, before) in
    rw (put_row-before b first rows before, put_row-before a b (first ∷ rows) lower, put_row-before a first rows under, put_row-after b a (first ∷ rows) lower)
    (rw (put_row-before b first rows before) refl))
    (λ there.
    let under : a.seq <ℤ first.seq = omega (arith, ints, lower, there) in
    rw (put_row-there b first rows there, put_row-before a b rows lower, put_row-before a first rows under, put_row-after b a (first ∷ rows) lower)
    (rw (put_row-there b first rows there) refl))
    (λ after.
    rw (put_row-after b first rows after)
    (by_order a.seq first.seq
    (λ under.
    rw (put_row-before a first (put_row b rows) under, put_row-before a first rows under, put_row-after b a (first ∷ rows) lower)
    (rw (put_row-after b first rows after) refl))
    (λ same. rw (put_row-there a first (put_row b rows) same, put_row-there a first rows same, put_row-after b a rows lower) refl)
    (λ over.
    rw (put_row-after a first (put_row b rows) over, put_row-after a first rows over, put_row-after b first (put_row a rows) after)
    (ap (λ rest. first ∷ rest) (put-put-lower a b rows lower)))))

-- puts of two numbers may change places
pub put-put : (a b : Row) (rows : List Row) → a.seq ≢ b.seq → put_row a (put_row b rows) ≡ put_row b (put_row a rows)
put-put a b rows differ = by_order a.seq b.seq (put-put-lower a b rows) (λ same. absurd (differ same)) (λ higher. sym (put-put-lower b a rows higher))

-- a removal and a put of another number may change places
pub remove-put : (n : ℤ) (row : Row) (rows : List Row) → n ≢ row.seq → Ascends rows → remove_row n (put_row row rows) ≡ put_row row (remove_row n rows)
remove-put n row [] differ up =
    by_order n row.seq (remove_row-before n row []) (λ same. absurd (differ same)) (remove_row-after n row [])
remove-put n row (first ∷ rows) differ up =
    by_order row.seq first.seq
    (λ before.
    rw (put_row-before row first rows before)
    (by_order n row.seq
    (λ under.
    let lower : n <ℤ first.seq = omega (arith, ints, under, before) in
    rw (remove_row-before n row (first ∷ rows) under, remove_row-before n first rows lower) (sym (put_row-before row first rows before)))
    (λ same. absurd (differ same))
    (λ over.
    let whole = remove_row-Ascends n (row ∷ first ∷ rows) ((before, above_lower row.seq first.seq rows before up.0), up) in
    let rest = rw (remove_row-after n row (first ∷ rows) over) at whole in
    rw (remove_row-after n row (first ∷ rows) over) (sym (put_row-first row (remove_row n (first ∷ rows)) rest.0)))))
    (λ there.
    rw (put_row-there row first rows there)
    (by_order n row.seq
    (λ under.
    let lower : n <ℤ first.seq = omega (arith, ints, under, there) in
    rw (remove_row-before n row rows under, remove_row-before n first rows lower) (sym (put_row-there row first rows there)))
    (λ same. absurd (differ same))
    (λ over.
    let higher : first.seq <ℤ n = omega (arith, ints, over, there) in
    rw (remove_row-after n row rows over, remove_row-after n first rows higher) (sym (put_row-there row first (remove_row n rows) there)))))
    (λ after.
    rw (put_row-after row first rows after)
    (by_order n first.seq
    (λ under.
    rw (remove_row-before n first (put_row row rows) under, remove_row-before n first rows under) (sym (put_row-after row first rows after)))
    (λ same. rw (remove_row-there n first (put_row row rows) same, remove_row-there n first rows same) refl)
    (λ over.
    rw (remove_row-after n first (put_row row rows) over, remove_row-after n first rows over, put_row-after row first (remove_row n rows) after)
    (ap (λ rest. first ∷ rest) (remove-put n row rows differ up.1)))))

-- a put of a number doesn't change what its removal leaves
pub remove-put-same : (row : Row) (rows : List Row) → remove_row row.seq (put_row row rows) ≡ remove_row row.seq rows
remove-put-same row [] = remove_row-there row.seq row [] refl
remove-put-same row (first ∷ rows) =
    by_order row.seq first.seq
    (λ before. rw (put_row-before row first rows before, remove_row-there row.seq row (first ∷ rows) refl, remove_row-before row.seq first rows before) refl)
    (λ there. rw (put_row-there row first rows there, remove_row-there row.seq row rows refl, remove_row-there row.seq first rows there) refl)
    (λ after.
    rw (put_row-after row first rows after, remove_row-after row.seq first (put_row row rows) after, remove_row-after row.seq first rows after)
    (ap (λ rest. first ∷ rest) (remove-put-same row rows)))

-- none of the rows has the number
abbrev pub IsNew : ℤ → List Row → Type 0
IsNew n rows = AllByRecursion (λ row. n ≢ row.seq) rows

-- where no row has the number, its removal changes nothing
pub remove-absent : (n : ℤ) (rows : List Row) → IsNew n rows → remove_row n rows ≡ rows
remove-absent n [] none = refl
remove-absent n (first ∷ rows) none =
    by_order n first.seq (remove_row-before n first rows) (λ same. absurd (none.0 same))
    (λ after. remove_row-after n first rows after ∙ ap (λ rest. first ∷ rest) (remove-absent n rows none.1))

-- a put of a number doesn't see whether that number was removed before
pub put-removed : (row : Row) (rows : List Row) → Ascends rows → put_row row (remove_row row.seq rows) ≡ put_row row rows
put-removed row [] up = refl
put-removed row (first ∷ rows) up =
    by_order row.seq first.seq (λ before. rw (remove_row-before row.seq first rows before) refl)
    (λ there.
    rw (remove_row-there row.seq first rows there, put_row-there row first rows there)
    (put_row-first row rows (All-weaker rows (λ later h. omega (arith, ints, h, there)) up.0)))
    (λ after.
    rw (remove_row-after row.seq first rows after, put_row-after row first (remove_row row.seq rows) after, put_row-after row first rows after)
    (ap (λ rest. first ∷ rest) (put-removed row rows up.1)))

-- ---- rows in order

-- rows in order ascend
pub ascends-in_order : (rows : List Row) → Ascends (in_order rows)
ascends-in_order [] = tt
ascends-in_order (row ∷ rows) = put_row-Ascends row (in_order rows) (ascends-in_order rows)

-- rows that ascend are in order already
pub in_order-ascending : (rows : List Row) → Ascends rows → in_order rows ≡ rows
in_order-ascending [] up = refl
in_order-ascending (row ∷ rows) up = ap (put_row row) (in_order-ascending rows up.1) ∙ put_row-first row rows up.0

-- rows that ascend have different numbers
pub Ascends-differ : (rows : List Row) → Ascends rows → Differ rows
Ascends-differ [] up = tt
Ascends-differ (row ∷ rows) up = (All-weaker rows (λ later h same. omega (arith, ints, h, same)) up.0, Ascends-differ rows up.1)

-- ---- rows in another order

-- what two lists of the same rows have in common
record AreSame (xs ys : List Row) : Type 0 where
  new : (n : ℤ) → IsNew n xs → IsNew n ys
  differ : Differ xs → Differ ys
  ordered : Differ xs → in_order xs ≡ in_order ys

AreSame-permutation : (xs ys : List Row) → IsPermutation xs ys → AreSame xs ys
AreSame-permutation = along_permutation AreSame (λ xs. record { new = λ n h. h; differ = λ h. h; ordered = λ h. refl })
    (λ x xs ys same. record {
      new = λ n h. (h.0, same.new n h.1);
      differ = λ h. (same.new x.seq h.0, same.differ h.1);
      ordered = λ h. ap (put_row x) (same.ordered h.1);
    })
    (λ x y xs. record {
      new = λ n h. (h.1.0, (h.0, h.1.1));
      differ = λ h. ((λ e. h.0.0 (sym e), h.1.0), (h.0.1, h.1.1));
      ordered = λ h. put-put x y (in_order xs) h.0.0;
    })
    (λ xs ys zs one other. record {
      new = λ n h. other.new n (one.new n h);
      differ = λ h. other.differ (one.differ h);
      ordered = λ h. one.ordered h ∙ other.ordered (one.differ h);
    })

-- a number that no row has isn't one of the same rows in another order
pub IsNew-same : (n : ℤ) (xs ys : List Row) → IsPermutation xs ys → IsNew n xs → IsNew n ys
IsNew-same n xs ys same new = (AreSame-permutation xs ys same).new n new

-- the same rows in another order have different numbers too
pub Differ-same : (xs ys : List Row) → IsPermutation xs ys → Differ xs → Differ ys
Differ-same xs ys same = (AreSame-permutation xs ys same).differ

-- rows of different numbers are the same in order, in whatever order they stood
pub in_order-same : (xs ys : List Row) → IsPermutation xs ys → Differ xs → in_order xs ≡ in_order ys
in_order-same xs ys same = (AreSame-permutation xs ys same).ordered

-- ---- rows that are told

both : (a b : Bool) → a ≡ true → b ≡ true → (a && b) ≡ true
both true b is are = are
both false b is are = absurd (false≢true is)

denied : (b : Bool) → ¬ (b ≡ true) → not b ≡ true
denied true never = absurd (never refl)
denied false never = refl

all_apart : (n : ℤ) (rows : List Row) → list_all (λ later. not (int_eq n later.seq)) rows ≡ true → IsNew n rows
all_apart n [] e = tt
all_apart n (later ∷ rows) e =
    let parts = and_parts _ _ e in
    (λ same. false≢true (sym (ap not ((Decides-int_eq n later.seq).1 same)) ∙ parts.0), all_apart n rows parts.1)

apart_all : (n : ℤ) (rows : List Row) → IsNew n rows → list_all (λ later. not (int_eq n later.seq)) rows ≡ true
apart_all n [] new = refl
apart_all n (later ∷ rows) new =
    both _ _ (denied (int_eq n later.seq) (λ e. new.0 ((Decides-int_eq n later.seq).0 e))) (apart_all n rows new.1)

-- the test of numbers decides whether they differ
pub differ-apart : (rows : List Row) → differ rows ≡ true → Differ rows
differ-apart [] e = tt
differ-apart (row ∷ rows) e = let parts = and_parts _ _ e in (all_apart row.seq rows parts.0, differ-apart rows parts.1)

pub apart-differ : (rows : List Row) → Differ rows → differ rows ≡ true
apart-differ [] apart = refl
apart-differ (row ∷ rows) apart = both _ _ (apart_all row.seq rows apart.0) (apart-differ rows apart.1)

-- rows of different numbers are told in order
pub told-apart : (rows : List Row) → Differ rows → told_rows rows ≡ Some (in_order rows)
told-apart rows apart = rw (apart-differ rows apart) refl

-- and those that are told are of different numbers
pub told-some : (rows held : List Row) → told_rows rows ≡ Some held → Differ rows × (in_order rows ≡ held)
told-some rows held told = go (differ rows) refl told
  where
    go : (b : Bool) → differ rows ≡ b → cond b (Some (in_order rows)) None ≡ Some held → Differ rows × (in_order rows ≡ held)
    go true e is = (differ-apart rows e, cc)
    go false e is = absurd cc

-- none are told where two have one number
pub told-none : (rows : List Row) → ¬ Differ rows → told_rows rows ≡ None
told-none rows never = go (differ rows) refl
  where
    go : (b : Bool) → differ rows ≡ b → cond b (Some (in_order rows)) None ≡ None
    go true e = absurd (never (differ-apart rows e))
    go false e = refl

-- rows that are told rise
pub told-ascends : (rows : List Row) → IfSome (told_rows rows) Ascends
told-ascends rows = go (differ rows)
  where
    go : (b : Bool) → IfSome (cond b (Some (in_order rows)) None) Ascends
    go true = ascends-in_order rows
    go false = tt

-- ---- rows that were sorted

-- two that stand together don't fall
abbrev Climbs : List Row → Type 0
Climbs [] = Unit {0}
Climbs (row ∷ []) = Unit {0}
Climbs (row ∷ next ∷ rows) = (row.seq ≤ℤ next.seq) × Climbs (next ∷ rows)

above_all : (row : Row) (rows : List Row) → Climbs (row ∷ rows) → AllByRecursion (λ later. row.seq ≤ℤ later.seq) rows
above_all row [] up = tt
above_all row (next ∷ rows) up = (up.0, All-weaker rows (λ later h. omega (arith, ints, up.0, h)) (above_all next rows up.1))

apart_above : (row : Row) (rows : List Row) → AllByRecursion (λ later. row.seq ≤ℤ later.seq) rows → IsNew row.seq rows
    → AllByRecursion (λ later. row.seq <ℤ later.seq) rows
apart_above row [] up new = tt
apart_above row (later ∷ rows) up new =
    (by_order row.seq later.seq (λ lower. lower) (λ same. absurd (new.0 same)) (λ higher. omega (arith, ints, up.0, higher)), apart_above row rows up.1 new.1)

at_most : (a b : ℤ) → is_lt (int_cmp b a) ≡ false → a ≤ℤ b
at_most a b e = grind (arith, ints)

-- rows that were sorted by number don't fall
pub sorted_climbs : (rows : List Row) → IsSortedByKey (λ (row : Row). row.seq) int_cmp rows → Climbs rows
sorted_climbs [] up = tt
sorted_climbs (row ∷ []) up = tt
sorted_climbs (row ∷ next ∷ rows) up = (
  at_most row.seq next.seq (up 0 row (omega arith) (omega arith)),
  sorted_climbs (next ∷ rows) (λ k d low high.
      let shift : suc k + 1 ≡ suc (k + 1) = omega arith in
      subst (λ m. is_lt (int_cmp (get_or (row ∷ next ∷ rows) m d).seq (get_or (next ∷ rows) k d).seq) ≡ false) shift
      (up (suc k) d (omega arith) (omega (arith, high)))),
)

-- rows that don't fall rise where their numbers differ
pub climbs_ascends : (rows : List Row) → Climbs rows → Differ rows → Ascends rows
climbs_ascends [] up apart = tt
climbs_ascends (row ∷ []) up apart = (tt, tt)
climbs_ascends (row ∷ next ∷ rows) up apart =
    (apart_above row (next ∷ rows) (above_all row (next ∷ rows) up) apart.0, climbs_ascends (next ∷ rows) up.1 apart.1)

-- ---- changes

-- a put of a number that no change is about may come after the removals
removed-put : (row : Row) (changes : List Change) (rows : List Row) → AllByRecursion (λ later. row.seq ≢ changed_number later) changes → Ascends rows
    → removed changes (put_row row rows) ≡ put_row row (removed changes rows)
removed-put row [] rows others up = refl
removed-put row (Put other ∷ changes) rows others up = removed-put row changes rows others.1 up
removed-put row (Remove n ∷ changes) rows others up =
    ap (removed changes) (remove-put n row rows (λ same. others.0 (sym same)) up)
    ∙ removed-put row changes (remove_row n rows) others.1 (remove_row-Ascends n rows up)

-- changes of different numbers come to the same with all removals first
pub changed-parts : (changes : List Change) (rows : List Row) → AreOfDifferentNumbers changes → Ascends rows
    → changed changes rows ≡ added changes (removed changes rows)
changed-parts [] rows differ up = refl
changed-parts (Put row ∷ changes) rows differ up =
    changed-parts changes (put_row row rows) differ.1 (put_row-Ascends row rows up) ∙ ap (added changes) (removed-put row changes rows differ.0 up)
changed-parts (Remove n ∷ changes) rows differ up = changed-parts changes (remove_row n rows) differ.1 (remove_row-Ascends n rows up)

-- the removals of changes keep the order
pub removed-Ascends : (changes : List Change) (rows : List Row) → Ascends rows → Ascends (removed changes rows)
removed-Ascends [] rows up = up
removed-Ascends (Put row ∷ changes) rows up = removed-Ascends changes rows up
removed-Ascends (Remove n ∷ changes) rows up = removed-Ascends changes (remove_row n rows) (remove_row-Ascends n rows up)

-- the puts of changes keep the order
pub added-Ascends : (changes : List Change) (rows : List Row) → Ascends rows → Ascends (added changes rows)
added-Ascends [] rows up = up
added-Ascends (Put row ∷ changes) rows up = added-Ascends changes (put_row row rows) (put_row-Ascends row rows up)
added-Ascends (Remove n ∷ changes) rows up = added-Ascends changes rows up

-- the removals of changes and of those after them
pub removed-append : (changes more : List Change) (rows : List Row) → removed (changes ++ more) rows ≡ removed more (removed changes rows)
removed-append [] more rows = refl
removed-append (Put row ∷ changes) more rows = removed-append changes more rows
removed-append (Remove n ∷ changes) more rows = removed-append changes more (remove_row n rows)

-- the puts of changes and of those after them
pub added-append : (changes more : List Change) (rows : List Row) → added (changes ++ more) rows ≡ added more (added changes rows)
added-append [] more rows = refl
added-append (Put row ∷ changes) more rows = added-append changes more (put_row row rows)
added-append (Remove n ∷ changes) more rows = added-append changes more rows
