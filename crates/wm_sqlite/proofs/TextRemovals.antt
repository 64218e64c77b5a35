-- What DELETE makes of a table, in whatever order its rows stand.
use Rattle.std.proofs.Common.{◌≡◌, Some, ℤ, List, [], ◌∷◌, ◌++◌, map, filter, length, IsPermutation, Bool, true, false, not, cond, IsTrue, refl, sym, ap, subst, ◌∙◌, arith}
use Rattle.std.specs.List.{AllByRecursion, list_all, flat_map}
use Rattle.std.specs.Ordering.{is_eq, int_cmp}
use Rattle.std.proofs.lemmas.Bool.Decides.{nat_tests}
use Rattle.std.proofs.lemmas.Int.{ints}
use Rattle.std.proofs.lemmas.List.Elements.{recursion_from_All, All-from_recursion}
use Rattle.std.proofs.lemmas.List.Sorted.{length_permutation, All-permutation}
use Rattle.std.proofs.lemmas.List.{length-map}
use Rattle.sqlite_value.specs.declared.value.Value.{Value}
use Rattle.sqlite_value.specs.declared.value.Value.TheVariants.{Null, Int, Real, Text, Blob}
use Rattle.sqlite_value.specs.Order.{Row, column, value_cmp}
use Rattle.sqlite_value.proofs.OrderLemmas.{value_cmp-Int}
use Rattle.sqlite_trees.specs.Tree.{rowid, has_rowid, without_rowid, Trees}
use Rattle.sqlite_trees.specs.View.{is_int}
use Rattle.sqlite_sql.specs.Term.{Env, holds}
use Rattle.sqlite_sql.specs.Ops.{binary, is_true, from_truth}
use Rattle.sqlite_sql.specs.Query.{IsAnswer, output, Output}
use Rattle.sqlite_sql.specs.Program.{overlay}
use Rattle.sqlite_rules.specs.Edit.{without_all, id_in}
use Rattle.sqlite_rules.specs.Calls.{ids_of}
use Rattle.sqlite_keyed.proofs.ListLemmas.{map-map, filter_all, all_map}
use Rattle.wm_sqlite.specs.Held.{AreNumbered}
use Rattle.wm_sqlite.proofs.TextReadings.{chosen}
use Rattle.wm_sqlite.proofs.TextSteps.{RemovesAnswer}

-- the rows of a number
abbrev of_number : ℤ → List Row → List Row
of_number n = filter (has_rowid n)

-- none of the rows is of the number
abbrev AreOthers : ℤ → List Row → Type 0
AreOthers n = AllByRecursion (λ r. not (has_rowid n r) ≡ true)

-- what the query reads at a row, and what it finds there
abbrev slots : ℤ → Row → Env
slots n r = (Int n ∷ []) ∷ r ∷ []

abbrev found : ℤ → Row → List Env
found n r = cond (list_all (holds (slots n r)) (chosen 0).filter) (slots n r ∷ []) []

abbrev pick : Row → Output
pick r = ([], column r 0 ∷ [])

truth_back : (b : Bool) → list_all (λ v. is_true v) (from_truth (Some b) ∷ []) ≡ b
truth_back true = refl
truth_back false = refl

test_holds : (n : ℤ) (r : Row) → IsTrue (is_int (rowid r)) → list_all (holds (slots n r)) (chosen 0).filter ≡ has_rowid n r
unfolding binary
test_holds n [] is = absurd (let e = is in cc)
test_holds n (Int m ∷ r) is = truth_back (is_eq (value_cmp (Int m) (Int n)))
test_holds n (Null ∷ r) is = absurd (let e = is in cc)
test_holds n (Real x ∷ r) is = absurd (let e = is in cc)
test_holds n (Text t ∷ r) is = absurd (let e = is in cc)
test_holds n (Blob b ∷ r) is = absurd (let e = is in cc)

same_id : (n : ℤ) (v : Value) → IsTrue (is_int v) → is_eq (value_cmp v (Int n)) ≡ true → id_in v ≡ n
same_id n (Int m) is e = let o : is_eq (int_cmp m n) ≡ true = sym (ap is_eq (value_cmp-Int m n)) ∙ e in grind (arith, ints, nat_tests)
same_id n Null is e = absurd (let f = is in cc)
same_id n (Real x) is e = absurd (let f = is in cc)
same_id n (Text t) is e = absurd (let f = is in cc)
same_id n (Blob b) is e = absurd (let f = is in cc)

picked : (n : ℤ) (rows : List Row) → AreNumbered rows → flat_map (found n) rows ≡ map (slots n) (of_number n rows)
picked n [] all = refl
picked n (r ∷ rows) all =
    ap (λ b. cond b (slots n r ∷ []) [] ++ flat_map (found n) rows) (test_holds n r all.0) ∙ go (has_rowid n r) (picked n rows all.1)
  where
    go : (b : Bool) → flat_map (found n) rows ≡ map (slots n) (of_number n rows)
        → cond b (slots n r ∷ []) [] ++ flat_map (found n) rows ≡ map (slots n) (cond b (r ∷ of_number n rows) (of_number n rows))
    go true e = ap (λ l. slots n r ∷ l) e
    go false e = e

passes : {X : Type 0} (p : X → Bool) (xs : List X) → AllByRecursion (λ x. p x ≡ true) (filter p xs)
passes p [] = tt
passes {X} p (x ∷ xs) = go (p x) refl (passes p xs)
  where
    go : (b : Bool) → p x ≡ b → AllByRecursion (λ y. p y ≡ true) (filter p xs) → AllByRecursion (λ y. p y ≡ true) (cond b (x ∷ filter p xs) (filter p xs))
    go true e more = (e, more)
    go false e more = more

same_ids : (n : ℤ) (rows : List Row) → AreNumbered rows → AllByRecursion (λ r. id_in (rowid r) ≡ n) (of_number n rows)
same_ids n [] all = tt
same_ids n (r ∷ rows) all = go (has_rowid n r) refl (same_ids n rows all.1)
  where
    IsSame : Row → Type 0
    IsSame x = id_in (rowid x) ≡ n

    go : (b : Bool) → has_rowid n r ≡ b → AllByRecursion IsSame (of_number n rows) → AllByRecursion IsSame (cond b (r ∷ of_number n rows) (of_number n rows))
    go true e more = (same_id n (rowid r) all.0 e, more)
    go false e more = more

none_in : (n : ℤ) (rows : List Row) → length (of_number n rows) ≡ 0 → AreOthers n rows
none_in n [] e = tt
none_in n (r ∷ rows) e = go (has_rowid n r) refl e (λ none. none_in n rows none)
  where
    go : (b : Bool) → has_rowid n r ≡ b → length (cond b (r ∷ of_number n rows) (of_number n rows)) ≡ 0
        → (length (of_number n rows) ≡ 0 → AreOthers n rows) → AreOthers n (r ∷ rows)
    go true is none more = absurd (omega (arith, none))
    go false is none more = (ap not is, more none)

idle : (n : ℤ) (ids : List ℤ) (rows : List Row) → AllByRecursion (λ i. i ≡ n) ids → AreOthers n rows → without_all rows ids ≡ rows
idle n [] rows all none = refl
idle n (i ∷ ids) rows all none =
    ap (λ j. without_all (without_rowid j rows) ids) all.0
    ∙ ap (λ xs. without_all xs ids) (filter_all (λ r. not (has_rowid n r)) rows none)
    ∙ idle n ids rows all.1 none

gone : (n : ℤ) (rows : List Row) (ids : List ℤ) → AllByRecursion (λ i. i ≡ n) ids → length ids ≡ length (of_number n rows)
    → without_all rows ids ≡ without_rowid n rows
gone n rows [] all same = sym (filter_all (λ r. not (has_rowid n r)) rows (none_in n rows (sym same)))
gone n rows (i ∷ ids) all same =
    ap (λ j. without_all (without_rowid j rows) ids) all.0 ∙ idle n ids (without_rowid n rows) all.1 (passes (λ r. not (has_rowid n r)) rows)

-- the rows of the number are taken out, where an answer took out those that it found, and the others stay
taken : (n : ℤ) (all rows : List Row) (kept ordered : List Output) → AreNumbered all → kept ≡ map pick (of_number n all) → IsPermutation kept ordered
    → rows ≡ map (λ (o : Output). o.1) ordered → without_all all (ids_of rows) ≡ without_rowid n all
taken n all rows kept ordered numbered are same shown =
    let named = of_number n all in
    let P : Output → Type 0 = λ o. id_in (rowid o.1) ≡ n in
    let first : AllByRecursion P kept = subst (AllByRecursion P) (sym are) (all_map P pick named (same_ids n all numbered)) in
    let each : AllByRecursion P ordered = recursion_from_All P ordered (All-permutation P kept ordered same (All-from_recursion P kept first)) in
    let seen : AllByRecursion (λ r. id_in (rowid r) ≡ n) rows =
    subst (AllByRecursion (λ r. id_in (rowid r) ≡ n)) (sym shown) (all_map (λ r. id_in (rowid r) ≡ n) (λ (o : Output). o.1) ordered each) in
    let ids : AllByRecursion (λ i. i ≡ n) (ids_of rows) = all_map (λ i. i ≡ n) (λ r. id_in (rowid r)) rows seen in
    let count_is : length (ids_of rows) ≡ length named =
    length-map rows (λ r. id_in (rowid r))
    ∙ ap length shown
    ∙ length-map ordered (λ (o : Output). o.1)
    ∙ length_permutation kept ordered same
    ∙ ap length are
    ∙ length-map named pick in
    gone n all (ids_of rows) ids count_is

-- so it is in `work`
pub removes : (n : ℤ) (old new : Trees) → AreNumbered (old 0) → RemovesAnswer 0 n old new → new 0 ≡ without_rowid n (old 0)
removes n old new numbered did =
    let a : IsAnswer (chosen 0) (overlay old []) (Int n ∷ []) did.0 = did.1 in
    let staged : a.staged ≡ map (slots n) (of_number n (old 0)) = a.grouped ∙ picked n (old 0) numbered in
    let kept : a.kept ≡ map pick (of_number n (old 0)) =
    a.distinct ∙ ap (map (output (chosen 0))) staged ∙ map-map (output (chosen 0)) (slots n) (of_number n (old 0)) in
    did.2 ∙ taken n (old 0) did.0 a.kept a.ordered numbered kept a.same a.shown

-- and in `work2`
pub removes2 : (n : ℤ) (old new : Trees) → AreNumbered (old 1) → RemovesAnswer 1 n old new → new 1 ≡ without_rowid n (old 1)
removes2 n old new numbered did =
    let a : IsAnswer (chosen 1) (overlay old []) (Int n ∷ []) did.0 = did.1 in
    let staged : a.staged ≡ map (slots n) (of_number n (old 1)) = a.grouped ∙ picked n (old 1) numbered in
    let kept : a.kept ≡ map pick (of_number n (old 1)) =
    a.distinct ∙ ap (map (output (chosen 1))) staged ∙ map-map (output (chosen 1)) (slots n) (of_number n (old 1)) in
    did.2 ∙ taken n (old 1) did.0 a.kept a.ordered numbered kept a.same a.shown
