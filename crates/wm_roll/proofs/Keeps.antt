-- Each step of a roll keeps its rule.
use Rattle.std.proofs.Common.{◌≡◌, ◌≢◌, ℕ, ◌≤◌, List, [], ◌∷◌, ◌++◌, set, count_by, refl, sym, ap, subst, ◌∙◌, arith}
use Rattle.std.specs.List.{AllByRecursion}
use mathlib.Core.Logic.{dite}
use mathlib.Core.Option.{some, none}
use native.Mathlib.Decide.{ℕ_discrete}
use lib.ListN.{get_elem?}
use Rattle.atomic_table.specs.Table.{State, Me, step, keeps, Allows, Splits, Joins}
use Rattle.atomic_table.specs.Seated.{TableId}
use Rattle.atomic_table.specs.declared.shared.Seat.{Seat}
use Rattle.atomic_table.proofs.Lists.{set_else}
use Rattle.wm_collections.specs.Lists.{AllLater}
use Rattle.wm_collections.proofs.Lists.{All-of_one, All-push, All-weaker, All-with2, AllLater-push, HasOne-front, HasOne-last, count-cons, count-push}
use Rattle.wm_roll.specs.Parts.{DifferInRun, IsListed, is_of, without}
use Rattle.wm_roll.specs.Rule.{IsKept, IsKeptWith, IsRollOf, Strikes, at_rest, first_view, held_in, listed_by, listed_of, with_listed, with_returned}
use Rattle.wm_roll.specs.declared.part.Part.{Part}
use Rattle.wm_roll.specs.declared.view.Lists.{Lists}
use Rattle.wm_roll.specs.declared.view.View.{View}
use Rattle.wm_roll.specs.declared.view.View.TheVariants.{OfRoll, OfToken, Spent}
use Rattle.wm_roll.proofs.Held.{held-All, held-at, held-count, held-given, held-same, roll-changed, roll-given, roll-spent}
use Rattle.wm_roll.proofs.Strikings.{counts_none, counts_own, differ-without, listed-without, none_of}

abbrev Holds : State (Unit {0}) View → Type 0
Holds state = IsKept state.views

pub opens : IsKept (first_view ∷ [])
opens = (record { listed = []; returned = [] }, record { roll = refl; differ = tt; listed = tt; once = λ run. omega arith })

-- the rule speaks of the lists of the roll's own view
seen : (views : List View) (id : ℕ) (its : Lists) → get_elem? views id ≡ some (OfRoll its) → IsKept views → IsKeptWith its views
seen views id its at kept =
    subst (λ (lists : Lists). IsKeptWith lists views) (sym (roll-changed views id its kept.0 its at kept.1.roll).0) kept.1

-- ---- give

given : (views : List View) (id : ℕ) (parts : List Part) (part : Part) → get_elem? views id ≡ some (at_rest parts) → AllByRecursion (λ one. one.run ≢ part.run) parts
    → IsKeptWith (record { listed = parts; returned = [] }) views
    → IsKeptWith (record { listed = parts ++ part ∷ []; returned = [] }) (set views id (at_rest (parts ++ part ∷ [])) ++ OfToken part ∷ [])
given views id parts part at new kept =
    let next : List View = set views id (at_rest (parts ++ part ∷ [])) in
    let held : held_in (next ++ OfToken part ∷ []) ≡ held_in views ++ part ∷ [] =
    held-given next part ∙ ap (λ hand. hand ++ part ∷ []) (held-same views id (at_rest parts) (at_rest (parts ++ part ∷ [])) at refl) in
    let others : AllByRecursion (λ one. one.run ≢ part.run) (held_in views) =
    All-weaker (held_in views) (λ one is. new_of one is) kept.listed in
    record {
      roll = roll-given next part ∙ (roll-changed views id _ _ (record { listed = parts ++ part ∷ []; returned = [] }) at kept.roll).1;
      differ = AllLater-push DifferInRun parts part kept.differ new;
      listed = subst (AllByRecursion (IsListed (parts ++ part ∷ []))) (sym held)
          (All-push (IsListed (parts ++ part ∷ [])) (held_in views) part
          (All-weaker (held_in views) (λ one is. HasOne-front (λ it. it ≡ one) parts (part ∷ []) is) kept.listed) (HasOne-last (λ it. it ≡ part) parts part refl));
      once = λ run. subst (λ (hand : List Part). count_by (is_of run) hand ≤ 1) (sym held) (counted run others);
    }
  where
    new_of : (one : Part) → IsListed parts one → one.run ≢ part.run
    new_of one is = All-of_one (λ it. it.run ≢ part.run) parts one new is

    counted : (run : ℕ) → AllByRecursion (λ one. one.run ≢ part.run) (held_in views) → count_by (is_of run) (held_in views ++ part ∷ []) ≤ 1
    counted run others =
        let pushed = count-push (is_of run) (held_in views) part in
        dite (ℕ_discrete part.run run)
        (λ same. let none_yet : count_by (is_of run) (held_in views) ≡ 0 =
        subst (λ (r : ℕ). count_by (is_of r) (held_in views) ≡ 0) same (counts_none part.run (held_in views) others) in
        let own : count_by (is_of run) (part ∷ []) ≡ 1 = subst (λ (r : ℕ). count_by (is_of r) (part ∷ []) ≡ 1) same (counts_own part) in
        omega (arith, pushed, none_yet, own, count-cons (is_of run) part []))
        (λ other. let nothing : count_by (is_of run) (part ∷ []) ≡ 0 = counts_none run (part ∷ []) (other, tt) in
        omega (arith, pushed, nothing, count-cons (is_of run) part [], kept.once run))

pub gives : (id : ℕ) (view : View) (parts : List Part) (part : Part) → view ≡ at_rest parts → AllByRecursion (λ one. one.run ≢ part.run) parts
    → Splits Holds id view (with_listed part view) (OfToken part)
gives id view parts part is new state kept at =
    let there : get_elem? state.views id ≡ some (at_rest parts) = at ∙ ap some is in
    let done = given state.views id parts part there new (seen state.views id _ there kept) in
    rw is (record { listed = parts ++ part ∷ []; returned = [] }, done)

-- ---- the first half of take

returned : (views : List View) (id other : ℕ) (parts : List Part) (part : Part) → get_elem? views id ≡ some (at_rest parts) → ¬ (other ≡ id)
    → get_elem? (set views id (OfRoll (record { listed = parts; returned = part ∷ [] }))) other ≡ some (OfToken part)
    → IsKeptWith (record { listed = parts; returned = [] }) views
    → IsKeptWith (record { listed = parts; returned = part ∷ [] }) (set (set views id (OfRoll (record { listed = parts; returned = part ∷ [] }))) other Spent)
returned views id other parts part at apart back kept =
    let both : View = OfRoll (record { listed = parts; returned = part ∷ [] }) in
    let before : get_elem? views other ≡ some (OfToken part) = sym (set_else views id other both apart) ∙ back in
    let mine : IsListed parts part = (held-at (IsListed parts) views other (OfToken part) before kept.listed).0 in
    record {
      roll = roll-spent (set views id both) other part back ∙ (roll-changed views id _ _ (record { listed = parts; returned = part ∷ [] }) at kept.roll).1;
      differ = kept.differ;
      listed = held-All (IsListed parts) (set views id both) other Spent (held-All (IsListed parts) views id both kept.listed (mine, tt)) tt;
      once = λ run. omega (
        arith,
        held-count (is_of run) views id (at_rest parts) both at,
        held-count (is_of run) (set views id both) other (OfToken part) Spent back,
        kept.once run,
      );
    }

pub returns : (id other : ℕ) (view back : View) (parts : List Part) (part : Part) → view ≡ at_rest parts → back ≡ OfToken part
    → Joins Holds id view other back (with_returned view back) Spent
returns id other view back parts part is token state kept at apart there =
    let mine : get_elem? state.views id ≡ some (at_rest parts) = at ∙ ap some is in
    let its : get_elem? (set state.views id (OfRoll (record { listed = parts; returned = part ∷ [] }))) other ≡ some (OfToken part) =
    subst (λ (pair : View × View). get_elem? (set state.views id (with_returned pair.0 pair.1)) other ≡ some pair.1) (λ i. (is i, token i)) there in
    let done = returned state.views id other parts part mine apart its (seen state.views id _ mine kept) in
    rw (is, token) (record { listed = parts; returned = part ∷ [] }, done)

-- ---- the second half of take

taken : (views : List View) (id : ℕ) (parts : List Part) (part : Part) → get_elem? views id ≡ some (OfRoll (record { listed = parts; returned = part ∷ [] }))
    → IsKeptWith (record { listed = parts; returned = part ∷ [] }) views
    → IsKeptWith (record { listed = without part.run parts; returned = [] }) (set views id (at_rest (without part.run parts)))
taken views id parts part at kept =
    let old : View = OfRoll (record { listed = parts; returned = part ∷ [] }) in
    let new : View = at_rest (without part.run parts) in
    let count = λ (run : ℕ). held-count (is_of run) views id old new at in
    let none_left : count_by (is_of part.run) (held_in (set views id new)) ≡ 0 = omega (arith, count part.run, counts_own part, kept.once part.run) in
    let listed = held-All (IsListed parts) views id new kept.listed tt in
    record {
      roll = (roll-changed views id _ _ (record { listed = without part.run parts; returned = [] }) at kept.roll).1;
      differ = differ-without part.run parts kept.differ;
      listed = All-with2 (held_in (set views id new)) (λ one is other. listed-without part.run parts one other is) listed
          (none_of part.run (held_in (set views id new)) none_left);
      once = λ run. omega (arith, count run, kept.once run);
    }

pub strikes : (slots id : ℕ) (me : Me (Unit {0}) View) (parts : List Part) (part : Part) → me ≡ (OfRoll (record { listed = parts; returned = part ∷ [] }), [])
    → Allows Holds slots id me 0 (λ n. n) (Strikes (step slots 0 0 0 none) me)
strikes slots id me parts part is state kept homes at small =
    let mine : get_elem? state.views id ≡ some (OfRoll (record { listed = parts; returned = part ∷ [] })) = at ∙ ap (λ (m : Me (Unit {0}) View). some m.0) is in
    let before = seen state.views id _ mine kept in
    let all = held-at (IsListed parts) state.views id _ mine before.listed in
    let done = taken state.views id parts part mine before in (
      at_rest (without part.run parts),
      keeps,
      tt,
      (record { listed = without part.run parts; returned = [] }, done),
      subst (λ (m : Me (Unit {0}) View). Strikes (step slots 0 0 0 none) m 0 (at_rest (without part.run parts), m.1)) (sym is) (all, refl),
    )

-- ---- the roll between two calls

pub rests : (table_id : TableId) (seat : Seat (Unit {0}) View) (parts : List Part) → seat.table_id ≡ table_id → table_id.words ≡ 1 → seat.me ≡ (at_rest parts, [])
    → AllLater DifferInRun parts → IsRollOf table_id seat
rests table_id seat parts own word is differ =
    let same : listed_of seat ≡ parts = ap (λ (m : Me (Unit {0}) View). listed_by m.0) is in
    record {
      own = own;
      word = word;
      rest = is ∙ (λ i. (at_rest (sym same i), []));
      differ = subst (AllLater DifferInRun) (sym same) differ;
    }
