-- The records that a change touches, each by what it was and what it is then. No record is touched twice.
use Rattle.std.proofs.Common.{◌≡◌, ◌≢◌, ℕ, zero, suc, ◌<◌, ◌≤◌, pos, true, false, cond, eqb, List, [], ◌∷◌, ◌++◌, append_assoc, filter_map, length, map, slice_get, Option, Some, None, refl, sym, ◌∙◌, ap, subst, arith, inl, inr}
use Rattle.std.specs.Prelude.{IsSomeAnd}
use Rattle.std.specs.List.{list_any, AllByRecursion}
use Rattle.std.proofs.lemmas.Bool.{eq-eqb, eqb-true, false≢true, ne_eqb}
use Rattle.std.proofs.lemmas.Option.{none-some, same_Some}
use Rattle.wm_collections.proofs.Lists.{All-append, All-back, All-find, All-front, All-map, All-of_one, All-stored, All-unmap, All-weaker, AllLater-back, AllLater-front, HasOne-front, HasOne-map, find-fails, find-none, find-passes, list_any-false, list_any-stored, one_gives}
use Rattle.wm_collections.specs.Lists.{is_among, AllLater, HasOne}
use Rattle.wm_keeper.specs.Keeper.{changed_number, AreOfDifferentNumbers}
use Rattle.wm_graph.specs.Nodes.{HasNode}
use Rattle.wm_machine.proofs.Runnings.{WorksAscend, WorksAscend-in_order}
use Rattle.wm_machine.proofs.Steps.{Valid-after}
use Rattle.wm_machine.specs.Input.{work_numbered}
use Rattle.wm_machine.specs.Valid.{IsBefore, IsRecord, Valid}
use Rattle.wm_machine.specs.declared.record.Record.{Record}
use Rattle.wm_machine.specs.declared.state.State.{State}
use Rattle.wm_steps.proofs.RecordsAfter.{numbered-after, put-none, records-after, then-untouched, All-left}
use Rattle.wm_steps.proofs.ReplacedRecords.{keeps_number, next-above, told_keep, All-seq}
use Rattle.wm_steps.proofs.Unmets.{found-node}
use Rattle.wm_changes.specs.Nodes.{nodes_of}
use Rattle.wm_changes.specs.StepChanges.{changed_state, put_replaced, put_work, remove_numbered, seqs_of, Fits, IsStepOf, IsToldAlone, KeepsPlace}
use Rattle.wm_changes.specs.Touched.{put_in, then_of, touches}
use Rattle.wm_changes.specs.declared.change.Replacement.{Replacement}
use Rattle.wm_changes.specs.declared.change.StepChange.{StepChange}

pub record Move : Type 0 where
  pub number : ℕ
  pub old : Option Record
  pub new : Option Record

abbrev pub move_replaced : List Record → Replacement → Move
move_replaced works r = record { number = r.work.seq; old = slice_get works r.index; new = Some r.work }

abbrev pub move_removed : List Record → ℕ → Move
move_removed works number = record { number = number; old = work_numbered number works; new = None }

abbrev pub move_placed : Record → Move
move_placed work = record { number = work.seq; old = None; new = Some work }

-- those of a change but for the told records
abbrev pub moves_beside : StepChange → List Record → List Move
moves_beside change works =
    map (move_replaced works) change.replaced ++ (map (move_removed works) change.removed ++ map move_placed change.placed)

abbrev pub moves_of : StepChange → List Record → List Move
moves_of change works = map (move_replaced works) change.told ++ moves_beside change works

abbrev pub AreApart : List Move → Type 0
AreApart moves = AllLater (λ one later. one.number ≢ later.number) moves

-- ---- none is touched twice

cross : {T : Type 0} (R : T → T → Type 0) (xs ys : List T) → AllLater R (xs ++ ys) → AllByRecursion (λ x. AllByRecursion (R x) ys) xs
cross R [] ys all = tt
cross R (x ∷ xs) ys all = (All-back (R x) xs ys all.0, cross R xs ys all.1)

placed-apart : (number : ℕ) (placed : List Record) → AllByRecursion (λ later. pos number ≢ changed_number later) (map put_work placed)
    → AllByRecursion (λ (later : Move). number ≢ later.number) (map move_placed placed)
placed-apart number [] differ = tt
placed-apart number (work ∷ placed) differ = (λ same. differ.0 (ap (λ n. pos n) same), placed-apart number placed differ.1)

removed-apart : (number : ℕ) (works : List Record) (removed : List ℕ) (placed : List Record)
    → AllByRecursion (λ later. pos number ≢ changed_number later) (map remove_numbered removed ++ map put_work placed)
    → AllByRecursion (λ (later : Move). number ≢ later.number) (map (move_removed works) removed ++ map move_placed placed)
removed-apart number works [] placed differ = placed-apart number placed differ
removed-apart number works (n ∷ removed) placed differ = (λ same. differ.0 (ap (λ k. pos k) same), removed-apart number works removed placed differ.1)

replaced-apart : (number : ℕ) (works : List Record) (replaced : List Replacement) (removed : List ℕ) (placed : List Record)
    → AllByRecursion (λ later. pos number ≢ changed_number later) (map put_replaced replaced ++ (map remove_numbered removed ++ map put_work placed))
    → AllByRecursion (λ (later : Move). number ≢ later.number) (map (move_replaced works) replaced ++ (map (move_removed works) removed ++ map move_placed placed))
replaced-apart number works [] removed placed differ = removed-apart number works removed placed differ
replaced-apart number works (r ∷ replaced) removed placed differ =
    (λ same. differ.0 (ap (λ k. pos k) same), replaced-apart number works replaced removed placed differ.1)

all-placed : (placed : List Record) → AreOfDifferentNumbers (map put_work placed) → AreApart (map move_placed placed)
all-placed [] apart = tt
all-placed (work ∷ placed) apart = (placed-apart work.seq placed apart.0, all-placed placed apart.1)

all-removed : (works : List Record) (removed : List ℕ) (placed : List Record) → AreOfDifferentNumbers (map remove_numbered removed ++ map put_work placed)
    → AreApart (map (move_removed works) removed ++ map move_placed placed)
all-removed works [] placed apart = all-placed placed apart
all-removed works (number ∷ removed) placed apart = (removed-apart number works removed placed apart.0, all-removed works removed placed apart.1)

all-replaced : (works : List Record) (replaced : List Replacement) (removed : List ℕ) (placed : List Record)
    → AreOfDifferentNumbers (map put_replaced replaced ++ (map remove_numbered removed ++ map put_work placed))
    → AreApart (map (move_replaced works) replaced ++ (map (move_removed works) removed ++ map move_placed placed))
all-replaced works [] removed placed apart = all-removed works removed placed apart
all-replaced works (r ∷ replaced) removed placed apart =
    (replaced-apart r.work.seq works replaced removed placed apart.0, all-replaced works replaced removed placed apart.1)

few-told : (works : List Record) (told : List Replacement) (beside : List Move) → beside ≡ [] → length told ≤ 1 → AreApart (map (move_replaced works) told ++ beside)
few-told works [] beside none few = subst AreApart (sym none) tt
few-told works (t ∷ []) beside none few = subst (λ (ms : List Move). AreApart (move_replaced works t ∷ ms)) (sym none) (tt, tt)
few-told works (t ∷ other ∷ told) beside none few = absurd (omega (arith, few))

nothing-beside : (change : StepChange) (works : List Record) → IsToldAlone change → moves_beside change works ≡ []
nothing-beside change works is =
    ap (λ (rs : List Replacement). map (move_replaced works) rs ++ (map (move_removed works) change.removed ++ map move_placed change.placed)) is.none_replaced
    ∙ ap (λ (ns : List ℕ). map (move_removed works) ns ++ map move_placed change.placed) is.none_removed ∙ ap (map move_placed) is.none_placed

pub moves-apart : (s : State) (change : StepChange) → Fits s change → AreApart (moves_of change s.works)
moves-apart s change fits =
    elim fits.alone as (λ _. AreApart (moves_of change s.works)) [
      | inl none ↦
          subst (λ (told : List Replacement). AreApart (map (move_replaced s.works) told ++ moves_beside change s.works)) (sym none)
          (all-replaced s.works change.replaced change.removed change.placed (subst AreOfDifferentNumbers
          (append_assoc (map put_replaced change.replaced) (map remove_numbered change.removed) (map put_work change.placed)) fits.apart))
      | inr is ↦ few-told s.works change.told (moves_beside change s.works) (nothing-beside change s.works is) is.one
    ]

-- two of them have different numbers
apart-two : (xs ys : List Move) (one other : Move) → AreApart (xs ++ ys) → HasOne (λ m. m ≡ one) xs → HasOne (λ m. m ≡ other) ys → one.number ≢ other.number
apart-two xs ys one other apart there also =
    let R : Move → Move → Type 0 = λ one later. one.number ≢ later.number in
    All-of_one (R one) ys other (All-of_one (λ x. AllByRecursion (R x) ys) xs one (cross R xs ys apart) there) also

stored-map : {T : Type 0} (f : T → Move) (xs : List T) (x : T) → HasOne (λ y. y ≡ x) xs → HasOne (λ m. m ≡ f x) (map f xs)
stored-map f xs x one = HasOne-map (λ m. m ≡ f x) f xs (λ y is. ap f is) one

-- ---- what is put in the place of a record

differ-later : (works : List Record) (number : ℕ) (later : List Replacement) → AllByRecursion (λ (m : Move). number ≢ m.number) (map (move_replaced works) later)
    → AllByRecursion (λ r. number ≢ r.work.seq) later
differ-later works number later differ = All-unmap (λ (m : Move). number ≢ m.number) (move_replaced works) later differ

none-later : (number : ℕ) (later : List Replacement) → AllByRecursion (λ r. number ≢ r.work.seq) later
    → list_any (λ (r : Replacement). eqb r.work.seq number) later ≡ false
none-later number later differ =
    list_any-false (λ (r : Replacement). eqb r.work.seq number) later (All-weaker later (λ r differs. ne_eqb r.work.seq number (λ e. differs (sym e))) differ)

put-one : (works : List Record) (replaced : List Replacement) (r : Replacement) (work : Record) → AreApart (map (move_replaced works) replaced)
    → HasOne (λ q. q ≡ r) replaced → r.work.seq ≡ work.seq → put_in replaced work ≡ r.work
put-one works [] r work apart one same = absurd one
put-one works (first ∷ later) r work apart (inl is) same =
    let hit = eq-eqb first.work.seq work.seq (ap (λ (q : Replacement). q.work.seq) is ∙ same) in
    ap (λ b. put_in later (cond b first.work work)) hit
    ∙ put-none later first.work (none-later first.work.seq later (differ-later works first.work.seq later apart.0))
    ∙ ap (λ (q : Replacement). q.work) is
put-one works (first ∷ later) r work apart (inr one) same =
    let differs = All-of_one (λ (q : Replacement). first.work.seq ≢ q.work.seq) later r (differ-later works first.work.seq later apart.0) one in
    let miss = ne_eqb first.work.seq work.seq (λ e. differs (e ∙ sym same)) in
    ap (λ b. put_in later (cond b first.work work)) miss ∙ put-one works later r work apart.1 one same

-- ---- where a record stands

-- the record at the place of a number is found by it
pub numbered-place : (works : List Record) (i number : ℕ) → WorksAscend works → slice_get (seqs_of works) i ≡ Some number → slice_get works i ≡ work_numbered number works
numbered-place [] i number ascend is = absurd (none-some number is)
numbered-place (work ∷ works) zero number ascend is = let hit = eq-eqb work.seq number (same_Some work.seq number is) in rw hit refl
numbered-place (work ∷ works) (suc i) number ascend is =
    let above : work.seq < number = All-seq (λ n. work.seq < n) works i number ascend.0 is in
    let miss = ne_eqb work.seq number (λ e. absurd (omega (arith, above))) in
    rw miss (numbered-place works i number ascend.1 is)

-- a number that is there is found
there-found : (works : List Record) (i number : ℕ) → slice_get (seqs_of works) i ≡ Some number → (found : Option Record) → work_numbered number works ≡ found
    → IsSomeAnd found (λ work. work.seq ≡ number)
there-found [] i number is found e = absurd (none-some number is)
there-found works i number is (Some work) e = eqb-true work.seq number (find-passes (λ (w : Record). eqb w.seq number) works work e)
there-found works i number is None e =
    absurd (All-seq (λ n. n ≢ number) works i number (All-weaker works (λ w miss same. false≢true (sym miss ∙ eq-eqb w.seq number same))
    (find-none (λ (w : Record). eqb w.seq number) works e)) is refl)

-- one of records in ascending number is found by its own
pub numbered-stored : (works : List Record) (work : Record) → WorksAscend works → HasOne (λ w. w ≡ work) works → work_numbered work.seq works ≡ Some work
numbered-stored [] work ascend one = absurd one
numbered-stored (first ∷ works) work ascend (inl is) =
    let hit = eq-eqb first.seq work.seq (ap (λ (w : Record). w.seq) is) in rw hit (ap (λ (w : Record). Some w) is)
numbered-stored (first ∷ works) work ascend (inr one) =
    let above = All-of_one (λ (w : Record). first.seq < w.seq) works work ascend.0 one in
    let miss = ne_eqb first.seq work.seq (λ e. absurd (omega (arith, above))) in
    rw miss (numbered-stored works work ascend.1 one)

-- ---- what each was and is then

pub record IsMove (works after : List Record) (m : Move) : Type 0 where
  pub was : m.old ≡ work_numbered m.number works
  pub is : m.new ≡ work_numbered m.number after

module _ (s : State) (change : StepChange) (valid : Valid s) (step : IsStepOf s change) where
  abbrev after : List Record
  after = (changed_state change s).works

  apart : AreApart (moves_of change s.works)
  apart = moves-apart s change step.fits

  ascend : WorksAscend s.works
  ascend = WorksAscend-in_order s.works valid.works.in_order

  ascend_after : WorksAscend after
  ascend_after =
      WorksAscend-in_order after (subst (λ (t : State). AllLater IsBefore t.works) (sym step.state) (Valid-after s change.event valid step.legal).works.in_order)

  beside_apart : AreApart (moves_beside change s.works)
  beside_apart = AllLater-back _ (map (move_replaced s.works) change.told) (moves_beside change s.works) apart

  abbrev told_moves : List Move
  told_moves = map (move_replaced s.works) change.told

  abbrev replaced_moves : List Move
  replaced_moves = map (move_replaced s.works) change.replaced

  abbrev later_moves : List Move
  later_moves = map (move_removed s.works) change.removed ++ map move_placed change.placed

  then-found : (number : ℕ) (old : Record) → work_numbered number s.works ≡ Some old → work_numbered number after ≡ then_of change old
  then-found number old found =
      let same : old.seq ≡ number = eqb-true old.seq number (find-passes (λ (w : Record). eqb w.seq number) s.works old found) in
      subst (λ n. work_numbered n after ≡ then_of change old) same
      (All-find (λ w. work_numbered w.seq after ≡ then_of change w) (λ (w : Record). eqb w.seq number) s.works old found
      (numbered-after s change valid step.fits))

  one_back : {T : Type 0} (P : T → Type 0) (xs ys : List T) → HasOne P ys → HasOne P (xs ++ ys)
  one_back P [] ys one = one
  one_back P (x ∷ xs) ys one = inr (one_back P xs ys one)

  -- where the works that a change touches stand among its moves
  in_replaced : (r : Replacement) → HasOne (λ q. q ≡ r) change.replaced → HasOne (λ m. m ≡ move_replaced s.works r) (moves_beside change s.works)
  in_replaced r one = HasOne-front _ replaced_moves later_moves (stored-map (move_replaced s.works) change.replaced r one)

  in_later : (number : ℕ) → HasOne (λ k. k ≡ number) change.removed → HasOne (λ m. m ≡ move_removed s.works number) later_moves
  in_later number one =
      HasOne-front _ (map (move_removed s.works) change.removed) (map move_placed change.placed) (stored-map (move_removed s.works) change.removed number one)

  in_told : (t : Replacement) → HasOne (λ q. q ≡ t) change.told → HasOne (λ m. m ≡ move_replaced s.works t) told_moves
  in_told t one = stored-map (move_replaced s.works) change.told t one

  told_not_removed : (t : Replacement) → HasOne (λ q. q ≡ t) change.told → is_among change.removed t.work.seq ≡ false
  told_not_removed t one =
      list_any-false (λ k. eqb k t.work.seq) change.removed (All-weaker change.removed (λ k stored. ne_eqb k t.work.seq (λ e.
      apart-two told_moves (moves_beside change s.works) (move_replaced s.works t) (move_removed s.works k) apart (in_told t one)
      (one_back _ replaced_moves later_moves (in_later k stored)) (sym e))) (All-stored change.removed))

  replaced_not_removed : (r : Replacement) → HasOne (λ q. q ≡ r) change.replaced → is_among change.removed r.work.seq ≡ false
  replaced_not_removed r one =
      list_any-false (λ k. eqb k r.work.seq) change.removed (All-weaker change.removed (λ k stored. ne_eqb k r.work.seq (λ e.
      apart-two replaced_moves later_moves (move_replaced s.works r) (move_removed s.works k) beside_apart
      (stored-map (move_replaced s.works) change.replaced r one) (in_later k stored) (sym e))) (All-stored change.removed))

  told_not_replaced : (t : Replacement) → HasOne (λ q. q ≡ t) change.told → list_any (λ (r : Replacement). eqb r.work.seq t.work.seq) change.replaced ≡ false
  told_not_replaced t one =
      list_any-false (λ (r : Replacement). eqb r.work.seq t.work.seq) change.replaced (All-weaker change.replaced (λ r stored.
      ne_eqb r.work.seq t.work.seq (λ e. apart-two told_moves (moves_beside change s.works) (move_replaced s.works t) (move_replaced s.works r) apart
      (in_told t one) (in_replaced r stored) (sym e))) (All-stored change.replaced))

  replaced_not_told : (r : Replacement) → HasOne (λ q. q ≡ r) change.replaced → list_any (λ (t : Replacement). eqb t.work.seq r.work.seq) change.told ≡ false
  replaced_not_told r one =
      list_any-false (λ (t : Replacement). eqb t.work.seq r.work.seq) change.told (All-weaker change.told (λ t stored.
      ne_eqb t.work.seq r.work.seq (λ e. apart-two told_moves (moves_beside change s.works) (move_replaced s.works t) (move_replaced s.works r) apart
      (in_told t stored) (in_replaced r one) e)) (All-stored change.told))

  then_put : (old new : Record) → is_among change.removed old.seq ≡ false → put_in change.replaced (put_in change.told old) ≡ new → then_of change old ≡ Some new
  then_put old new stays put = ap (λ b. cond b None (Some (put_in change.replaced (put_in change.told old)))) stays ∙ ap (λ (w : Record). Some w) put

  told_keeps : (t : Replacement) → HasOne (λ q. q ≡ t) change.told → slice_get (seqs_of s.works) t.index ≡ Some t.work.seq
  told_keeps t one =
      All-of_one (λ (r : Replacement). slice_get (seqs_of s.works) r.index ≡ Some r.work.seq) change.told t (told_keep s.works change.told step.fits.told) one

  replaced_keeps : (r : Replacement) → HasOne (λ q. q ≡ r) change.replaced → slice_get (seqs_of s.works) r.index ≡ Some r.work.seq
  replaced_keeps r one = keeps_number s.works r (All-of_one (KeepsPlace s.works) change.replaced r step.fits.replaced one)

  found_then : (i : ℕ) (new : Record) → slice_get (seqs_of s.works) i ≡ Some new.seq → ((old : Record) → old.seq ≡ new.seq → then_of change old ≡ Some new)
      → (found : Option Record) → work_numbered new.seq s.works ≡ found → Some new ≡ work_numbered new.seq after
  found_then i new keeps then None none = absurd (there-found s.works i new.seq keeps None none)
  found_then i new keeps then (Some old) is =
      sym (then-found new.seq old is ∙ then old (there-found s.works i new.seq keeps (Some old) is))

  told-move : (t : Replacement) → HasOne (λ q. q ≡ t) change.told → IsMove s.works after (move_replaced s.works t)
  told-move t one = record {
    was = numbered-place s.works t.index t.work.seq ascend (told_keeps t one);
    is =
        found_then t.index t.work (told_keeps t one) (λ old same. then_put old t.work (ap (is_among change.removed) same ∙ told_not_removed t one)
        (ap (put_in change.replaced) (put-one s.works change.told t old (AllLater-front _ told_moves (moves_beside change s.works) apart) one (sym same))
        ∙ put-none change.replaced t.work (told_not_replaced t one))) (work_numbered t.work.seq s.works) refl;
  }

  replaced-move : (r : Replacement) → HasOne (λ q. q ≡ r) change.replaced → IsMove s.works after (move_replaced s.works r)
  replaced-move r one = record {
    was = numbered-place s.works r.index r.work.seq ascend (replaced_keeps r one);
    is =
        found_then r.index r.work (replaced_keeps r one) (λ old same. then_put old r.work (ap (is_among change.removed) same ∙ replaced_not_removed r one)
        (ap (put_in change.replaced) (put-none change.told old (ap (λ n. list_any (λ (t : Replacement). eqb t.work.seq n) change.told) same ∙ replaced_not_told r one))
        ∙ put-one s.works change.replaced r old (AllLater-front _ replaced_moves later_moves beside_apart) one (sym same)))
        (work_numbered r.work.seq s.works) refl;
  }

  removed_then : (number : ℕ) → HasOne (λ k. k ≡ number) change.removed → HasOne (λ (w : Record). w.seq ≡ number) s.works
      → (found : Option Record) → work_numbered number s.works ≡ found → None ≡ work_numbered number after
  removed_then number one there None none =
      one_gives s.works (λ w miss here. absurd (false≢true (sym miss ∙ eq-eqb w.seq number here))) (find-none (λ (w : Record). eqb w.seq number) s.works none) there
  removed_then number one there (Some old) is =
      let same : old.seq ≡ number = eqb-true old.seq number (find-passes (λ (w : Record). eqb w.seq number) s.works old is) in
      let gone : is_among change.removed old.seq ≡ true = list_any-stored (λ k. eqb k old.seq) change.removed number one (eq-eqb number old.seq (sym same)) in
      sym (then-found number old is ∙ ap (λ b. cond b None (Some (put_in change.replaced (put_in change.told old)))) gone)

  removed-move : (number : ℕ) → HasOne (λ k. k ≡ number) change.removed → IsMove s.works after (move_removed s.works number)
  removed-move number one = record {
    was = refl;
    is =
        removed_then number one (All-of_one (λ k. HasOne (λ (w : Record). w.seq ≡ k) s.works) change.removed number step.fits.removed one)
        (work_numbered number s.works) refl;
  }

  placed-move : (work : Record) → HasOne (λ w. w ≡ work) change.placed → IsMove s.works after (move_placed work)
  placed-move work one = record {
    was =
        let above = All-of_one (λ (w : Record). s.next ≤ w.seq) change.placed work (next-above s.next change.placed step.fits.placed) one in
        sym (find-fails (λ (w : Record). eqb w.seq work.seq) s.works
        (All-weaker s.works (λ w below. ne_eqb w.seq work.seq (λ e. absurd (omega (arith, above, below)))) valid.works.numbers));
    is =
        sym (numbered-stored after work ascend_after (subst (HasOne (λ w. w ≡ work)) (sym (records-after s change valid step.fits))
        (one_back (λ w. w ≡ work) (filter_map (then_of change) s.works) change.placed one)));
  }

  -- each is what the record of its number was and is then
  pub are-moves : AllByRecursion (IsMove s.works after) (moves_of change s.works)
  are-moves =
      All-append (IsMove s.works after) told_moves (moves_beside change s.works)
      (All-map (IsMove s.works after) (move_replaced s.works) change.told (λ t one. told-move t one) (All-stored change.told))
      (All-append (IsMove s.works after) replaced_moves later_moves
      (All-map (IsMove s.works after) (move_replaced s.works) change.replaced (λ r one. replaced-move r one) (All-stored change.replaced))
      (All-append (IsMove s.works after) (map (move_removed s.works) change.removed) (map move_placed change.placed)
      (All-map (IsMove s.works after) (move_removed s.works) change.removed (λ number one. removed-move number one) (All-stored change.removed))
      (All-map (IsMove s.works after) move_placed change.placed (λ work one. placed-move work one) (All-stored change.placed))))

  -- ---- the others

  abbrev Misses : ℕ → Move → Type 0
  Misses number m = eqb m.number number ≡ false

  missed : (number : ℕ) (replaced : List Replacement) → AllByRecursion (Misses number) (map (move_replaced s.works) replaced)
      → list_any (λ (r : Replacement). eqb r.work.seq number) replaced ≡ false
  missed number replaced misses =
      list_any-false (λ (r : Replacement). eqb r.work.seq number) replaced (All-unmap (Misses number) (move_replaced s.works) replaced misses)

  pub untouched : (number : ℕ) → AllByRecursion (Misses number) (moves_of change s.works) → touches change number ≡ false
  untouched number misses =
      let beside = All-back (Misses number) told_moves (moves_beside change s.works) misses in
      let later = All-back (Misses number) replaced_moves later_moves beside in
      let removed : is_among change.removed number ≡ false =
      list_any-false (λ k. eqb k number) change.removed (All-unmap (Misses number) (move_removed s.works) change.removed
      (All-front (Misses number) (map (move_removed s.works) change.removed) (map move_placed change.placed) later)) in
      let told = missed number change.told (All-front (Misses number) told_moves (moves_beside change s.works) misses) in
      let replaced = missed number change.replaced (All-front (Misses number) replaced_moves later_moves beside) in
      rw (removed, told, replaced) refl

  stays_none : (number : ℕ) → AllByRecursion (Misses number) (moves_of change s.works) → work_numbered number s.works ≡ None → work_numbered number after ≡ None
  stays_none number misses none =
      let beside = All-back (Misses number) told_moves (moves_beside change s.works) misses in
      let later = All-back (Misses number) replaced_moves later_moves beside in
      let placed = All-unmap (Misses number) move_placed change.placed (All-back (Misses number) (map (move_removed s.works) change.removed) (map move_placed change.placed) later) in
      let left = filter_map (then_of change) s.works in
      let old = All-left (λ n. eqb n number ≡ false) change s.works (find-none (λ (w : Record). eqb w.seq number) s.works none) in
      ap (work_numbered number) (records-after s change valid step.fits)
      ∙ find-fails (λ (w : Record). eqb w.seq number) (left ++ change.placed) (All-append (λ (w : Record). eqb w.seq number ≡ false) left change.placed old placed)

  same_then : (number : ℕ) → AllByRecursion (Misses number) (moves_of change s.works) → (found : Option Record) → work_numbered number s.works ≡ found
      → work_numbered number after ≡ work_numbered number s.works
  same_then number misses None none = stays_none number misses none ∙ sym none
  same_then number misses (Some old) is =
      let same : old.seq ≡ number = eqb-true old.seq number (find-passes (λ (w : Record). eqb w.seq number) s.works old is) in
      then-found number old is ∙ then-untouched change old (ap (touches change) same ∙ untouched number misses) ∙ sym is

  -- the record of a number that none of them has stays as it is
  pub same-then : (number : ℕ) → AllByRecursion (Misses number) (moves_of change s.works) → work_numbered number after ≡ work_numbered number s.works
  same-then number misses = same_then number misses (work_numbered number s.works) refl

  -- ---- the new records

  valid_after : Valid (changed_state change s)
  valid_after = subst Valid (sym step.state) (Valid-after s change.event valid step.legal)

  record-found : (work : Record) → Some work ≡ work_numbered work.seq after → IsRecord work
  record-found work is = All-find IsRecord (λ (w : Record). eqb w.seq work.seq) after work (sym is) valid_after.works.records

  -- they are within their limits
  pub told-records : AllByRecursion (λ told. IsRecord told.work) change.told
  told-records = All-weaker change.told (λ t one. record-found t.work (told-move t one).is) (All-stored change.told)

  pub replaced-records : AllByRecursion (λ replaced. IsRecord replaced.work) change.replaced
  replaced-records = All-weaker change.replaced (λ r one. record-found r.work (replaced-move r one).is) (All-stored change.replaced)

  pub placed-records : AllByRecursion IsRecord change.placed
  placed-records = All-weaker change.placed (λ work one. record-found work (placed-move work one).is) (All-stored change.placed)

  -- and have their nodes
  pub told-nodes : AllByRecursion (λ told. HasNode (nodes_of after) told.work.seq) change.told
  told-nodes = All-weaker change.told (λ t one. found-node after t.work (sym (told-move t one).is)) (All-stored change.told)

  pub replaced-nodes : AllByRecursion (λ replaced. HasNode (nodes_of after) replaced.work.seq) change.replaced
  replaced-nodes = All-weaker change.replaced (λ r one. found-node after r.work (sym (replaced-move r one).is)) (All-stored change.replaced)

  pub placed-nodes : AllByRecursion (λ work. HasNode (nodes_of after) work.seq) change.placed
  placed-nodes = All-weaker change.placed (λ work one. found-node after work (sym (placed-move work one).is)) (All-stored change.placed)
