-- How it is found by numbers what is put in the places of records.
use Rattle.std.proofs.Common.{◌≡◌, ℕ, ◌+◌, ◌<◌, ◌==◌, Bool, true, false, cond, eqb, List, [], ◌∷◌, ◌++◌, get_or, length, take, slice_get, Option, Some, None, IfSome, refl, sym, ◌∙◌, ap, subst, arith}
use Rattle.std.specs.Option.{option_map_or}
use Rattle.std.specs.Ordering.{is_eq, nat_cmp}
use Rattle.std.specs.BTreeMap.{get, BTreeMap, Updates}
use Rattle.std.proofs.lemmas.Bool.{cond_both}
use Rattle.std.proofs.lemmas.Bool.Decides.{nat_tests}
use Rattle.std.proofs.lemmas.List.{take_more}
use Rattle.std.proofs.lemmas.Option.{slice_get-get_or}
use Rattle.wm_machine.specs.declared.record.Record.{Record}
use Rattle.wm_observe.specs.Put.{put_at, AreFirstPlaces}
use Rattle.wm_steps.proofs.RecordsAfter.{put-seq}
use Rattle.wm_changes.specs.Touched.{put_in}
use Rattle.wm_changes.specs.declared.change.Replacement.{Replacement}

-- ---- one more

put-last : (first : List Replacement) (last : Replacement) (work : Record)
    → put_in (first ++ last ∷ []) work ≡ cond (eqb last.work.seq work.seq) last.work (put_in first work)
put-last [] last work = refl
put-last (replaced ∷ later) last work =
    let now = cond (eqb replaced.work.seq work.seq) replaced.work work in
    let same : now.seq ≡ work.seq = put-seq (replaced ∷ []) work in
    put-last later last now ∙ ap (λ (n : ℕ). cond (eqb last.work.seq n) last.work (put_in later now)) same

chosen : (b : Bool) (replaced : List Replacement) (i : ℕ) (old : Option ℕ) (work : Record)
    → put_at replaced (cond b (Some i) old) work ≡ cond b (put_at replaced (Some i) work) (put_at replaced old work)
chosen true replaced i old work = refl
chosen false replaced i old work = refl

module _ (replaced : List Replacement) (i : ℕ) (last : Replacement) (within : i < length replaced) (is : last ≡ get_or replaced i last)
    (old new : BTreeMap ℕ ℕ) (so_far : AreFirstPlaces replaced (take i replaced) old) (updates : Updates nat_cmp old new last.work.seq (Some i)) where
  found : (number : ℕ) → get nat_cmp new number ≡ cond (eqb last.work.seq number) (Some i) (get nat_cmp old number)
  found number =
      let test : is_eq (nat_cmp last.work.seq number) ≡ (last.work.seq == number) = grind (arith, nat_tests) in
      updates.0 number ∙ ap (λ b. cond b (Some i) (get nat_cmp old number)) test

  at-last : (work : Record) → put_at replaced (Some i) work ≡ last.work
  at-last work =
      ap (λ (one : Option Replacement). option_map_or (λ (r : Replacement). r.work) one work)
      (slice_get-get_or replaced i last within ∙ ap (λ (r : Replacement). Some r) (sym is))

  -- the last of each number is found with one more
  pub places-more : AreFirstPlaces replaced (take (i + 1) replaced) new
  places-more = record {
    within = λ number. subst (λ (o : Option ℕ). IfSome o (λ index. index < length replaced)) (sym (found number))
        (cond_both (eqb last.work.seq number) (Some i) (get nat_cmp old number) (λ (o : Option ℕ). IfSome o (λ index. index < length replaced))
        (λ e. within) (λ e. so_far.within number));
    put = λ work.
        let hit = eqb last.work.seq work.seq in
        let taken : take (i + 1) replaced ≡ take i replaced ++ last ∷ [] =
        take_more replaced i last within ∙ ap (λ (r : Replacement). take i replaced ++ r ∷ []) (sym is) in
        ap (λ (o : Option ℕ). put_at replaced o work) (found work.seq) ∙ chosen hit replaced i (get nat_cmp old work.seq) work
        ∙ ap (λ (w : Record). cond hit w (put_at replaced (get nat_cmp old work.seq) work)) (at-last work)
        ∙ ap (λ (w : Record). cond hit last.work w) (so_far.put work) ∙ sym (put-last (take i replaced) last work)
        ∙ ap (λ (first : List Replacement). put_in first work) (sym taken);
  }

-- the record that is found by the index of one
pub put-found : (replaced : List Replacement) (places : BTreeMap ℕ ℕ) (work : Record) (index : ℕ) (one : Replacement) → AreFirstPlaces replaced replaced places
    → get nat_cmp places work.seq ≡ Some index → slice_get replaced index ≡ Some one → one.work ≡ put_in replaced work
put-found replaced places work index one are found at =
    sym (ap (λ (o : Option ℕ). put_at replaced o work) found ∙ ap (λ (o : Option Replacement). option_map_or (λ (r : Replacement). r.work) o work) at)
    ∙ are.put work

-- and where there is none, the record itself is left
pub put-unfound : (replaced : List Replacement) (places : BTreeMap ℕ ℕ) (work : Record) → AreFirstPlaces replaced replaced places
    → get nat_cmp places work.seq ≡ None → work ≡ put_in replaced work
put-unfound replaced places work are none = sym (ap (λ (o : Option ℕ). put_at replaced o work) none) ∙ are.put work

pub index-within : (replaced : List Replacement) (places : BTreeMap ℕ ℕ) (number index : ℕ) → AreFirstPlaces replaced replaced places
    → get nat_cmp places number ≡ Some index → index < length replaced
index-within replaced places number index are found = subst (λ (o : Option ℕ). IfSome o (λ i. i < length replaced)) found (are.within number)

-- ---- none

pub places-none : (replaced : List Replacement) (places : BTreeMap ℕ ℕ) → places.entries ≡ [] → AreFirstPlaces replaced [] places
places-none replaced places none =
    let absent : (number : ℕ) → get nat_cmp places number ≡ None = λ number. rw none refl in
    record {
      within = λ number. subst (λ (o : Option ℕ). IfSome o (λ index. index < length replaced)) (sym (absent number)) tt;
      put = λ work. ap (λ (o : Option ℕ). put_at replaced o work) (absent work.seq);
    }
