-- Entries that were prepared for a change become those of the records after it, or those of the records before it again.
use Rattle.std.proofs.Common.{◌≡◌, ℕ, zero, suc, ◌<◌, ◌==◌, ◌&&◌, true, false, not, List, [], ◌∷◌, ◌++◌, append_assoc, map, slice_get, take, Option, None, Some, option_map, refl, sym, ◌∙◌, ap, subst, inl, inr}
use Rattle.std.specs.List.{AllByRecursion}
use Rattle.std.specs.Option.{is_none}
use Rattle.std.specs.Str.{bytes_eq}
use Rattle.std.proofs.lemmas.Bool.{cases_Bool, eq-eqb, or_right}
use Rattle.std.proofs.lemmas.List.{map-append}
use Rattle.std.proofs.lemmas.List.Elements.{filter-append}
use Rattle.std.proofs.lemmas.List.Folds.{list_any-append}
use Rattle.wm_collections.specs.Lists.{AllLater}
use Rattle.wm_collections.proofs.Lists.{All-append, All-kept, All-push, All-weaker, All-with2, filter-each, find-fails}
use Rattle.wm_index.specs.Entries.{changed_at, has_unidentified, identified, is_id, keeping_tags, without, Entry}
use Rattle.wm_machine.specs.declared.record.Record.{Record}
use Rattle.wm_steps.proofs.EntryLists.{changed-missed, missed-above, missed-below, IsMissed, KeepsSeq}
use Rattle.wm_steps.specs.Entries.{new_entry, untagged_by, with_changed, with_identified, with_untagged, without_entries, AreEntriesOf, AreIdentifiable}
use Rattle.wm_changes.specs.StepChanges.{seqs_of}
use Rattle.wm_changes.specs.declared.change.Replacement.{Replacement}

-- what holds of each holds of each of the first
pub All-take : {T : Type 0} (P : T → Type 0) (xs : List T) (count : ℕ) → AllByRecursion P xs → AllByRecursion P (take count xs)
All-take P [] zero all = tt
All-take P [] (suc count) all = tt
All-take P (x ∷ xs) zero all = tt
All-take P (x ∷ xs) (suc count) all = (all.0, All-take P xs count all.1)

-- ---- what is done in front of other entries

-- what holds of each number holds of it still
each-changed : (P : ℕ → Type 0) (change : Entry → Entry) (seq : ℕ) (entries : List Entry) → KeepsSeq change
    → AllByRecursion (λ entry. P entry.seq) entries → AllByRecursion (λ entry. P entry.seq) (changed_at change seq entries)
each-changed P change seq [] keeps all = tt
each-changed P change seq (entry ∷ entries) keeps all =
    let rest = each-changed P change seq entries keeps all.1 in
    elim (cases_Bool (entry.seq == seq)) as (λ _. AllByRecursion (λ entry. P entry.seq) (changed_at change seq (entry ∷ entries))) [
      | inl is ↦ rw is (subst P (sym (keeps entry)) all.0, rest)
      | inr isnt ↦ rw isnt (all.0, rest)
    ]

pub each-with_changed : (P : ℕ → Type 0) (change : Record → Entry → Entry) (replaced : List Replacement) (entries : List Entry)
    → ((work : Record) → KeepsSeq (change work)) → AllByRecursion (λ entry. P entry.seq) entries
    → AllByRecursion (λ entry. P entry.seq) (with_changed change replaced entries)
each-with_changed P change [] entries keeps all = all
each-with_changed P change (r ∷ later) entries keeps all =
    each-with_changed P change later (changed_at (change r.work) r.work.seq entries) keeps (each-changed P (change r.work) r.work.seq entries (keeps r.work) all)

pub each-without : (P : ℕ → Type 0) (numbers : List ℕ) (entries : List Entry) → AllByRecursion (λ entry. P entry.seq) entries
    → AllByRecursion (λ entry. P entry.seq) (without_entries numbers entries)
each-without P [] entries all = all
each-without P (number ∷ numbers) entries all =
    each-without P numbers (without number entries) (All-kept (λ (entry : Entry). P entry.seq) (λ entry. not (entry.seq == number)) entries all)

changed-front : (change : Entry → Entry) (seq : ℕ) (front back : List Entry) → AllByRecursion (IsMissed seq) back
    → changed_at change seq (front ++ back) ≡ changed_at change seq front ++ back
changed-front change seq front back missed =
    map-append _ front back ∙ ap (λ more. changed_at change seq front ++ more) (changed-missed change seq back missed)

pub with_changed-front : (change : Record → Entry → Entry) (replaced : List Replacement) (front back : List Entry)
    → AllByRecursion (λ r. AllByRecursion (IsMissed r.work.seq) back) replaced
    → with_changed change replaced (front ++ back) ≡ with_changed change replaced front ++ back
with_changed-front change [] front back missed = refl
with_changed-front change (r ∷ later) front back missed =
    ap (with_changed change later) (changed-front (change r.work) r.work.seq front back missed.0)
    ∙ with_changed-front change later (changed_at (change r.work) r.work.seq front) back missed.1

pub untagged-front : (works : List Record) (replaced : List Replacement) (front back : List Entry)
    → AllByRecursion (λ r. AllByRecursion (IsMissed r.work.seq) back) replaced
    → with_untagged works replaced (front ++ back) ≡ with_untagged works replaced front ++ back
untagged-front works [] front back missed = refl
untagged-front works (r ∷ later) front back missed =
    ap (with_untagged works later) (one (slice_get works r.index))
    ∙ untagged-front works later (untagged_by (slice_get works r.index) r.work.seq front) back missed.1 where
      one : (found : Option Record) → untagged_by found r.work.seq (front ++ back) ≡ untagged_by found r.work.seq front ++ back
      one None = refl
      one (Some old) = changed-front (keeping_tags old.request.tags) r.work.seq front back missed.0

kept-all : (number : ℕ) (entries : List Entry) → AllByRecursion (IsMissed number) entries → without number entries ≡ entries
kept-all number entries missed = filter-each (λ (entry : Entry). not (entry.seq == number)) entries (All-weaker entries (λ entry miss. ap not miss) missed)

pub without-front : (numbers : List ℕ) (front back : List Entry) → AllByRecursion (λ number. AllByRecursion (IsMissed number) back) numbers
    → without_entries numbers (front ++ back) ≡ without_entries numbers front ++ back
without-front [] front back missed = refl
without-front (number ∷ numbers) front back missed =
    ap (without_entries numbers)
    (filter-append (λ (entry : Entry). not (entry.seq == number)) front back ∙ ap (λ more. without number front ++ more) (kept-all number back missed.0))
    ∙ without-front numbers (without number front) back missed.1

pub without-back : (numbers : List ℕ) (front back : List Entry) → AllByRecursion (λ number. AllByRecursion (IsMissed number) front) numbers
    → without_entries numbers (front ++ back) ≡ front ++ without_entries numbers back
without-back [] front back missed = refl
without-back (number ∷ numbers) front back missed =
    ap (without_entries numbers)
    (filter-append (λ (entry : Entry). not (entry.seq == number)) front back ∙ ap (λ (more : List Entry). more ++ without number back) (kept-all number front missed.0))
    ∙ without-back numbers front (without number back) missed.1

-- ---- new records

abbrev pub whole_entry : Record → Entry
whole_entry work = record { seq = work.seq; id = Some work.request.id; name = work.name; tags = work.request.tags }

pub whole-entries : (placed : List Record) → AreEntriesOf placed (map whole_entry placed)
whole-entries [] = tt
whole-entries (work ∷ placed) = (record { seq = refl; id = refl; name = refl; tags = λ tag. refl }, whole-entries placed)

pub new-each : (P : ℕ → Type 0) (placed : List Record) → AllByRecursion (λ work. P work.seq) placed → AllByRecursion (λ entry. P entry.seq) (map new_entry placed)
new-each P [] all = tt
new-each P (work ∷ placed) all = (all.0, new-each P placed all.1)

-- entries of other numbers and ids than new records
pub record IsBeside (front : List Entry) (work : Record) : Type 0 where
  pub below : AllByRecursion (λ entry. entry.seq < work.seq) front
  pub other : AllByRecursion (λ entry. is_id work.request.id entry.id ≡ false) front

-- new records one behind the other, of different ids
pub record IsNewBefore (one later : Record) : Type 0 where
  pub number : one.seq < later.seq
  pub id : bytes_eq one.request.id later.request.id ≡ false

identified-first : (front : List Entry) (work : Record) (placed : List Record) → IsBeside front work → AllByRecursion (IsNewBefore work) placed
    → changed_at (identified work.request.id) work.seq (front ++ new_entry work ∷ map new_entry placed) ≡ (front ++ whole_entry work ∷ []) ++ map new_entry placed
identified-first front work placed beside above =
    let change = identified work.request.id in
    let behind = changed-missed change work.seq (map new_entry placed)
    (missed-above work.seq (map new_entry placed) (new-each (λ n. work.seq < n) placed (All-weaker placed (λ later is. is.number) above))) in
    map-append _ front (new_entry work ∷ map new_entry placed)
    ∙ ap (λ (more : List Entry). more ++ changed_at change work.seq (new_entry work ∷ map new_entry placed))
    (changed-missed change work.seq front (missed-below work.seq front beside.below))
    ∙ (rw (eq-eqb work.seq work.seq refl) (ap (λ (more : List Entry). front ++ whole_entry work ∷ more) behind))
    ∙ sym (append_assoc front (whole_entry work ∷ []) (map new_entry placed))

-- one more in front
beside-more : (front : List Entry) (work : Record) (placed : List Record) → AllByRecursion (IsBeside front) placed → AllByRecursion (IsNewBefore work) placed
    → AllByRecursion (IsBeside (front ++ whole_entry work ∷ [])) placed
beside-more front work placed beside above =
    All-with2 placed (λ later is new. record {
      below = All-push (λ (entry : Entry). entry.seq < later.seq) front (whole_entry work) is.below new.number;
      other = All-push (λ (entry : Entry). is_id later.request.id entry.id ≡ false) front (whole_entry work) is.other new.id;
    }) beside above

pub identified-all : (front : List Entry) (placed : List Record) → AllByRecursion (IsBeside front) placed → AllLater IsNewBefore placed
    → with_identified placed (front ++ map new_entry placed) ≡ front ++ map whole_entry placed
identified-all front [] beside above = refl
identified-all front (work ∷ placed) beside above =
    ap (with_identified placed) (identified-first front work placed beside.0 above.0)
    ∙ identified-all (front ++ whole_entry work ∷ []) placed (beside-more front work placed beside.1 above.0) above.1
    ∙ append_assoc front (whole_entry work ∷ []) (map whole_entry placed)

new-unnamed : (id : List ℕ) (placed : List Record) → AllByRecursion (λ entry. is_id id entry.id ≡ false) (map new_entry placed)
new-unnamed id [] = tt
new-unnamed id (work ∷ placed) = (refl, new-unnamed id placed)

pub all-identifiable : (front : List Entry) (placed : List Record) → AllByRecursion (IsBeside front) placed → AllLater IsNewBefore placed
    → AreIdentifiable placed (front ++ map new_entry placed)
all-identifiable front [] beside above = tt
all-identifiable front (work ∷ placed) beside above =
    let entries = front ++ new_entry work ∷ map new_entry placed in
    let rest = all-identifiable (front ++ whole_entry work ∷ []) placed (beside-more front work placed beside.1 above.0) above.1 in
    let here : has_unidentified (new_entry work ∷ map new_entry placed) work.seq ≡ true = rw (eq-eqb work.seq work.seq refl) refl in
    let there : has_unidentified entries work.seq ≡ true =
    list_any-append (λ (entry : Entry). entry.seq == work.seq && is_none entry.id) front (new_entry work ∷ map new_entry placed) ∙ or_right _ _ here in
    let none = find-fails (λ (entry : Entry). is_id work.request.id entry.id) entries
    (All-append _ front (new_entry work ∷ map new_entry placed) beside.0.other (new-unnamed work.request.id (work ∷ placed))) in (
      there,
      ap (option_map (λ (entry : Entry). entry.seq)) none,
      subst (AreIdentifiable placed) (sym (identified-first front work placed beside.0 above.0)) rest,
    )

gone-first : (number : ℕ) (entry : Entry) (entries : List Entry) → (entry.seq == number) ≡ true → without number (entry ∷ entries) ≡ without number entries
gone-first number entry entries is = rw is refl

-- a prepared record is taken out again
pub dropped : (placed : List Record) (count : ℕ) → AllLater (λ work later. work.seq < later.seq) placed
    → without_entries (seqs_of placed) (map new_entry (take count placed)) ≡ []
dropped [] zero above = refl
dropped [] (suc count) above = refl
dropped (work ∷ placed) zero above = none-left (seqs_of (work ∷ placed)) where
  none-left : (numbers : List ℕ) → without_entries numbers [] ≡ []
  none-left [] = refl
  none-left (number ∷ numbers) = none-left numbers
dropped (work ∷ placed) (suc count) above =
    let behind = new-each (λ n. work.seq < n) (take count placed) (All-take (λ (later : Record). work.seq < later.seq) placed count above.0) in
    let rest : without work.seq (map new_entry (take count placed)) ≡ map new_entry (take count placed) =
    kept-all work.seq (map new_entry (take count placed)) (missed-above work.seq (map new_entry (take count placed)) behind) in
    ap (without_entries (seqs_of placed)) (gone-first work.seq (new_entry work) (map new_entry (take count placed)) (eq-eqb work.seq work.seq refl) ∙ rest)
    ∙ dropped placed count above.1
