-- What has begun to come of a change is taken out again, and the entries are those of the records.
use Rattle.std.proofs.Common.{◌≡◌, ℕ, zero, suc, ◌<◌, ◌==◌, true, false, List, [], ◌∷◌, slice_get, take, Option, None, Some, refl, sym, ◌∙◌, ap, subst, arith, inl, inr}
use Rattle.std.specs.Prelude.{IsSomeAnd}
use Rattle.std.specs.List.{AllByRecursion}
use Rattle.std.proofs.lemmas.Bool.{cases_Bool, eq-eqb, eqb-true, false≢true, ne_eqb}
use Rattle.std.proofs.lemmas.Option.{none-some, same_Some}
use Rattle.wm_collections.proofs.Lists.{All-weaker}
use Rattle.wm_index.specs.Entries.{changed_at, has_tag, keeping_tags, Entry}
use Rattle.wm_machine.proofs.Runnings.{WorksAscend}
use Rattle.wm_machine.specs.declared.record.Record.{Record}
use Rattle.wm_steps.proofs.EntryKept.{All-take}
use Rattle.wm_steps.proofs.EntryTags.{tagged-more, untagged-tags}
use Rattle.wm_steps.specs.Entries.{tagging, untagged_by, with_changed, with_untagged, AreEntriesOf}
use Rattle.wm_changes.specs.Replacements.{MayReplace}
use Rattle.wm_changes.specs.StepChanges.{KeepsPlace}
use Rattle.wm_changes.specs.declared.change.Replacement.{Replacement}

abbrev IsOther : ℕ → Replacement → Type 0
IsOther seq r = (r.work.seq == seq) ≡ false

-- an entry has what its record has, and may have more tags, but for a record that no change is left of
record IsBegunOf (left : List Replacement) (work : Record) (entry : Entry) : Type 0 where
  seq : entry.seq ≡ work.seq
  id : entry.id ≡ Some work.request.id
  name : entry.name ≡ work.name
  more : (tag : List ℕ) → has_tag work.request.tags tag ≡ true → has_tag entry.tags tag ≡ true
  same : AllByRecursion (IsOther work.seq) left → (tag : List ℕ) → has_tag entry.tags tag ≡ has_tag work.request.tags tag

abbrev AreBegunOf : List Replacement → List Record → List Entry → Type 0
AreBegunOf left [] [] = Unit {0}
AreBegunOf left [] (entry ∷ entries) = ⊥
AreBegunOf left (work ∷ works) [] = ⊥
AreBegunOf left (work ∷ works) (entry ∷ entries) = IsBegunOf left work entry × AreBegunOf left works entries

begun-from : (left : List Replacement) (works : List Record) (entries : List Entry) → AreEntriesOf works entries → AreBegunOf left works entries
begun-from left [] [] are = tt
begun-from left [] (entry ∷ entries) are = absurd are
begun-from left (work ∷ works) [] are = absurd are
begun-from left (work ∷ works) (entry ∷ entries) are = (
  record {
    seq = are.0.seq;
    id = are.0.id;
    name = are.0.name;
    more = λ tag has. are.0.tags tag ∙ has;
    same = λ others tag. are.0.tags tag;
  },
  begun-from left works entries are.1,
)

begun-done : (works : List Record) (entries : List Entry) → AreBegunOf [] works entries → AreEntriesOf works entries
begun-done [] [] are = tt
begun-done [] (entry ∷ entries) are = absurd are
begun-done (work ∷ works) [] are = absurd are
begun-done (work ∷ works) (entry ∷ entries) are =
    (record { seq = are.0.seq; id = are.0.id; name = are.0.name; tags = are.0.same tt }, begun-done works entries are.1)

-- ---- tags that come

-- the tags of a record of which a change is left
tagged-one : (left : List Replacement) (new : Record) (works : List Record) (entries : List Entry)
    → ((seq : ℕ) → AllByRecursion (IsOther seq) left → (new.seq == seq) ≡ false) → AreBegunOf left works entries
    → AreBegunOf left works (changed_at (tagging new) new.seq entries)
tagged-one left new [] [] among are = tt
tagged-one left new [] (entry ∷ entries) among are = absurd are
tagged-one left new (work ∷ works) [] among are = absurd are
tagged-one left new (work ∷ works) (entry ∷ entries) among are =
    let rest = tagged-one left new works entries among are.1 in
    elim (cases_Bool (entry.seq == new.seq)) as (λ _. AreBegunOf left (work ∷ works) (changed_at (tagging new) new.seq (entry ∷ entries))) [
      | inl is ↦
          rw is (
            record {
              seq = are.0.seq;
              id = are.0.id;
              name = are.0.name;
              more = λ tag has. tagged-more entry.tags new.request.tags tag (are.0.more tag has);
              same = λ others. absurd (false≢true
                  (sym (among work.seq others) ∙ eq-eqb new.seq work.seq (sym (eqb-true entry.seq new.seq is) ∙ are.0.seq)));
            },
            rest,
          )
      | inr isnt ↦ rw isnt (are.0, rest)
    ]

tagged-some : (left some : List Replacement) (works : List Record) (entries : List Entry)
    → ((seq : ℕ) → AllByRecursion (IsOther seq) left → AllByRecursion (IsOther seq) some) → AreBegunOf left works entries
    → AreBegunOf left works (with_changed tagging some entries)
tagged-some left [] works entries among are = are
tagged-some left (r ∷ some) works entries among are =
    tagged-some left some works (changed_at (tagging r.work) r.work.seq entries) (λ seq others. (among seq others).1)
    (tagged-one left r.work works entries (λ seq others. (among seq others).0) are)

-- ---- tags that are left out again

begun-weaker : (r : Replacement) (left : List Replacement) (works : List Record) (entries : List Entry) → AllByRecursion (λ work. IsOther work.seq r) works
    → AreBegunOf (r ∷ left) works entries → AreBegunOf left works entries
begun-weaker r left [] [] other are = tt
begun-weaker r left [] (entry ∷ entries) other are = absurd are
begun-weaker r left (work ∷ works) [] other are = absurd are
begun-weaker r left (work ∷ works) (entry ∷ entries) other are = (
  record { seq = are.0.seq; id = are.0.id; name = are.0.name; more = are.0.more; same = λ others. are.0.same (other.0, others) },
  begun-weaker r left works entries other.1 are.1,
)

missed-works : (seq : ℕ) (left : List Replacement) (works : List Record) (entries : List Entry) → AllByRecursion (λ work. seq < work.seq) works
    → AreBegunOf left works entries → (change : Entry → Entry) → changed_at change seq entries ≡ entries
missed-works seq left [] [] above are change = refl
missed-works seq left [] (entry ∷ entries) above are change = absurd are
missed-works seq left (work ∷ works) [] above are change = absurd are
missed-works seq left (work ∷ works) (entry ∷ entries) above are change =
    let is = are.0.seq in
    let miss : (entry.seq == seq) ≡ false = ne_eqb entry.seq seq (λ e. absurd (omega (arith, above.0, is, e))) in
    rw miss (ap (λ rest. entry ∷ rest) (missed-works seq left works entries above.1 are.1 change))

-- the entry of the record that was to change has its tags again
untagged-set : (r : Replacement) (left : List Replacement) (works : List Record) (entries : List Entry) (i : ℕ) (old : Record)
    → slice_get works i ≡ Some old → r.work.seq ≡ old.seq → WorksAscend works → AreBegunOf (r ∷ left) works entries
    → AreBegunOf left works (changed_at (keeping_tags old.request.tags) r.work.seq entries)
untagged-set r left [] entries i old at number ascend are = absurd (none-some old at)
untagged-set r left (work ∷ works) [] i old at number ascend are = absurd are
untagged-set r left (work ∷ works) (entry ∷ entries) zero old at number ascend are =
    let itself : work ≡ old = same_Some work old at in
    let seq : r.work.seq ≡ work.seq = number ∙ ap (λ (w : Record). w.seq) (sym itself) in
    let here : (entry.seq == r.work.seq) ≡ true = eq-eqb entry.seq r.work.seq (are.0.seq ∙ sym seq) in
    let tags : (tag : List ℕ) → has_tag (keeping_tags old.request.tags entry).tags tag ≡ has_tag work.request.tags tag =
    λ tag. subst (λ (w : Record). has_tag (keeping_tags w.request.tags entry).tags tag ≡ has_tag work.request.tags tag) itself
    (untagged-tags entry.tags work.request.tags tag (are.0.more tag)) in
    let above : AllByRecursion (λ (w : Record). r.work.seq < w.seq) works = subst (λ n. AllByRecursion (λ (w : Record). n < w.seq) works) (sym seq) ascend.0 in
    let others = All-weaker works (λ w less. ne_eqb r.work.seq w.seq (λ e. absurd (omega (arith, less, e)))) above in
    let rest = begun-weaker r left works entries others are.1 in
    let still = missed-works r.work.seq left works entries above rest (keeping_tags old.request.tags) in
    rw here (
      record { seq = are.0.seq; id = are.0.id; name = are.0.name; more = λ tag has. tags tag ∙ has; same = λ others. tags },
      subst (AreBegunOf left works) (sym still) rest,
    )
untagged-set r left (work ∷ works) (entry ∷ entries) (suc i) old at number ascend are =
    let above = at-above work.seq works i old ascend.0 at in
    let is = are.0.seq in
    let miss : (entry.seq == r.work.seq) ≡ false = ne_eqb entry.seq r.work.seq (λ e. absurd (omega (arith, above, number, is, e))) in
    let other : IsOther work.seq r = ne_eqb r.work.seq work.seq (λ e. absurd (omega (arith, above, number, e))) in
    rw miss (
      record { seq = are.0.seq; id = are.0.id; name = are.0.name; more = are.0.more; same = λ others. are.0.same (other, others) },
      untagged-set r left works entries i old at number ascend.1 are.1,
    ) where
      at-above : (seq : ℕ) (works : List Record) (i : ℕ) (old : Record) → AllByRecursion (λ (w : Record). seq < w.seq) works → slice_get works i ≡ Some old → seq < old.seq
      at-above seq [] i old all at = absurd (none-some old at)
      at-above seq (w ∷ works) zero old all at = subst (λ (one : Record). seq < one.seq) (same_Some w old at) all.0
      at-above seq (w ∷ works) (suc i) old all at = at-above seq works i old all.1 at

place-number : (works : List Record) (r : Replacement) → KeepsPlace works r → (old : Record) → slice_get works r.index ≡ Some old → r.work.seq ≡ old.seq
place-number works r keeps old at = (subst (λ (found : Option Record). IsSomeAnd found (λ one. MayReplace one r.work)) at keeps).seq

untagged-all : (works : List Record) (left : List Replacement) (entries : List Entry) → AllByRecursion (KeepsPlace works) left → WorksAscend works
    → AreBegunOf left works entries → AreBegunOf [] works (with_untagged works left entries)
untagged-all works [] entries keep ascend are = are
untagged-all works (r ∷ left) entries keep ascend are =
    untagged-all works left (untagged_by (slice_get works r.index) r.work.seq entries) keep.1 ascend (one (slice_get works r.index) refl) where
      one : (found : Option Record) → slice_get works r.index ≡ found → AreBegunOf left works (untagged_by found r.work.seq entries)
      one None at = absurd (subst (λ (found : Option Record). IsSomeAnd found (λ old. MayReplace old r.work)) at keep.0)
      one (Some old) at = untagged-set r left works entries r.index old at (place-number works r keep.0 old at) ascend are

pub untagged-entries : (works : List Record) (replaced : List Replacement) (count : ℕ) (entries : List Entry) → AllByRecursion (KeepsPlace works) replaced
    → WorksAscend works → AreEntriesOf works entries
    → AreEntriesOf works (with_untagged works replaced (with_changed tagging (take count replaced) entries))
untagged-entries works replaced count entries keep ascend are =
    begun-done works (with_untagged works replaced (with_changed tagging (take count replaced) entries))
    (untagged-all works replaced (with_changed tagging (take count replaced) entries) keep ascend
    (tagged-some replaced (take count replaced) works entries (λ seq others. All-take (IsOther seq) replaced count others)
    (begun-from replaced works entries are)))
