-- What the index does in a step makes the entries of the records after it.
use Rattle.std.proofs.Common.{◌≡◌, ◌≢◌, ◌⊎◌, ℕ, zero, suc, ◌<◌, ◌==◌, pos, true, false, List, [], ◌∷◌, map, set, slice_get, Option, None, Some, refl, sym, ◌∙◌, ap, subst, arith, inl, inr}
use Rattle.std.specs.List.{AllByRecursion}
use Rattle.std.proofs.lemmas.Bool.{cases_Bool, eq-eqb, ne_eqb}
use Rattle.std.proofs.lemmas.Int.{ints}
use Rattle.std.proofs.lemmas.Option.{none-some, same_Some}
use Rattle.wm_collections.proofs.Lists.{All-with2}
use Rattle.wm_index.specs.Entries.{changed_at, has_tag, keeping_tags, without, Entry}
use Rattle.wm_keeper.specs.declared.row.Row.{Row}
use Rattle.wm_machine.proofs.Runnings.{WorksAscend}
use Rattle.wm_machine.specs.Rows.{row_of}
use Rattle.wm_machine.specs.declared.record.Record.{Record}
use Rattle.wm_steps.proofs.EntryLists.{changed-commute, changed-missed, changed-twice, entries-each, missed-above, settling-keeps, KeepsSeq}
use Rattle.wm_steps.proofs.EntryTags.{settled-tags}
use Rattle.wm_steps.proofs.ReplacedRecords.{keeps_number, rows-set, All-seq, WorksAscend-set}
use Rattle.wm_steps.proofs.StepNodes.{place-set, AreApart}
use Rattle.wm_steps.specs.Entries.{settling, tagging, unnaming, with_changed, without_entries, AreEntriesOf, IsEntryOf}
use Rattle.wm_changes.specs.Replacements.{MayReplace}
use Rattle.wm_changes.specs.StepChanges.{other_works, with_replaced, KeepsPlace, KeepsRow}
use Rattle.wm_changes.specs.StepChanges as steps
use Rattle.wm_changes.specs.declared.change.Replacement.{Replacement}

-- ---- a record that takes the place of another

unnaming-id : (name : Option (List ℕ)) (entry : Entry) → (unnaming name entry).id ≡ entry.id
unnaming-id None entry = refl
unnaming-id (Some name) entry = refl

unnaming-tags : (name : Option (List ℕ)) (entry : Entry) → (unnaming name entry).tags ≡ entry.tags
unnaming-tags None entry = refl
unnaming-tags (Some name) entry = refl

unnaming-name : (name was : Option (List ℕ)) (entry : Entry) → entry.name ≡ was → (name ≡ was) ⊎ (name ≡ None) → (unnaming name entry).name ≡ name
unnaming-name None was entry is kept = refl
unnaming-name (Some name) was entry is (inl same) = is ∙ sym same
unnaming-name (Some name) was entry is (inr none) = absurd (none-some name (sym none))

-- an entry, settled by the record that takes the place of its own
settled-entry : (old new : Record) (entry : Entry) → IsEntryOf old entry → MayReplace old new → IsEntryOf new (settling new (tagging new entry))
settled-entry old new entry is keeps =
    let left = keeping_tags new.request.tags (tagging new entry) in
    record {
      seq = settling-keeps new (tagging new entry) ∙ is.seq ∙ sym keeps.seq;
      id = unnaming-id new.name left ∙ is.id ∙ ap (λ (id : List ℕ). Some id) (sym keeps.id);
      name = unnaming-name new.name old.name left is.name keeps.name;
      tags = λ tag. ap (λ tags. has_tag tags tag) (unnaming-tags new.name left) ∙ settled-tags entry.tags new.request.tags tag;
    }

settled-set : (works : List Record) (entries : List Entry) (i : ℕ) (new : Record) → AreEntriesOf works entries → WorksAscend works
    → KeepsPlace works (record { index = i; work = new })
    → AreEntriesOf (set works i new) (changed_at (λ entry. settling new (tagging new entry)) new.seq entries)
settled-set [] entries i new are ascend keeps = absurd keeps
settled-set (work ∷ works) [] i new are ascend keeps = absurd are
settled-set (work ∷ works) (entry ∷ entries) zero new are ascend keeps =
    let above : AllByRecursion (λ (w : Record). new.seq < w.seq) works = subst (λ n. AllByRecursion (λ (w : Record). n < w.seq) works) (sym keeps.seq) ascend.0 in
    let rest = changed-missed (λ entry. settling new (tagging new entry)) new.seq entries
    (missed-above new.seq entries (entries-each (λ n. new.seq < n) works entries are.1 above)) in
    let here : (entry.seq == new.seq) ≡ true = eq-eqb entry.seq new.seq (are.0.seq ∙ sym keeps.seq) in
    rw here (settled-entry work new entry are.0 keeps, subst (AreEntriesOf works) (sym rest) are.1)
settled-set (work ∷ works) (entry ∷ entries) (suc i) new are ascend keeps =
    let above : work.seq < new.seq =
    All-seq (λ n. work.seq < n) works i new.seq ascend.0 (keeps_number works (record { index = i; work = new }) keeps) in
    let first = are.0.seq in
    let other : (entry.seq == new.seq) ≡ false = ne_eqb entry.seq new.seq (λ e. absurd (omega (arith, above, first, e))) in
    rw other (are.0, settled-set works entries i new are.1 ascend.1 keeps)

-- one is settled before the tags of others come, or after
commuted : (change other : Record → Entry → Entry) (seq : ℕ) (work : Record) (later : List Replacement) (entries : List Entry)
    → ((w : Record) → KeepsSeq (change w)) → ((w : Record) → KeepsSeq (other w)) → AllByRecursion (λ r. seq ≢ r.work.seq) later
    → changed_at (change work) seq (with_changed other later entries) ≡ with_changed other later (changed_at (change work) seq entries)
commuted change other seq work [] entries keeps also apart = refl
commuted change other seq work (r ∷ later) entries keeps also apart =
    commuted change other seq work later (changed_at (other r.work) r.work.seq entries) keeps also apart.1
    ∙ ap (with_changed other later) (changed-commute (change work) (other r.work) seq r.work.seq (keeps work) (also r.work) apart.0 entries)

pub replaced-entries : (replaced : List Replacement) (works : List Record) (entries : List Entry) → AllByRecursion (KeepsPlace works) replaced
    → AreApart replaced → WorksAscend works → AreEntriesOf works entries
    → AreEntriesOf (with_replaced replaced works) (with_changed settling replaced (with_changed tagging replaced entries))
replaced-entries [] works entries keep apart ascend are = are
replaced-entries (r ∷ later) works entries keep apart ascend are =
    let then = set works r.index r.work in
    let places = All-with2 later (λ other one differs. place-set works r.index other.index r.work other.work keep.0 differs one) keep.1 apart.0 in
    let tagged = changed_at (tagging r.work) r.work.seq entries in
    let settled = changed_at (settling r.work) r.work.seq tagged in
    let one : AreEntriesOf then settled =
    subst (AreEntriesOf then) (sym (changed-twice (settling r.work) (tagging r.work) r.work.seq (λ entry. refl) entries))
    (settled-set works entries r.index r.work are ascend keep.0) in
    let rest = replaced-entries later then settled places apart.1 (WorksAscend-set works r.index r.work (keeps_number works r keep.0) ascend) one in
    subst (λ (now : List Entry). AreEntriesOf (with_replaced later then) (with_changed settling later now))
    (sym (commuted settling tagging r.work.seq r.work later tagged settling-keeps (λ w entry. refl) apart.0)) rest

-- ---- records that tell something

row-entry : (old new : Record) (entry : Entry) → row_of old ≡ row_of new → IsEntryOf old entry → IsEntryOf new entry
row-entry old new entry same is =
    let numbers : pos old.seq ≡ pos new.seq = ap (λ (r : Row). r.seq) same in
    let number : old.seq ≡ new.seq = omega (arith, ints) in
    record {
      seq = is.seq ∙ number;
      id = is.id ∙ ap (λ (r : Row). Some r.id) same;
      name = is.name ∙ ap (λ (r : Row). r.name) same;
      tags = λ tag. is.tags tag ∙ ap (λ (r : Row). has_tag r.tags tag) same;
    }

told-one : (works : List Record) (entries : List Entry) (i : ℕ) (new : Record) → slice_get (map row_of works) i ≡ Some (row_of new)
    → AreEntriesOf works entries → AreEntriesOf (set works i new) entries
told-one [] entries i new is are = are
told-one (work ∷ works) [] i new is are = absurd are
told-one (work ∷ works) (entry ∷ entries) zero new is are = (row-entry work new entry (same_Some (row_of work) (row_of new) is) are.0, are.1)
told-one (work ∷ works) (entry ∷ entries) (suc i) new is are = (are.0, told-one works entries i new is are.1)

pub told-entries : (told : List Replacement) (works : List Record) (entries : List Entry) → AllByRecursion (KeepsRow works) told → AreEntriesOf works entries
    → AreEntriesOf (with_replaced told works) entries
told-entries [] works entries keep are = are
told-entries (r ∷ later) works entries keep are =
    let still =
    subst (λ (rows : List Row). AllByRecursion (λ other. slice_get rows other.index ≡ Some (row_of other.work)) later)
    (sym (rows-set works r.index r.work keep.0)) keep.1 in
    told-entries later (set works r.index r.work) entries still (told-one works entries r.index r.work keep.0 are)

-- ---- records that are removed

without-one : (number : ℕ) (works : List Record) (entries : List Entry) → AreEntriesOf works entries
    → AreEntriesOf (other_works number works) (without number entries)
without-one number [] [] are = tt
without-one number [] (entry ∷ entries) are = absurd are
without-one number (work ∷ works) [] are = absurd are
without-one number (work ∷ works) (entry ∷ entries) are =
    let rest = without-one number works entries are.1 in
    elim (cases_Bool (work.seq == number)) as (λ _. AreEntriesOf (other_works number (work ∷ works)) (without number (entry ∷ entries))) [
      | inl is ↦ (let also : (entry.seq == number) ≡ true = ap (λ n. n == number) are.0.seq ∙ is in rw (is, also) rest)
      | inr isnt ↦ (let nor : (entry.seq == number) ≡ false = ap (λ n. n == number) are.0.seq ∙ isnt in rw (isnt, nor) (are.0, rest))
    ]

pub removed-entries : (numbers : List ℕ) (works : List Record) (entries : List Entry) → AreEntriesOf works entries
    → AreEntriesOf (steps.without numbers works) (without_entries numbers entries)
removed-entries [] works entries are = are
removed-entries (number ∷ numbers) works entries are =
    removed-entries numbers (other_works number works) (without number entries) (without-one number works entries are)
