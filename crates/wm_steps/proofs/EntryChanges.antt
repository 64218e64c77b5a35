-- A change as the index follows it: prepared and settled it gives the entries of the records after it, and undone those of the records before it.
use Rattle.std.proofs.Common.{◌≡◌, ℕ, ◌<◌, ◌==◌, false, List, [], ◌∷◌, ◌++◌, append_assoc, length, map, take, refl, sym, ◌∙◌, ap, subst, arith}
use Rattle.std.specs.List.{AllByRecursion, list_any}
use Rattle.std.specs.Str.{bytes_eq}
use Rattle.std.proofs.lemmas.Bool.{eq-eqb, false≢true, or_left}
use Rattle.std.proofs.lemmas.List.{append-nil, map-append, take_all}
use Rattle.std.proofs.lemmas.List.Folds.{list_any-append}
use Rattle.wm_collections.specs.Lists.{AllLater, NumbersAscend}
use Rattle.wm_collections.proofs.Lists.{All-append, All-map, All-weaker, All-with2, AllLater-back, AllLater-front, AllLater-map, AllLater-weaker, list_any_after, one_gives}
use Rattle.wm_index.specs.Entries.{has_seq, is_id, numbers_of, Entry}
use Rattle.wm_keeper.specs.Keeper.{AreOfDifferentNumbers}
use Rattle.wm_machine.proofs.Runnings.{WorksAscend}
use Rattle.wm_machine.specs.Valid.{IsBefore}
use Rattle.wm_machine.specs.declared.record.Record.{Record}
use Rattle.wm_steps.proofs.EntryKept.{all-identifiable, dropped, each-with_changed, each-without, identified-all, new-each, untagged-front, whole-entries, whole_entry, with_changed-front, without-back, without-front, All-take, IsBeside, IsNewBefore}
use Rattle.wm_steps.proofs.EntryLeft.{all-leaving, left-at, left-tagged, IsLeftAt}
use Rattle.wm_steps.proofs.EntryLists.{across, entries-append, entries-each, entries-numbers, has-with_changed, missed-above, missed-below, other-bytes, settling-keeps, IsMissed}
use Rattle.wm_steps.proofs.EntrySteps.{removed-entries, replaced-entries, told-entries}
use Rattle.wm_steps.proofs.EntryUndone.{untagged-entries}
use Rattle.wm_steps.proofs.ReplacedRecords.{keeps_number, All-seq}
use Rattle.wm_steps.proofs.StepNodes.{nodes-told, place-there, puts-apart, AreApart}
use Rattle.wm_steps.specs.Entries.{new_entry, prepared_entries, settling, tagging, with_changed, with_identified, with_untagged, without_entries, AreEntriesOf, AreIdentifiable, AreLeaving, HaveEntries, IsBegun, IsBegunIn, IsFollowable, IsLeaving, IsPrepared}
use Rattle.wm_changes.specs.Nodes.{is_there}
use Rattle.wm_changes.specs.StepChanges as steps
use Rattle.wm_changes.specs.StepChanges.{changed_works, put_replaced, put_work, remove_numbered, seqs_of, with_replaced, KeepsPlace}
use Rattle.wm_changes.specs.declared.change.Replacement.{Replacement}
use Rattle.wm_changes.specs.declared.change.StepChange.{StepChange}

-- the entries once a change is settled, from those that were prepared
abbrev pub settled_entries : StepChange → List Entry → List Entry
settled_entries change entries = with_identified change.placed (without_entries change.removed (with_changed settling change.replaced entries))

-- ---- which entries are there

has-there : (works : List Record) (entries : List Entry) (seq : ℕ) → AreEntriesOf works entries → has_seq entries seq ≡ is_there works seq
has-there works entries seq are =
    sym (list_any_after (λ n. n == seq) (λ (entry : Entry). entry.seq) entries) ∙ ap (list_any (λ n. n == seq)) (entries-numbers works entries are)
    ∙ list_any_after (λ n. n == seq) (λ (work : Record). work.seq) works

entries-other : (works : List Record) (entries : List Entry) (id : List ℕ) → AreEntriesOf works entries
    → AllByRecursion (λ work. bytes_eq work.request.id id ≡ false) works → AllByRecursion (λ entry. is_id id entry.id ≡ false) entries
entries-other [] [] id are differ = tt
entries-other [] (entry ∷ entries) id are differ = absurd are
entries-other (work ∷ works) [] id are differ = absurd are
entries-other (work ∷ works) (entry ∷ entries) id are differ = (ap (is_id id) are.0.id ∙ differ.0, entries-other works entries id are.1 differ.1)

-- ---- a change that can be followed

module _ (works : List Record) (change : StepChange) (follows : IsFollowable works change) where
  ascend : WorksAscend works
  ascend = AllLater-front _ works change.placed follows.ascending

  placed-ascend : AllLater (λ work later. work.seq < later.seq) change.placed
  placed-ascend = AllLater-back _ works change.placed follows.ascending

  behind : AllByRecursion (λ later. AllByRecursion (λ work. work.seq < later.seq) works) change.placed
  behind = across _ works change.placed follows.ascending

  apart : AreApart change.replaced
  apart =
      (puts-apart change.replaced (map remove_numbered change.removed ++ map put_work change.placed) (subst AreOfDifferentNumbers
      (append_assoc (map put_replaced change.replaced) (map remove_numbered change.removed) (map put_work change.placed)) follows.apart)).0

  -- a number of the records isn't that of a new one
  new-missed : (seq count : ℕ) → AllByRecursion (λ later. seq < later.seq) change.placed → AllByRecursion (IsMissed seq) (map new_entry (take count change.placed))
  new-missed seq count above =
      missed-above seq (map new_entry (take count change.placed))
      (new-each (λ n. seq < n) (take count change.placed) (All-take (λ (later : Record). seq < later.seq) change.placed count above))

  replaced-missed : (count : ℕ) → AllByRecursion (λ r. AllByRecursion (IsMissed r.work.seq) (map new_entry (take count change.placed))) change.replaced
  replaced-missed count =
      All-weaker change.replaced (λ r keeps. new-missed r.work.seq count (All-weaker change.placed (λ later all.
      All-seq (λ n. n < later.seq) works r.index r.work.seq all (keeps_number works r keeps)) behind)) follows.replaced

  removed-missed : (count : ℕ) → AllByRecursion (λ number. AllByRecursion (IsMissed number) (map new_entry (take count change.placed))) change.removed
  removed-missed count =
      All-weaker change.removed (λ number one. new-missed number count (All-weaker change.placed (λ later all.
      one_gives works (λ work less is. subst (λ n. n < later.seq) is less) all one) behind)) follows.removed

  -- what is replaced has an entry
  pub replaced-there : (entries : List Entry) → AreEntriesOf works entries → HaveEntries change.replaced entries
  replaced-there entries are =
      All-weaker change.replaced (λ r keeps. has-there works entries r.work.seq are ∙ place-there works r.index r.work keeps) follows.replaced

  -- those that leave the entries as they are
  left-before : (entries : List Entry) → AreEntriesOf works entries
      → AllByRecursion (λ r. IsLeaving works r → AllByRecursion (IsLeftAt r.work) entries) change.replaced
  left-before entries are = All-weaker change.replaced (λ r keeps leaving. left-at works entries r.index r.work are ascend keeps leaving) follows.replaced

  pub tagging-leaving : (entries : List Entry) → AreEntriesOf works entries → AreLeaving tagging works change.replaced entries
  tagging-leaving entries are =
      all-leaving tagging (λ work entry is. is.tagged) (λ work entry. refl) works change.replaced entries apart (left-before entries are)

  pub entries-ascend : (entries : List Entry) → AreEntriesOf works entries → NumbersAscend (numbers_of entries ++ seqs_of change.placed)
  entries-ascend entries are =
      subst NumbersAscend
      (map-append (λ (work : Record). work.seq) works change.placed ∙ ap (λ numbers. numbers ++ seqs_of change.placed) (sym (entries-numbers works entries are)))
      (AllLater-map (λ m n. m < n) (λ (work : Record). work.seq) (works ++ change.placed) (λ one later less. less) follows.ascending)

  -- ---- settled

  module _ (entries : List Entry) (are : AreEntriesOf works entries) where
    abbrev then : List Record
    then = steps.without change.removed (with_replaced change.replaced (with_replaced change.told works))

    abbrev settled : List Entry
    settled = with_changed settling change.replaced (with_changed tagging change.replaced entries)

    abbrev left : List Entry
    left = without_entries change.removed settled

    left-are : AreEntriesOf then left
    left-are =
        let told = nodes-told change.told works follows.told ascend in
        let places = All-weaker change.replaced (λ r keeps. told.places r.index r.work keeps) follows.replaced in
        removed-entries change.removed (with_replaced change.replaced (with_replaced change.told works)) settled
        (replaced-entries change.replaced (with_replaced change.told works) entries places apart told.ascend
        (told-entries change.told works entries follows.told are))

    beside : AllByRecursion (IsBeside left) change.placed
    beside =
        All-with2 change.placed (λ later below other. record {
          below = each-without (λ n. n < later.seq) change.removed settled (each-with_changed (λ n. n < later.seq) settling change.replaced
              (with_changed tagging change.replaced entries) settling-keeps (each-with_changed (λ n. n < later.seq) tagging change.replaced entries
              (λ work entry. refl) (entries-each (λ n. n < later.seq) works entries are below)));
          other = entries-other then left later.request.id left-are
              (All-weaker then (λ work is. other-bytes work.request.id later.request.id is.id) other);
        }) behind (across IsBefore then change.placed follows.different)

    new-before : AllLater IsNewBefore change.placed
    new-before =
        AllLater-weaker change.placed (λ one later is. record { number = is.number; id = other-bytes one.request.id later.request.id is.id })
        (AllLater-back IsBefore then change.placed follows.different)

    all-new : take (length change.placed) change.placed ≡ change.placed
    all-new = take_all (length change.placed) change.placed (omega arith)

    front-left : without_entries change.removed (with_changed settling change.replaced (prepared_entries change entries)) ≡ left ++ map new_entry change.placed
    front-left =
        let new = map new_entry change.placed in
        let missed = subst (λ placed. AllByRecursion (λ r. AllByRecursion (IsMissed r.work.seq) (map new_entry placed)) change.replaced) all-new
        (replaced-missed (length change.placed)) in
        let gone = subst (λ placed. AllByRecursion (λ number. AllByRecursion (IsMissed number) (map new_entry placed)) change.removed) all-new
        (removed-missed (length change.placed)) in
        ap (without_entries change.removed) (with_changed-front settling change.replaced (with_changed tagging change.replaced entries) new missed)
        ∙ without-front change.removed settled new gone

    pub left-identifiable : AreIdentifiable change.placed
        (without_entries change.removed (with_changed settling change.replaced (prepared_entries change entries)))
    left-identifiable = subst (AreIdentifiable change.placed) (sym front-left) (all-identifiable left change.placed beside new-before)

    pub settled-entries : AreEntriesOf (changed_works change works) (settled_entries change (prepared_entries change entries))
    settled-entries =
        subst (AreEntriesOf (changed_works change works))
        (sym (ap (with_identified change.placed) front-left ∙ identified-all left change.placed beside new-before))
        (entries-append then change.placed left (map whole_entry change.placed) left-are (whole-entries change.placed))

    pub settling-leaving : AreLeaving settling works change.replaced (prepared_entries change entries)
    settling-leaving =
        let new = map new_entry change.placed in
        let missed = subst (λ placed. AllByRecursion (λ r. AllByRecursion (IsMissed r.work.seq) (map new_entry placed)) change.replaced) all-new
        (replaced-missed (length change.placed)) in
        all-leaving settling (λ work entry is. is.settled) settling-keeps works change.replaced (prepared_entries change entries) apart
        (All-with2 change.replaced (λ r left miss leaving.
        All-append (IsLeftAt r.work) (with_changed tagging change.replaced entries) new (left leaving)
        (All-weaker new (λ entry off here. absurd (false≢true (sym off ∙ eq-eqb entry.seq r.work.seq here))) miss))
        (left-tagged works change.replaced entries apart (left-before entries are)) missed)

    pub prepared-there : HaveEntries change.replaced (prepared_entries change entries)
    prepared-there =
        All-weaker change.replaced (λ r has.
        list_any-append (λ (entry : Entry). entry.seq == r.work.seq) (with_changed tagging change.replaced entries) (map new_entry change.placed)
        ∙ or_left _ _ (has-with_changed tagging change.replaced entries r.work.seq (λ work entry. refl) ∙ has)) (replaced-there entries are)

  -- ---- undone

  module _ (entries before : List Entry) (are : AreEntriesOf works before) (begun : IsBegunIn before change entries) where
    pub begun-there : HaveEntries change.replaced entries
    begun-there =
        All-weaker change.replaced (λ r has. ap (λ (all : List Entry). has_seq all r.work.seq) begun.are
        ∙ list_any-append (λ (entry : Entry). entry.seq == r.work.seq) (with_changed tagging (take begun.tags change.replaced) before)
        (map new_entry (take begun.records change.placed))
        ∙ or_left _ _ (has-with_changed tagging (take begun.tags change.replaced) before r.work.seq (λ work entry. refl) ∙ has)) (replaced-there before are)

    abbrev tagged : List Entry
    tagged = with_changed tagging (take begun.tags change.replaced) before

    abbrev new : List Entry
    new = map new_entry (take begun.records change.placed)

    back : AreEntriesOf works (with_untagged works change.replaced tagged)
    back = untagged-entries works change.replaced begun.tags before follows.replaced ascend are

    back-missed : AllByRecursion (λ number. AllByRecursion (IsMissed number) (with_untagged works change.replaced tagged)) (seqs_of change.placed)
    back-missed =
        All-map (λ number. AllByRecursion (IsMissed number) (with_untagged works change.replaced tagged)) (λ (work : Record). work.seq) change.placed
        (λ later below. missed-below later.seq (with_untagged works change.replaced tagged)
        (entries-each (λ n. n < later.seq) works (with_untagged works change.replaced tagged) back below)) behind

    pub undone-entries : AreEntriesOf works (without_entries (seqs_of change.placed) (with_untagged works change.replaced entries))
    undone-entries =
        let left = with_untagged works change.replaced tagged in
        subst (AreEntriesOf works)
        (sym (ap (λ (all : List Entry). without_entries (seqs_of change.placed) (with_untagged works change.replaced all)) begun.are
        ∙ ap (without_entries (seqs_of change.placed)) (untagged-front works change.replaced tagged new (replaced-missed begun.records))
        ∙ without-back (seqs_of change.placed) left new back-missed
        ∙ ap (λ (more : List Entry). left ++ more) (dropped change.placed begun.records placed-ascend) ∙ append-nil left)) back

-- what is prepared is begun
pub prepared-begun : (works : List Record) (change : StepChange) (entries : List Entry) → IsPrepared works change entries → IsBegun works change entries
prepared-begun works change entries prepared = record {
  before = prepared.before;
  were = prepared.were;
  begun = record {
    tags = length change.replaced;
    records = length change.placed;
    are = prepared.are ∙ ap (λ (replaced : List Replacement). with_changed tagging replaced prepared.before ++ map new_entry change.placed)
        (sym (take_all (length change.replaced) change.replaced (omega arith)))
        ∙ ap (λ (placed : List Record). with_changed tagging (take (length change.replaced) change.replaced) prepared.before ++ map new_entry placed)
        (sym (take_all (length change.placed) change.placed (omega arith)));
  };
}
