use Rattle.std.proofs.Common.{◌≡◌, ℕ, true, ◌+◌, List, ◌∷◌, drop, slice_get, Option, None, Some, refl, sym, ap, subst, ◌∙◌}
use Rattle.std.proofs.lemmas.List.{drop_more}
use Rattle.wm_collections.proofs.Lists.{All-weaker}
use Rattle.wm_index.specs.Entries.{changed_at, has_seq, keeping_tags, Entry}
use Rattle.wm_machine.specs.declared.record.Record.{Record}
use Rattle.wm_steps.proofs.EntryLists.{has-numbers, numbers-changed}
use Rattle.wm_steps.specs.Entries.{untagged_by, with_untagged, HaveEntries}
use Rattle.wm_changes.specs.declared.change.Replacement.{Replacement}
use Rattle.wm_steps.proofs.entries.untag_each.Goals as goal

untagged-there : (found : Option Record) (seq number : ℕ) (entries : List Entry) → has_seq entries number ≡ true
    → has_seq (untagged_by found seq entries) number ≡ true
untagged-there None seq number entries has = has
untagged-there (Some work) seq number entries has =
    let change = keeping_tags work.request.tags in
    has-numbers (changed_at change seq entries) entries number (numbers-changed change seq (λ entry. refl) entries) ∙ has

-- the next of the records, and those after it
next-there : (replaced : List Replacement) (i : ℕ) (r : Replacement) (entries : List Entry) → drop i replaced ≡ r ∷ drop (i + 1) replaced
    → HaveEntries (drop i replaced) entries → HaveEntries (r ∷ drop (i + 1) replaced) entries
next-there replaced i r entries here there = subst (λ (rest : List Replacement). HaveEntries rest entries) here there

pub untag_entry-requires : goal.untag_entry-requires
untag_entry-requires c =
    let replaced = c.args.replaced.now in
    let i = c.loop-replacement.replacement-index in
    let r = c.replacement-item.result in
    let here : drop i replaced ≡ r ∷ drop (i + 1) replaced =
    drop_more replaced i r c.loop-replacement-test.true ∙ ap (λ (r : Replacement). r ∷ drop (i + 1) replaced) (sym c.replacement-item.is) in
    (next-there replaced i r c.loop-replacement.index here c.loop-replacement.invariant.there).0

pub loop-replacement-preserved : goal.loop-replacement-preserved
loop-replacement-preserved c =
    let replaced = c.args.replaced.now in
    let works = c.args.works.now in
    let i = c.loop-replacement.replacement-index in
    let r = c.replacement-item.result in
    let entries = c.loop-replacement.index in
    let later = drop (i + 1) replaced in
    let here : drop i replaced ≡ r ∷ later =
    drop_more replaced i r c.loop-replacement-test.true ∙ ap (λ (r : Replacement). r ∷ later) (sym c.replacement-item.is) in
    let there = next-there replaced i r entries here c.loop-replacement.invariant.there in
    record {
      entries = ap (with_untagged works later) c.untag_entry.ensures
          ∙ ap (λ (rest : List Replacement). with_untagged works rest entries) (sym here) ∙ c.loop-replacement.invariant.entries;
      there = subst (HaveEntries later) (sym c.untag_entry.ensures)
          (All-weaker later (λ other has. untagged-there (slice_get works r.index) r.work.seq other.work.seq entries has) there.1);
    }
