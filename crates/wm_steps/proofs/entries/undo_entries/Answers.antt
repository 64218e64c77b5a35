use Rattle.std.proofs.Common.{List, sym, ap, subst, ◌∙◌}
use Rattle.wm_machine.specs.declared.record.Record.{Record}
use Rattle.wm_steps.proofs.EntryChanges.{begun-there, undone-entries}
use Rattle.wm_steps.specs.Entries.{with_untagged, without_entries, AreEntriesOf, HaveEntries}
use Rattle.wm_changes.specs.StepChanges.{seqs_of}
use Rattle.wm_changes.specs.declared.change.Replacement.{Replacement}
use Rattle.wm_steps.proofs.entries.undo_entries.Goals as goal

pub untag_each-requires : goal.untag_each-requires
untag_each-requires c =
    let begun = c.requires.begun in
    subst (λ (replaced : List Replacement). HaveEntries replaced c.args.index.now) (sym c.as_slice.ensures)
    (begun-there c.args.works.now c.args.change.now c.requires.follows c.args.index.now begun.before begun.were begun.begun)

pub returns : goal.returns
returns c =
    let begun = c.requires.begun in
    let works = c.args.works.now in
    let change = c.args.change.now in
    let index = c.args.index.now in
    let all = c.drop_placed.ensures ∙ ap (λ (placed : List Record). without_entries (seqs_of placed) c.untag_each.new.index) c.as_slice-2.ensures
    ∙ ap (without_entries (seqs_of change.placed)) (c.untag_each.ensures ∙ ap (λ (replaced : List Replacement). with_untagged works replaced index) c.as_slice.ensures) in
    subst (AreEntriesOf works) (sym all) (undone-entries works change c.requires.follows index begun.before begun.were begun.begun)
