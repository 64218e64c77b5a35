use Rattle.std.proofs.Common.{◌≡◌, ℕ, List, sym, ap, subst, ◌∙◌}
use Rattle.wm_index.specs.Entries.{Entry}
use Rattle.wm_machine.specs.declared.record.Record.{Record}
use Rattle.wm_steps.proofs.EntryChanges.{left-identifiable, prepared-there, settled-entries, settling-leaving}
use Rattle.wm_steps.specs.Entries.{prepared_entries, settling, with_changed, with_identified, without_entries, AreEntriesOf, AreIdentifiable, AreLeaving, HaveEntries}
use Rattle.wm_changes.specs.StepChanges.{changed_works}
use Rattle.wm_changes.specs.declared.change.Replacement.{Replacement}
use Rattle.wm_changes.specs.declared.change.StepChange.{StepChange}
use Rattle.wm_steps.proofs.entries.settle_entries.Goals as goal

pub settle_each-requires-clause-there : goal.settle_each-requires-clause-there
settle_each-requires-clause-there c =
    let prepared = c.requires.prepared in
    subst (λ (replaced : List Replacement). HaveEntries replaced c.args.index.now) (sym c.as_slice.ensures)
    (subst (HaveEntries c.args.change.now.replaced) (sym prepared.are)
    (prepared-there c.args.works.now c.args.change.now c.requires.follows prepared.before prepared.were))

pub settle_each-requires-clause-leaving : goal.settle_each-requires-clause-leaving
settle_each-requires-clause-leaving c =
    let prepared = c.requires.prepared in
    subst (λ (replaced : List Replacement). AreLeaving settling c.args.works.now replaced c.args.index.now) (sym c.as_slice.ensures)
    (subst (AreLeaving settling c.args.works.now c.args.change.now.replaced) (sym prepared.are)
    (settling-leaving c.args.works.now c.args.change.now c.requires.follows prepared.before prepared.were))

-- what is left of the entries before the ids come
left-is : (index settled left before : List Entry) (change : StepChange) (replaced : List Replacement) (removed : List ℕ)
    → index ≡ prepared_entries change before → replaced ≡ change.replaced → removed ≡ change.removed → settled ≡ with_changed settling replaced index
    → left ≡ without_entries removed settled
    → left ≡ without_entries change.removed (with_changed settling change.replaced (prepared_entries change before))
left-is index settled left before change replaced removed are same also settled_is left_is =
    left_is ∙ ap (λ numbers. without_entries numbers settled) also
    ∙ ap (without_entries change.removed) (settled_is ∙ ap (λ (rs : List Replacement). with_changed settling rs index) same ∙ ap (with_changed settling change.replaced) are)

pub identify_each-requires : goal.identify_each-requires
identify_each-requires c =
    let prepared = c.requires.prepared in
    let change = c.args.change.now in
    let left = left-is c.args.index.now c.settle_each.new.index c.drop_each.new.index prepared.before change c.as_slice.result.now c.as_slice-2.result.now
    prepared.are c.as_slice.ensures c.as_slice-2.ensures c.settle_each.ensures c.drop_each.ensures in
    subst (λ (placed : List Record). AreIdentifiable placed c.drop_each.new.index) (sym c.as_slice-3.ensures)
    (subst (AreIdentifiable change.placed) (sym left) (left-identifiable c.args.works.now change c.requires.follows prepared.before prepared.were))

pub returns : goal.returns
returns c =
    let prepared = c.requires.prepared in
    let change = c.args.change.now in
    let left = left-is c.args.index.now c.settle_each.new.index c.drop_each.new.index prepared.before change c.as_slice.result.now c.as_slice-2.result.now
    prepared.are c.as_slice.ensures c.as_slice-2.ensures c.settle_each.ensures c.drop_each.ensures in
    let all = c.identify_each.ensures ∙ ap (λ (placed : List Record). with_identified placed c.drop_each.new.index) c.as_slice-3.ensures
    ∙ ap (with_identified change.placed) left in
    subst (AreEntriesOf (changed_works change c.args.works.now)) (sym all) (settled-entries c.args.works.now change c.requires.follows prepared.before prepared.were)
