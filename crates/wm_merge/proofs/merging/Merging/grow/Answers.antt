-- An entry whose key is there.
use Rattle.std.proofs.Common.{sym, ap, ◌∙◌, subst}
use Rattle.wm_data.specs.Entries.{IsFoundAt}
use Rattle.wm_merge.specs.Growing.{grown_with, Grown}
use Rattle.wm_merge.proofs.Merges.{grown_with-set, AreOrdered-set}
use Rattle.wm_merge.proofs.merging.Merging.grow.Goals as goal

pub invariant_of-self-2 : goal.invariant_of-self-2
invariant_of-self-2 c =
    AreOrdered-set c.self.inside.entries.items c.args.index c.grow_entry.new.grown c.index_mut.result.now
    (c.grow_entry.ensures.key ∙ ap (λ e. e.key) c.index_mut.ensures.value) c.self.invariant

pub returns : goal.returns
returns c =
    let found = subst (λ (g : Grown). IsFoundAt c.args.entry.now.key g.entries c.args.index) (sym c.self.view_is) c.requires in
    grown_with-set c.args.how (record { entries = c.self.inside.entries.items; conflict = c.self.inside.conflict }) c.args.entry.now c.index.result.now
    c.index_mut.result.now c.grow_entry.new.grown c.args.index c.differs-conflicts.result c.note.new.conflict found c.index.ensures c.index_mut.ensures.value
    c.differs-conflicts.ensures c.in_ok-note.ensures c.grow_entry.ensures.key c.in_ok-grow_entry.ensures.value
    ∙ ap (λ g. grown_with c.args.how g c.args.entry.now) c.self.view_is

pub invariant_of-self-in_err-grow_entry : goal.invariant_of-self-in_err-grow_entry
invariant_of-self-in_err-grow_entry c =
    AreOrdered-set c.self.inside.entries.items c.args.index c.grow_entry.new.grown c.index_mut.result.now
    (c.grow_entry.ensures.key ∙ ap (λ e. e.key) c.index_mut.ensures.value) c.self.invariant
