use Rattle.std.proofs.Common.{◌≡◌, ◌+◌, List, take, refl, sym, ap, ◌∙◌}
use Rattle.wm_index.specs.Entries.{changed_at, has_seq, Entry}
use Rattle.wm_steps.specs.Entries.{tagging, with_changed}
use Rattle.wm_steps.proofs.EntryLeft.{leaving-more}
use Rattle.wm_steps.proofs.EntryLists.{at-there, has-with_changed, with_changed-more}
use Rattle.wm_steps.proofs.entries.tag_each.Goals as goal
use Rattle.wm_steps.proofs.entries.tag_each.Goals.{then-not-is_leaving+in_ok-tag_entry, else-not-is_leaving}

pub tag_entry-requires : goal.tag_entry-requires
tag_entry-requires c =
    let replaced = c.args.replaced.now in
    let i = c.loop-replacement.replacement-index in
    let r = c.replacement-item.result in
    ap (λ (entries : List Entry). has_seq entries r.work.seq) c.loop-replacement.invariant
    ∙ has-with_changed tagging (take i replaced) c.args.index.now r.work.seq (λ work entry. refl)
    ∙ at-there replaced i r c.args.index.now c.loop-replacement-test.true c.replacement-item.is c.requires.there

pub loop-replacement-preserved : goal.loop-replacement-preserved
loop-replacement-preserved c =
    let replaced = c.args.replaced.now in
    let i = c.loop-replacement.replacement-index in
    let r = c.replacement-item.result in
    elim c.if-not-is_leaving.branch as (λ _. c.if-not-is_leaving.index ≡ with_changed tagging (take (i + 1) replaced) c.args.index.now) [
      | then-not-is_leaving+in_ok-tag_entry w ↦
          w.index-is ∙ w.in_ok-tag_entry.ensures.ok ∙ ap (changed_at (tagging r.work) r.work.seq) c.loop-replacement.invariant
          ∙ sym (with_changed-more tagging replaced i r c.args.index.now c.loop-replacement-test.true c.replacement-item.is)
      | else-not-is_leaving w ↦
          w.index-is ∙ c.loop-replacement.invariant
          ∙ leaving-more tagging c.args.works.now replaced i r c.args.index.now c.loop-replacement-test.true c.replacement-item.is c.requires.leaving
          (c.is_leaving.ensures w.if-not-is_leaving.false)
    ]
