use Rattle.std.proofs.Common.{ℕ, List, ◌++◌, map, take, Option, None, ap, ◌∙◌}
use Rattle.wm_index.specs.Entries.{has_seq, with_entry, Entry}
use Rattle.wm_steps.proofs.EntryLists.{absent-below, ahead, new-more, with_entry-last}
use Rattle.wm_steps.specs.Entries.{new_entry}
use Rattle.wm_steps.proofs.entries.add_each.Goals as goal

pub prepare-requires : goal.prepare-requires
prepare-requires c =
    let work = c.work-item.result in
    let entries = c.args.index.now ++ map new_entry (take c.loop-work.work-index c.args.placed.now) in
    ap (λ (entries : List Entry). has_seq entries work.seq) c.loop-work.invariant
    ∙ absent-below work.seq entries
    (ahead c.args.index.now c.args.placed.now c.loop-work.work-index work c.loop-work-test.true c.work-item.is c.requires)

pub loop-work-preserved : goal.loop-work-preserved
loop-work-preserved c =
    let work = c.work-item.result in
    let placed = c.args.placed.now in
    let i = c.loop-work.work-index in
    let entries = c.args.index.now ++ map new_entry (take i placed) in
    let made : Option (List ℕ) → List (List ℕ) → Entry = λ name tags. record { seq = work.seq; id = None; name = name; tags = tags } in
    c.in_ok-prepare.ensures.ok
    ∙ ap (λ name. with_entry (made name c.as_slice.result.now) c.loop-work.index) c.name_of.ensures
    ∙ ap (λ tags. with_entry (made work.name tags) c.loop-work.index) (c.as_slice.ensures ∙ c.tags.ensures.tags)
    ∙ ap (with_entry (new_entry work)) c.loop-work.invariant
    ∙ with_entry-last (new_entry work) entries (ahead c.args.index.now placed i work c.loop-work-test.true c.work-item.is c.requires)
    ∙ new-more c.args.index.now placed i work c.loop-work-test.true c.work-item.is
