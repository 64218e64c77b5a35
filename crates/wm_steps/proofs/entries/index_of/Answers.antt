use Rattle.std.proofs.Common.{ℕ, List, map, take, Option, Some, sym, ap, subst, ◌∙◌}
use Rattle.std.proofs.lemmas.List.{take_all}
use Rattle.wm_index.specs.Entries.{by_id, has_seq, with_entry, Entry}
use Rattle.wm_steps.proofs.EntryKept.{whole-entries, whole_entry}
use Rattle.wm_steps.proofs.EntryLists.{absent-below, with_entry-last}
use Rattle.wm_steps.proofs.IndexedEntries.{beside-before, unfound, whole-more}
use Rattle.wm_steps.specs.Entries.{AreEntriesOf}
use Rattle.wm_steps.proofs.entries.index_of.Goals as goal

pub insert-requires-clause-new_seq : goal.insert-requires-clause-new_seq
insert-requires-clause-new_seq c =
    let work = c.work-item.result in
    let works = c.args.works.now in
    let i = c.loop-work.work-index in
    ap (λ (entries : List Entry). has_seq entries work.seq) c.loop-work.invariant
    ∙ absent-below work.seq (map whole_entry (take i works)) (beside-before works i work c.loop-work-test.true c.work-item.is c.requires).below

pub insert-requires-clause-new_id : goal.insert-requires-clause-new_id
insert-requires-clause-new_id c =
    let work = c.work-item.result in
    let works = c.args.works.now in
    let i = c.loop-work.work-index in
    ap (by_id c.loop-work.index) c.id.ensures
    ∙ ap (λ (entries : List Entry). by_id entries work.request.id) c.loop-work.invariant
    ∙ unfound (map whole_entry (take i works)) work (beside-before works i work c.loop-work-test.true c.work-item.is c.requires)

pub loop-work-preserved : goal.loop-work-preserved
loop-work-preserved c =
    let work = c.work-item.result in
    let works = c.args.works.now in
    let i = c.loop-work.work-index in
    let entries = map whole_entry (take i works) in
    let made : List ℕ → Option (List ℕ) → List (List ℕ) → Entry = λ id name tags. record { seq = work.seq; id = Some id; name = name; tags = tags } in
    c.in_ok-insert.ensures.ok
    ∙ ap (λ name. with_entry (made c.id.result name c.as_slice.result.now) c.loop-work.index) c.name_of.ensures
    ∙ ap (λ id. with_entry (made id work.name c.as_slice.result.now) c.loop-work.index) c.id.ensures
    ∙ ap (λ tags. with_entry (made work.request.id work.name tags) c.loop-work.index) (c.as_slice.ensures ∙ c.tags.ensures.tags)
    ∙ ap (with_entry (whole_entry work)) c.loop-work.invariant
    ∙ with_entry-last (whole_entry work) entries (beside-before works i work c.loop-work-test.true c.work-item.is c.requires).below
    ∙ whole-more works i work c.loop-work-test.true c.work-item.is

pub returns : goal.returns
returns c =
    let works = c.args.works.now in
    subst (AreEntriesOf works) (sym (c.loop-work.invariant ∙ ap (map whole_entry) (take_all c.loop-work.work-index works c.loop-work-test.false)))
    (whole-entries works)
