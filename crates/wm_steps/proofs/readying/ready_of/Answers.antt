use Rattle.std.proofs.Common.{◌≡◌, ◌+◌, ◌&&◌, ◌||◌, eqb, List, take, sym, ◌∙◌, ap, subst}
use Rattle.std.specs.Option.{option_copied}
use Rattle.std.proofs.Math.Bool.{or-false}
use Rattle.std.specs.List.{list_any}
use Rattle.wm_graph.specs.Nodes.{HasNode, NodeFields}
use Rattle.wm_graph.specs.Marks.{unmet}
use Rattle.wm_machine.proofs.Runnings.{WorksAscend-in_order}
use Rattle.wm_machine.specs.First.{is_waiting}
use Rattle.wm_ready.specs.Entries.{has, Entry}
use Rattle.wm_steps.proofs.Moves.{numbered-stored}
use Rattle.wm_steps.proofs.Nodes.{node-stored}
use Rattle.wm_steps.proofs.Pointwise.{any-more, stored-item}
use Rattle.wm_steps.proofs.ReadyWorks.{free-is, not-free}
use Rattle.wm_steps.proofs.Unmets.{ready-unmet}
use Rattle.wm_steps.specs.Readied.{is_entry_of, is_waiting_as}
use Rattle.wm_changes.specs.Readiness.{is_ready_in}
use Rattle.wm_steps.proofs.readying.ready_of.Goals as goal
use Rattle.wm_steps.proofs.readying.ready_of.Goals.{in-Some+in_ok-put_waiting, in_default}

pub if_free-requires : goal.if_free-requires
if_free-requires c =
    let work = c.work-item.result in
    let works = c.args.works.now in
    subst (λ (nodes : List NodeFields). HasNode nodes work.seq) (sym c.requires.nodes)
    (node-stored work works (stored-item works c.loop-work.work-index work c.loop-work-test.true c.work-item.is))

pub loop-work-preserved : goal.loop-work-preserved
loop-work-preserved c =
    let work = c.work-item.result in
    let works = c.args.works.now in
    let names = c.args.classes.now in
    let nodes = c.args.graph.now in
    let i = c.loop-work.work-index in
    let stored = stored-item works i work c.loop-work-test.true c.work-item.is in
    let there = numbered-stored works work (WorksAscend-in_order works c.requires.in_order) stored in
    let fits : (is_waiting work.phase && eqb (unmet nodes work.seq) 0) ≡ is_ready_in works work =
    ap (λ (ns : List NodeFields). is_waiting work.phase && eqb (unmet ns work.seq) 0) c.requires.nodes ∙ ready-unmet works work c.requires.sound there in
    λ entry.
    elim c.match-if_free.branch as (λ _. has c.match-if_free.ready entry ≡ list_any (is_entry_of names works entry) (take (i + 1) works)) [
      | in-Some+in_ok-put_waiting w ↦
          ap (λ (entries : List Entry). has entries entry) w.ready-is ∙ w.in_ok-put_waiting.ensures.ok entry
          ∙ ap (λ b. b || is_waiting_as names entry w.in-Some.free.now) (c.loop-work.invariant entry)
          ∙ ap (λ b. list_any (is_entry_of names works entry) (take i works) || b)
          (free-is names entry nodes works work fits w.in-Some.free.now (sym (ap option_copied w.in-Some.is) ∙ c.if_free.ensures.free))
          ∙ sym (any-more (is_entry_of names works entry) works i work c.loop-work-test.true c.work-item.is)
      | in_default w ↦
          ap (λ (entries : List Entry). has entries entry) w.ready-is ∙ c.loop-work.invariant entry ∙ sym (or-false (list_any (is_entry_of names works entry) (take i works)))
          ∙ ap (λ b. list_any (is_entry_of names works entry) (take i works) || b)
          (sym (not-free names entry nodes works work fits (sym (ap option_copied w.in_default.is) ∙ c.if_free.ensures.free)))
          ∙ sym (any-more (is_entry_of names works entry) works i work c.loop-work-test.true c.work-item.is)
    ]
