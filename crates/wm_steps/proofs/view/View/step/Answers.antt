use Rattle.std.proofs.Common.{◌≡◌, ℕ, ◌+◌, ◌<◌, ◌≤◌, ◌^◌, List, ◌++◌, arith, length, map, vec_len, rules, sym, ◌∙◌, ap, subst}
use Rattle.std.specs.List.{AllByRecursion}
use Rattle.wm_changes.specs.Nodes.{nodes_of}
use Rattle.wm_changes.specs.StepChanges.{changed_state, changed_works, next_run_by, HasNextRun}
use Rattle.wm_graph.specs.Nodes.{HasNode, NamesNodes, NodeFields}
use Rattle.wm_machine.specs.declared.record.Record.{Record}
use Rattle.wm_machine.specs.declared.state.Run.{Run}
use Rattle.wm_machine.specs.declared.state.State.{State}
use Rattle.wm_ready.specs.Entries as ready
use Rattle.wm_steps.proofs.BusyClasses.{step-named}
use Rattle.wm_steps.proofs.CoveredSteps.{covered-step}
use Rattle.wm_steps.proofs.Moves.{placed-nodes, placed-records, replaced-nodes, replaced-records, told-nodes, told-records}
use Rattle.wm_steps.proofs.Readyings.{settled-ready, undone-ready}
use Rattle.wm_steps.proofs.ReplacedRecords.{replaced_within, told_within}
use Rattle.wm_steps.proofs.StepNodes.{step-addable, step-nodes, step-removed, step-replaced, viewed-step}
use Rattle.wm_steps.proofs.StepParts.{can-follow, each-node, grown-nodes, has_next, ready-then, same-rooms, step-inside, turns_left}
use Rattle.wm_steps.specs.Covers.{mark_after, mark_of, takes_members}
use Rattle.wm_steps.specs.Entries.{AreEntriesOf}
use Rattle.wm_steps.specs.Following.{nodes_by, placed_node, AreAddable}
use Rattle.wm_steps.specs.Readied.{comes, is_left_by, is_left_undone, AreLeft, AreNamed, AreReady}
use Rattle.wm_steps.specs.Views.{IsViewed}
use Rattle.wm_steps.specs.declared.startable.Startable.{Startable}
use Rattle.wm_steps.proofs.view.View.step.Goals as goal

-- ---- before the rows are stored

pub store-requires-clause-told_records : goal.store-requires-clause-told_records
store-requires-clause-told_records g c =
    told-records c.self.inside.state c.args.change c.self.invariant.valid (step-inside c.self.inside.state _ c.args.change c.self.view_is c.requires.step)

pub store-requires-clause-replaced_records : goal.store-requires-clause-replaced_records
store-requires-clause-replaced_records g c =
    replaced-records c.self.inside.state c.args.change c.self.invariant.valid (step-inside c.self.inside.state _ c.args.change c.self.view_is c.requires.step)

pub store-requires-clause-placed_records : goal.store-requires-clause-placed_records
store-requires-clause-placed_records g c =
    placed-records c.self.inside.state c.args.change c.self.invariant.valid (step-inside c.self.inside.state _ c.args.change c.self.view_is c.requires.step)

pub store-requires-clause-addable : goal.store-requires-clause-addable
store-requires-clause-addable g c =
    let s = c.self.inside.state in
    let is = step-inside s _ c.args.change c.self.view_is c.requires.step in
    subst (λ (nodes : List NodeFields). AreAddable nodes (map placed_node c.args.change.placed)) (sym c.self.invariant.graph_is)
    (step-addable s c.args.change c.self.invariant.valid is.fits)

pub store-requires-clause-follows : goal.store-requires-clause-follows
store-requires-clause-follows g c =
    can-follow c.self.inside.state _ c.take-lists.result.works.items c.args.change c.self.view_is c.self.invariant.valid c.requires.step (search rules)

-- ---- once they are

pub change_nodes-requires-clause-there : goal.change_nodes-requires-clause-there
change_nodes-requires-clause-there g c =
    let s = c.self.inside.state in
    let change = c.args.change in
    let is = step-inside s _ change c.self.view_is c.requires.step in
    let all = grown-nodes s change c.self.inside.graph c.store.new.graph c.self.invariant.valid is.fits c.self.invariant.graph_is c.in-Ok.ensures.nodes in
    subst (λ (nodes : List NodeFields). AllByRecursion (λ r. HasNode nodes r.work.seq) change.replaced) (sym all)
    (step-replaced s change c.self.invariant.valid is.fits)

pub change_nodes-requires-clause-removed : goal.change_nodes-requires-clause-removed
change_nodes-requires-clause-removed g c =
    let s = c.self.inside.state in
    let change = c.args.change in
    let is = step-inside s _ change c.self.view_is c.requires.step in
    let all = grown-nodes s change c.self.inside.graph c.store.new.graph c.self.invariant.valid is.fits c.self.invariant.graph_is c.in-Ok.ensures.nodes in
    subst (λ (nodes : List NodeFields). NamesNodes nodes change.removed) (sym all) (step-removed s change c.self.invariant.valid is.fits)

pub settle_entries-requires-clause-follows : goal.settle_entries-requires-clause-follows
settle_entries-requires-clause-follows g c =
    can-follow c.self.inside.state _ c.as_slice.result.now c.args.change c.self.view_is c.self.invariant.valid c.requires.step (search rules)

pub settle-requires-clause-told : goal.settle-requires-clause-told
settle-requires-clause-told g c =
    told-records c.self.inside.state c.args.change c.self.invariant.valid (step-inside c.self.inside.state _ c.args.change c.self.view_is c.requires.step)

pub settle-requires-clause-replaced : goal.settle-requires-clause-replaced
settle-requires-clause-replaced g c =
    replaced-records c.self.inside.state c.args.change c.self.invariant.valid (step-inside c.self.inside.state _ c.args.change c.self.view_is c.requires.step)

pub settle-requires-clause-placed : goal.settle-requires-clause-placed
settle-requires-clause-placed g c =
    placed-records c.self.inside.state c.args.change c.self.invariant.valid (step-inside c.self.inside.state _ c.args.change c.self.view_is c.requires.step)

pub settle-requires-clause-told_nodes : goal.settle-requires-clause-told_nodes
settle-requires-clause-told_nodes g c =
    let s = c.self.inside.state in
    let change = c.args.change in
    let is = step-inside s _ change c.self.view_is c.requires.step in
    let all = grown-nodes s change c.self.inside.graph c.store.new.graph c.self.invariant.valid is.fits c.self.invariant.graph_is c.in-Ok.ensures.nodes in
    let nodes = c.change_nodes.ensures ∙ ap (nodes_by change) all ∙ step-nodes s change c.self.invariant.valid is.fits in
    subst (λ (nodes : List NodeFields). AllByRecursion (λ told. HasNode nodes told.work.seq) change.told) (sym nodes) (told-nodes s change c.self.invariant.valid is)

pub settle-requires-clause-replaced_nodes : goal.settle-requires-clause-replaced_nodes
settle-requires-clause-replaced_nodes g c =
    let s = c.self.inside.state in
    let change = c.args.change in
    let is = step-inside s _ change c.self.view_is c.requires.step in
    let all = grown-nodes s change c.self.inside.graph c.store.new.graph c.self.invariant.valid is.fits c.self.invariant.graph_is c.in-Ok.ensures.nodes in
    let nodes = c.change_nodes.ensures ∙ ap (nodes_by change) all ∙ step-nodes s change c.self.invariant.valid is.fits in
    subst (λ (nodes : List NodeFields). AllByRecursion (λ replaced. HasNode nodes replaced.work.seq) change.replaced) (sym nodes) (replaced-nodes s change c.self.invariant.valid is)

pub settle-requires-clause-placed_nodes : goal.settle-requires-clause-placed_nodes
settle-requires-clause-placed_nodes g c =
    let s = c.self.inside.state in
    let change = c.args.change in
    let is = step-inside s _ change c.self.view_is c.requires.step in
    let all = grown-nodes s change c.self.inside.graph c.store.new.graph c.self.invariant.valid is.fits c.self.invariant.graph_is c.in-Ok.ensures.nodes in
    let nodes = c.change_nodes.ensures ∙ ap (nodes_by change) all ∙ step-nodes s change c.self.invariant.valid is.fits in
    subst (λ (nodes : List NodeFields). AllByRecursion (λ work. HasNode nodes work.seq) change.placed) (sym nodes) (placed-nodes s change c.self.invariant.valid is)

pub change-event-requires-clause-told : goal.change-event-requires-clause-told
change-event-requires-clause-told g c =
    let s = c.self.inside.state in
    let is = step-inside s _ c.args.change c.self.view_is c.requires.step in
    let len : vec_len c.store.new.lists.works ≡ length s.works = search rules in
    subst (λ n. AllByRecursion (λ told. told.index < n) c.args.change.told) (sym len) (told_within s.works c.args.change.told is.fits.told)

pub change-event-requires-clause-replaced : goal.change-event-requires-clause-replaced
change-event-requires-clause-replaced g c =
    let s = c.self.inside.state in
    let is = step-inside s _ c.args.change c.self.view_is c.requires.step in
    let len : vec_len c.store.new.lists.works ≡ length s.works = search rules in
    subst (λ n. AllByRecursion (λ replaced. replaced.index < n) c.args.change.replaced) (sym len)
    (replaced_within s.works c.args.change.replaced is.fits.replaced)

pub change-event-requires-clause-turns : goal.change-event-requires-clause-turns
change-event-requires-clause-turns g c =
    let s = c.self.inside.state in
    let runs : c.store.new.lists.runs.items ≡ s.runs = search rules in
    subst (λ (runs : List Run). AllByRecursion (λ run. run.turn ≤ 999) runs) (sym runs) (turns_left s c.self.invariant.valid)

pub change-event-requires-clause-few : goal.change-event-requires-clause-few
change-event-requires-clause-few g c =
    let s = c.self.inside.state in
    let next : c.take-lists.new.state.next_run ≡ s.next_run = search rules in
    let few = subst (λ (t : State). next_run_by c.args.change.run t.next_run < 2 ^ 64) (sym c.self.view_is) c.requires.few in
    subst (HasNextRun c.args.change.run) (sym next) (has_next c.args.change.run s.next_run few)

pub follow-requires-in-Ok-clause-named : goal.follow-requires-in-Ok-clause-named
follow-requires-in-Ok-clause-named g c =
    let s = c.self.inside.state in
    let change = c.args.change in
    let made_is : c.put_back.new.state ≡ changed_state change s = search rules in
    let kept = c.self.inside.startable in
    let rooms = same-rooms s kept c.settle.new.self (ready-then kept c.store.new.startable c.settle.new.self c.store.ensures.rooms c.settle.ensures.rooms)
    c.self.invariant.startable_are.rooms in
    subst (λ (t : State). AreNamed c.settle.new.self.classes t.instances) (sym made_is) (step-named c.settle.new.self.classes s change rooms.named)

pub invariant_of-self : goal.invariant_of-self
invariant_of-self g c =
    let s = c.self.inside.state in
    let change = c.args.change in
    let is = step-inside s _ change c.self.view_is c.requires.step in
    let all = grown-nodes s change c.self.inside.graph c.store.new.graph c.self.invariant.valid is.fits c.self.invariant.graph_is c.in-Ok.ensures.nodes in
    let made_is : c.put_back.new.state ≡ changed_state change s = search rules in
    let works : c.as_slice.result.now ≡ s.works = search rules in
    let entries = subst (λ (works : List Record). AreEntriesOf (changed_works change works) c.settle_entries.new.index) works c.settle_entries.ensures in
    let nodes = c.change_nodes.ensures ∙ ap (nodes_by change) all ∙ step-nodes s change c.self.invariant.valid is.fits in
    let kept = c.self.inside.startable in
    let stored = c.store.new.startable in
    let names_are : stored.classes ≡ kept.classes = ap (λ (k : Startable). k.classes) c.store.ensures.rooms in
    let works_are : c.as_slice-in-Ok.result.now ≡ s.works = search rules in
    let left : AreLeft (is_left_by kept.classes c.change_nodes.new.graph s.works change) stored.ready c.settle.new.self.ready =
    subst (λ (works : List Record). AreLeft (is_left_by kept.classes c.change_nodes.new.graph works change) stored.ready c.settle.new.self.ready) works_are
    (subst (λ (names : List (List ℕ)). AreLeft (is_left_by names c.change_nodes.new.graph c.as_slice-in-Ok.result.now change) stored.ready c.settle.new.self.ready)
    names_are c.settle.ensures.left) in
    let settled = settled-ready kept.classes s change c.self.invariant.valid is c.change_nodes.new.graph nodes kept.ready stored.ready c.settle.new.self.ready
    c.self.invariant.startable_are.ready_are c.in-Ok.ensures.ready left in
    let same_names = c.follow-in-Ok.ensures.classes ∙ ap (λ (k : Startable). k.classes) c.settle.ensures.rooms ∙ names_are in
    let waiting = subst (λ (names : List (List ℕ)). AreReady names (changed_works change s.works) c.settle.new.self.ready) (sym same_names) settled in
    let also_works : c.as_slice-in-Ok-2.result.now ≡ s.works = search rules in
    let marks : (name : List ℕ) → mark_of c.follow.new.self name ≡ mark_after (takes_members s.works change) (mark_of c.self.inside.covers name) =
    λ name. c.follow.ensures name
    ∙ ap (λ (works : List Record). mark_after (takes_members works change) (mark_of c.self.inside.covers name)) also_works in
    viewed-step s c.put_back.new.state c.self.inside.graph c.change_nodes.new.graph c.self.inside.index c.settle_entries.new.index kept c.follow-in-Ok.new.self
    c.self.inside.covers c.follow.new.self change c.self.invariant is made_is nodes entries c.follow-in-Ok.ensures.rooms
    (subst (λ (found : List ready.Entry). AreReady c.follow-in-Ok.new.self.classes (changed_works change s.works) found) (sym c.follow-in-Ok.ensures.ready) waiting)
    (covered-step s change c.self.invariant.valid is.fits c.put_back.new.state c.self.inside.covers c.follow.new.self made_is marks c.self.invariant.covered)

-- ---- where they aren't

pub undo-requires-clause-nodes : goal.undo-requires-clause-nodes
undo-requires-clause-nodes g c =
    let s = c.self.inside.state in
    let works : c.as_slice-in-Err.result.now ≡ s.works = search rules in
    let graph : c.truncate.new.self ≡ c.self.inside.graph = search rules in
    each-node s.works c.as_slice-in-Err.result.now c.self.inside.graph c.truncate.new.self works graph c.self.invariant.graph_is

pub undo-requires-clause-told : goal.undo-requires-clause-told
undo-requires-clause-told g c =
    told-records c.self.inside.state c.args.change c.self.invariant.valid (step-inside c.self.inside.state _ c.args.change c.self.view_is c.requires.step)

pub undo-requires-clause-replaced : goal.undo-requires-clause-replaced
undo-requires-clause-replaced g c =
    replaced-records c.self.inside.state c.args.change c.self.invariant.valid (step-inside c.self.inside.state _ c.args.change c.self.view_is c.requires.step)

pub undo-requires-clause-placed : goal.undo-requires-clause-placed
undo-requires-clause-placed g c =
    placed-records c.self.inside.state c.args.change c.self.invariant.valid (step-inside c.self.inside.state _ c.args.change c.self.view_is c.requires.step)

pub invariant_of-self-in-Err : goal.invariant_of-self-in-Err
invariant_of-self-in-Err g c =
    let s = c.self.inside.state in
    let change = c.args.change in
    let is = step-inside s _ change c.self.view_is c.requires.step in
    let kept = c.self.inside.startable in
    let stored = c.store.new.startable in
    let state_is : c.put_back-in-Err.new.state ≡ s = search rules in
    let graph : c.truncate.new.self ≡ c.self.inside.graph = search rules in
    let nodes = graph ∙ c.self.invariant.graph_is in
    let listed : c.take-lists.result.works.items ≡ s.works = search rules in
    let entries = subst (λ (works : List Record). AreEntriesOf works c.store.new.index) listed c.in-Err.ensures.entries_err in
    let names_are : stored.classes ≡ kept.classes = ap (λ (k : Startable). k.classes) c.store.ensures.rooms in
    let works_are : c.as_slice-in-Err.result.now ≡ s.works = search rules in
    let left : AreLeft (is_left_undone kept.classes c.truncate.new.self s.works change) stored.ready c.undo.new.self.ready =
    subst (λ (works : List Record). AreLeft (is_left_undone kept.classes c.truncate.new.self works change) stored.ready c.undo.new.self.ready) works_are
    (subst (λ (names : List (List ℕ)). AreLeft (is_left_undone names c.truncate.new.self c.as_slice-in-Err.result.now change) stored.ready c.undo.new.self.ready)
    names_are c.undo.ensures.left) in
    let same_names = ap (λ (k : Startable). k.classes) c.undo.ensures.rooms ∙ names_are in
    let undone = undone-ready kept.classes s change c.self.invariant.valid is c.truncate.new.self nodes kept.ready stored.ready c.undo.new.self.ready
    c.self.invariant.startable_are.ready_are c.store.ensures.ready_some left in
    subst (λ (t : State). IsViewed t c.truncate.new.self c.store.new.index c.undo.new.self c.self.inside.covers) (sym state_is) (record {
      valid = c.self.invariant.valid;
      graph_is = nodes;
      entries_are = entries;
      startable_are = record {
        rooms = same-rooms s kept c.undo.new.self (ready-then kept stored c.undo.new.self c.store.ensures.rooms c.undo.ensures.rooms)
            c.self.invariant.startable_are.rooms;
        ready_are = subst (λ (names : List (List ℕ)). AreReady names s.works c.undo.new.self.ready) (sym same_names) undone;
      };
      covered = c.self.invariant.covered;
    })
