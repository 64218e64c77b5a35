-- The step of a prune: the prunable records are removed.
use Rattle.std.proofs.Common.{◌≡◌, ◌≢◌, ℕ, Bool, not, List, [], ◌∷◌, filter, length, map, rules, refl, sym, ◌∙◌, ap, subst, arith, inl, inr}
use Rattle.std.specs.Prelude.{◌⊎◌, count_by}
use Rattle.std.proofs.lemmas.List.{length-map}
use Rattle.std.proofs.lemmas.List.Filters.{length-filter_both}
use Rattle.std.proofs.lemmas.List.Sums.{length-filter}
use Rattle.wm_collections.specs.Lists.{AllLater}
use Rattle.wm_commands.proofs.ClearingSteps.{clearing_alone-step, passing-stored, StopsAlone-none}
use Rattle.wm_commands.proofs.Clearings.{cleared-in_place, none-replaced, stays-passing}
use Rattle.wm_settings.specs.Builds.{ChangesRows, IsExecuted}
use Rattle.wm_commands.specs.Cleared.{pruning, with_cleared}
use Rattle.wm_machine.proofs.Stops.{with_stopped-none}
use Rattle.wm_machine.specs.Group.{numbers_in}
use Rattle.wm_machine.specs.Pruned.{prunable}
use Rattle.wm_machine.specs.Rows.{row_of}
use Rattle.wm_machine.specs.Valid.{IsBefore, Valid}
use Rattle.wm_machine.specs.declared.command.Command.TheVariants as command
use Rattle.wm_machine.specs.declared.event.Event.{Event}
use Rattle.wm_machine.specs.declared.record.Record.{Record}
use Rattle.wm_machine.specs.declared.state.Run.{Run}
use Rattle.wm_machine.specs.declared.event.Event.TheVariants as event
use Rattle.wm_machine.specs.declared.reply.Reply.TheVariants as reply
use Rattle.wm_machine.specs.declared.state.State.{State}
use Rattle.wm_steps.proofs.Views.{reached-view}
use Rattle.wm_changes.proofs.RemovedWorks.{without-kept}
use Rattle.wm_changes.specs.StepChanges.{placing, removing, row_changes, with_replaced, without, IsStepOf}
use Rattle.wm_changes.specs.declared.change.Replacement.{Replacement}
use Rattle.wm_changes.specs.declared.change.RunChange.TheVariants.{Unchanged}
use Rattle.wm_commands.proofs.prune.execute.Goals as goal

-- ---- the records that stay

-- those stay that don't pass the test by which others are removed
staying : (at : ℕ) (test : Record → Bool) (works : List Record) → AllLater IsBefore works
    → with_cleared (pruning at (numbers_in (filter test works))) works ≡ filter (λ work. not (test work)) works
staying at test works order =
    let removed = numbers_in (filter test works) in
    sym (cleared-in_place (pruning at removed) works)
    ∙ ap (λ (replaced : List Replacement). without removed (with_replaced replaced works)) (none-replaced at removed 0 works)
    ∙ without-kept removed works
    ∙ stays-passing test works order

-- ---- the rows

-- where one passes, fewer rows are left
fewer_rows : (test : Record → Bool) (works found : List Record) (first : Record) → filter test works ≡ first ∷ found
    → map row_of (filter (λ work. not (test work)) works) ≢ map row_of works
fewer_rows test works found first is same =
    let left = filter (λ work. not (test work)) works in
    let both = length-filter_both test (λ work. not (test work)) (λ work. refl) works in
    let passing : length (filter test works) ≡ length (first ∷ found) = ap length is in
    let lengths : length left ≡ length works = sym (length-map left row_of) ∙ ap length same ∙ length-map works row_of in
    absurd (omega (arith, both, passing, lengths))

-- rows are removed, or there is none to remove
rows-removed : (s : State) (force : Bool) (e : Event) (found : List Record) → filter (prunable s force) s.works ≡ found
    → ChangesRows s (command.Prune force) ⊎ (row_changes (removing (numbers_in found) e) ≡ [])
rows-removed s force e [] is = inr refl
rows-removed s force e (first ∷ found) is = inl (fewer_rows (prunable s force) s.works found first is)

-- ---- the step

-- as many are removed as pass
count-removed : (test : Record → Bool) (works : List Record) → length (numbers_in (filter test works)) ≡ count_by test works
count-removed test works = length-map (filter test works) (λ (work : Record). work.seq) ∙ length-filter test works

-- the numbers of the records that are removed
abbrev prunable_numbers : State → Bool → List ℕ
prunable_numbers s force = numbers_in (filter (prunable s force) s.works)

abbrev prune_event : ℕ → State → Bool → Event
prune_event line s force = event.Command line (command.Prune force) (reply.Pruned (length (prunable_numbers s force)))

pruning-executed : (s : State) (line : ℕ) (force : Bool) → Valid s → IsExecuted s line (command.Prune force)
    (removing (prunable_numbers s force) (prune_event line s force))
pruning-executed s line force valid =
    let test = prunable s force in
    let removed = prunable_numbers s force in
    let e = prune_event line s force in
    record {
      reply = reply.Pruned (length removed);
      event = refl;
      step =
          subst (λ (replaced : List Replacement). IsStepOf s (placing replaced removed [] Unchanged e)) (none-replaced s.now removed 0 s.works)
          (clearing_alone-step s (pruning s.now removed) Unchanged e valid valid.now (passing-stored test s.works valid.works.in_order)
          (StopsAlone-none s.now removed s)
          (tt, ap reply.Pruned (count-removed test s.works))
          (ap (λ (works : List Record). record s { works = works }) (sym (staying s.now test s.works valid.works.in_order))
          ∙ ap (λ (runs : List Run). record s { works = with_cleared (pruning s.now removed) s.works; runs = runs }) (sym (with_stopped-none s.runs))));
      rows = rows-removed s force e (filter test s.works) refl;
    }

pub returns : goal.returns
returns c =
    let s = c.args.view.now in
    let line = c.args.line in
    let force = c.args.force in
    let numbers = prunable_numbers s force in
    let reached = reached-view _ s _ c.view.view_is c.view.invariant in
    let change : c.removing.result ≡ removing numbers (prune_event line s force) = search rules in
    rw change (pruning-executed s line force reached)
