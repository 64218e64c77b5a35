-- The step of new conditions: the runs that they don't allow are stopped, and their works wait.
use Rattle.std.proofs.Common.{◌≡◌, ◌&&◌, ℕ, ◌+◌, Bool, true, false, cond, List, [], ◌∷◌, ◌++◌, filter, length, map, rules, Option, Some, None, refl, sym, ◌∙◌, ap, inl, inr}
use Rattle.std.specs.List.{AllByRecursion, list_any}
use Rattle.std.specs.Prelude.{◌⊎◌, count_by}
use Rattle.std.proofs.lemmas.Bool.{cases_Bool, cond_both, false≢true}
use Rattle.std.proofs.lemmas.List.{length-map}
use Rattle.std.proofs.lemmas.List.Sums.{length-filter}
use Rattle.wm_collections.proofs.Lists.{All-any, All-stored, All-weaker, All-with2, any_passes, filter-same, none_pass, one_gives}
use Rattle.wm_collections.specs.Lists.{HasOne, is_among}
use Rattle.wm_settings.proofs.Executions.{rows-change}
use Rattle.wm_settings.specs.Builds.{ChangesRows, IsExecuted}
use Rattle.wm_commands.specs.PutBack.{put_back_by, put_back_where, stopped_under}
use Rattle.wm_conditions.specs.declared.conditions.Conditions.{Conditions}
use Rattle.wm_keeper.specs.declared.row.Row.{Row}
use Rattle.wm_machine.proofs.Settings.{put_back_in, put_back-running}
use Rattle.wm_machine.proofs.Stops.{stopped-among}
use Rattle.wm_machine.specs.First.{is_succeeded}
use Rattle.wm_machine.specs.Rows.{phase_code}
use Rattle.wm_machine.specs.Runs.{with_stopped}
use Rattle.wm_machine.specs.Settings.{is_put_back_by, is_stopped_by, put_back}
use Rattle.wm_machine.specs.Valid.{Valid}
use Rattle.wm_machine.specs.declared.command.Command.TheVariants as command
use Rattle.wm_machine.specs.declared.event.Event.{Event}
use Rattle.wm_machine.specs.declared.event.Event.TheVariants as event
use Rattle.wm_machine.specs.declared.record.Phase.TheVariants as phase
use Rattle.wm_machine.specs.declared.record.Record.{Record}
use Rattle.wm_machine.specs.declared.reply.Reply.TheVariants as reply
use Rattle.wm_machine.specs.declared.state.Run.{Run}
use Rattle.wm_machine.specs.declared.state.State.{State}
use Rattle.wm_steps.proofs.ManyRows.{setting_with-step, unsucceeding-freeing, KeepNodes}
use Rattle.wm_steps.proofs.Unsucceeding.{Unsucceeding}
use Rattle.wm_steps.proofs.Views.{reached-view}
use Rattle.wm_changes.specs.Readiness.{TouchesFreed}
use Rattle.wm_changes.specs.Replacements.{at_index, or_same, replacements, MayReplace}
use Rattle.wm_changes.specs.StepChanges.{changed_state, row_changes, setting_with, with_replaced}
use Rattle.wm_changes.specs.declared.change.Replacement.{Replacement}
use Rattle.wm_changes.specs.declared.change.RunChange.TheVariants.{Stop}
use Rattle.wm_changes.specs.declared.change.SettingChange.TheVariants as set
use Rattle.wm_changes.specs.declared.change.StepChange.{StepChange}
use Rattle.wm_commands.proofs.conditions.execute.Goals as goal

-- ---- the runs

and-again : (a b : Bool) → (a && (a && b)) ≡ (a && b)
and-again true b = refl
and-again false b = refl

-- the runs of these numbers are those that such conditions stop
stopped-under : (s : State) (conditions : Conditions) → Valid s
    → with_stopped (λ run. is_among (stopped_under conditions s.runs) run.run) s.runs ≡ with_stopped (is_stopped_by conditions) s.runs
stopped-under s conditions valid =
    let stops = is_stopped_by conditions in
    let same = filter-same stops (λ run. run.current && stops run) s.runs (All-any s.runs (λ run. sym (and-again run.current _))) in
    ap (λ (found : List Run). with_stopped (λ run. is_among (map (λ r. r.run) found) run.run) s.runs) same ∙ stopped-among stops s.runs valid.runs.apart

-- as many as are counted
count-stopped : (s : State) (conditions : Conditions) → length (stopped_under conditions s.runs) ≡ count_by (is_stopped_by conditions) s.runs
count-stopped s conditions =
    length-map (filter (is_stopped_by conditions) s.runs) (λ (run : Run). run.run) ∙ length-filter (is_stopped_by conditions) s.runs

-- ---- the records

where_or_same : (test : Bool) (new work : Record) → or_same work (cond test (Some new) None) ≡ cond test new work
where_or_same true new work = refl
where_or_same false new work = refl

-- what is put back keeps its node
put_back-nodes : (s : State) (conditions : Conditions) → Valid s → KeepNodes (put_back_where conditions s.runs) s.works
put_back-nodes s conditions valid =
    All-weaker s.works (λ work running. cond_both (is_put_back_by conditions s.runs work) (Some (put_back work)) None
    (λ (o : Option Record). MayReplace work (or_same work o))
    (λ e. record { seq = refl; id = refl; name = inl refl; prior = refl; succeeded = λ is. absurd (false≢true (sym (ap is_succeeded (running e)) ∙ is)) })
    (λ e. record { seq = refl; id = refl; name = inl refl; prior = refl; succeeded = λ is. is })) (put_back-running s conditions valid)

-- and doesn't succeed
put_back-freeing : (s : State) (conditions : Conditions) (change : StepChange) → Valid s
    → AllByRecursion (λ r. TouchesFreed s.works (changed_state change s).works change r.work) (put_back_by conditions s.runs s.works)
put_back-freeing s conditions change valid =
    unsucceeding-freeing (put_back_where conditions s.runs) s.works (changed_state change s).works change (put_back-nodes s conditions valid)
    (All-any s.works (λ work. cond_both (is_put_back_by conditions s.runs work) (Some (put_back work)) None
    (λ (o : Option Record). Unsucceeding work (or_same work o)) (λ e is. absurd (false≢true is)) (λ e is. is)))

-- where none is put back, none takes the place of another
none-replaced : (conditions : Conditions) (runs : List Run) (i : ℕ) (works : List Record)
    → AllByRecursion (λ work. is_put_back_by conditions runs work ≡ false) works → replacements (put_back_where conditions runs) i works ≡ []
none-replaced conditions runs i [] none = refl
none-replaced conditions runs i (work ∷ works) none =
    ap (λ b. at_index i (cond b (Some (put_back work)) None) (replacements (put_back_where conditions runs) (i + 1) works)) none.0
    ∙ none-replaced conditions runs (i + 1) works none.1

-- ---- the step

abbrev conditions_event : ℕ → Conditions → ℕ → Event
conditions_event line conditions count = event.Command line (command.Conditions conditions) (reply.Conditions count)

-- rows change, or there is none to change
rows-put_back : (s : State) (conditions : Conditions) (e : Event) → Valid s
    → ChangesRows s (command.Conditions conditions)
    ⊎ (row_changes (setting_with (set.Conditions conditions) (put_back_by conditions s.runs s.works) (Stop (stopped_under conditions s.runs)) e) ≡ [])
rows-put_back s conditions e valid =
    elim (cases_Bool (list_any (is_put_back_by conditions s.runs) s.works)) [
      | inl some ↦ inl (λ same.
          one_gives s.works (λ work both put. rows-change (put_back_in conditions s.runs) work s.works both.0 (λ row.
          let code : phase_code phase.Waiting ≡ phase_code phase.Running =
          ap (λ b. phase_code (cond b (put_back work) work).phase) (sym put) ∙ ap (λ (r : Row). r.phase) row ∙ ap phase_code (both.1 put) in absurd (cc)) same)
          (stored_running s conditions valid) (any_passes (is_put_back_by conditions s.runs) s.works some))
      | inr none ↦ inr (ap (λ (replaced : List Replacement). row_changes
          (setting_with (set.Conditions conditions) replaced (Stop (stopped_under conditions s.runs)) e))
          (none-replaced conditions s.runs 0 s.works (none_pass (is_put_back_by conditions s.runs) s.works none)))
    ]
  where
    stored_running : (s : State) (conditions : Conditions) → Valid s → AllByRecursion
        (λ work. HasOne (λ other. other ≡ work) s.works × (is_put_back_by conditions s.runs work ≡ true → work.phase ≡ phase.Running)) s.works
    stored_running s conditions valid =
        All-with2 s.works (λ work there running. (there, running)) (All-stored s.works) (put_back-running s conditions valid)

conditions-executed : (s : State) (line : ℕ) (conditions : Conditions) → Valid s → IsExecuted s line (command.Conditions conditions)
    (setting_with (set.Conditions conditions) (put_back_by conditions s.runs s.works) (Stop (stopped_under conditions s.runs))
    (conditions_event line conditions (length (stopped_under conditions s.runs))))
conditions-executed s line conditions valid =
    let stopped = stopped_under conditions s.runs in
    let e = conditions_event line conditions (length stopped) in
    let replaced = put_back_by conditions s.runs s.works in
    let t = record s { conditions = conditions; runs = with_stopped (is_stopped_by conditions) s.runs } in
    record {
      reply = reply.Conditions (length stopped);
      event = refl;
      step =
          setting_with-step (set.Conditions conditions) s t (put_back_where conditions s.runs) (put_back_in conditions s.runs) (Stop stopped) e valid
          (tt, ap reply.Conditions (count-stopped s conditions)) (put_back-nodes s conditions valid)
          (All-any s.works (λ work. where_or_same (is_put_back_by conditions s.runs work) (put_back work) work))
          (ap (λ (runs : List Run). record s {
            conditions = conditions;
            runs = runs;
            works = with_replaced replaced s.works ++ [];
            next = s.next + 0;
          }) (stopped-under s conditions valid)) refl (put_back-freeing s conditions (setting_with (set.Conditions conditions) replaced (Stop stopped) e) valid);
      rows = rows-put_back s conditions e valid;
    }

pub returns : goal.returns
returns c =
    let s = c.args.view.now in
    let line = c.args.line in
    let conditions = c.args.conditions in
    let stopped = stopped_under conditions s.runs in
    let reached = reached-view _ s _ c.view.view_is c.view.invariant in
    let change : c.setting_with.result
    ≡ setting_with (set.Conditions conditions) (put_back_by conditions s.runs s.works) (Stop stopped) (conditions_event line conditions (length stopped)) =
    search rules in
    rw change (conditions-executed s line conditions reached)
