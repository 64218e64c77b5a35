-- The step of a cancel: works are closed with their unfinished descendants.
use Rattle.std.proofs.Common.{◌≡◌, ◌||◌, ℕ, ◌+◌, Bool, true, false, cond, List, [], ◌∷◌, filter, length, map, rules, Option, Some, None, refl, sym, ◌∙◌, ap, arith, inl, inr}
use Rattle.std.specs.List.{AllByRecursion, list_any}
use Rattle.std.specs.Prelude.{◌⊎◌, ◌≢◌, count_by, is_some}
use Rattle.std.proofs.lemmas.Bool.{and_parts, false≢true}
use Rattle.wm_commands.proofs.ClearingSteps.{clearing_alone-step, StopsAlone-stopped}
use Rattle.wm_commands.proofs.Clearings.{any_reached, cancelled-state, none-replaced, reached-none}
use Rattle.wm_settings.proofs.Executions.{Answers-outcome, rows-change}
use Rattle.wm_settings.specs.Builds.{IsExecuted}
use Rattle.wm_commands.specs.Cleared.{becomes_cancelled, cancelled_in, cancelling, cleared, cleared_by, cleared_state, is_run_among, replaced_by_clearing, stays, stopped_by}
use Rattle.wm_commands.specs.declared.clearing.Clearing.{Clearing}
use Rattle.wm_keeper.specs.declared.row.Row.{Row}
use Rattle.wm_machine.specs.declared.command.Target.{Target}
use Rattle.wm_machine.specs.declared.event.Event.{Event}
use Rattle.wm_machine.specs.declared.record.Phase.{Phase}
use Rattle.wm_machine.specs.declared.record.Record.{Record}
use Rattle.wm_machine.specs.declared.state.State.{State}
use Rattle.wm_machine.proofs.Groups.{closed_by, works_closed-at_once}
use Rattle.wm_collections.proofs.Lists.{All-any, All-filter, All-stored, count-cons, filter-all, map-same, weight}
use Rattle.wm_machine.specs.Cancelled.{cancelled_each, count_reached, is_cancellable, is_for, targeted}
use Rattle.wm_machine.specs.Closed.{closed, is_open, is_reached, with_works_closed}
use Rattle.wm_machine.specs.Group.{numbers_in}
use Rattle.wm_machine.specs.Outcome.{outcome}
use Rattle.wm_machine.specs.Rows.{phase_code, row_of, rows_of}
use Rattle.wm_machine.specs.Runs.{with_stopped}
use Rattle.wm_machine.specs.Step.{after, state_by}
use Rattle.wm_collections.specs.Lists.{HasOne}
use Rattle.wm_machine.specs.Valid.{Valid}
use Rattle.wm_machine.specs.declared.command.Command.TheVariants as command
use Rattle.wm_machine.specs.declared.event.Event.TheVariants as event
use Rattle.wm_machine.specs.declared.record.How.TheVariants as how
use Rattle.wm_machine.specs.declared.record.Phase.TheVariants as phase
use Rattle.wm_machine.specs.declared.reply.Reply.TheVariants as reply
use Rattle.wm_steps.proofs.Nodes.{itself_reached}
use Rattle.wm_steps.proofs.Views.{reached-view}
use Rattle.wm_changes.specs.Nodes.{nodes_of, reached_from}
use Rattle.wm_changes.specs.Replacements.{at_index, replacements}
use Rattle.wm_changes.specs.StepChanges.{replacing_all, row_changes}
use Rattle.wm_changes.specs.declared.change.Replacement.{Replacement}
use Rattle.wm_changes.specs.declared.change.RunChange.{RunChange}
use Rattle.wm_changes.specs.declared.change.RunChange.TheVariants.{Stop}
use Rattle.wm_commands.proofs.cancel.cancel_each.Goals as goal

-- ---- how many are touched

-- one record more, where one is given
at_index-count : (i : ℕ) (change : Record → Option Record) (found : Option Record) (works : List Record)
    → length (at_index i found (replacements change (i + 1) works)) ≡ weight (is_some found) + length (replacements change (i + 1) works)
at_index-count i change None works = omega arith
at_index-count i change (Some work) works = omega arith

-- as many are replaced as pass a test that says which are touched
touched-count : (test : Record → Bool) (change : Record → Option Record) (i : ℕ) (works : List Record)
    → AllByRecursion (λ work. is_some (change work) ≡ test work) works → length (replacements change i works) ≡ count_by test works
touched-count test change i [] same = refl
touched-count test change i (work ∷ works) same =
    let here = at_index-count i change (change work) works in
    let weighs : weight (is_some (change work)) ≡ weight (test work) = ap weight same.0 in
    let rest = touched-count test change (i + 1) works same.1 in
    let all = count-cons test work works in
    omega (arith, here, weighs, rest, all)

-- ---- what is reached

-- works are cancelled with their descendants
abbrev cancelling_from : ℕ → List ℕ → List Record → Clearing
cancelling_from at seqs works = cancelling at (reached_from seqs (nodes_of works))

-- the records that take the place of others then
abbrev replaced_by_cancel : ℕ → List ℕ → List Record → List Replacement
replaced_by_cancel at seqs works = replaced_by_clearing (cancelling_from at seqs works) works

-- whether one of the works reaches a record
abbrev any_reaches : List ℕ → List Record → Record → Bool
any_reaches seqs works work = list_any (λ seq. is_reached seq works work) seqs

is_some-cond : (test : Bool) (new : Record) → is_some (cond test (Some new) None) ≡ test
is_some-cond true new = refl
is_some-cond false new = refl

-- those that a cancelling touches are those that one of the works reaches
touched-cancelling : (at : ℕ) (seqs : List ℕ) (works : List Record)
    → AllByRecursion (λ w. is_some (cleared_by (cancelling_from at seqs works) w) ≡ any_reaches seqs works w) works
touched-cancelling at seqs works =
    let clearing = cancelling_from at seqs works in
    All-any works (λ w. is_some-cond (becomes_cancelled clearing.cancelled w) (cleared clearing w) ∙ sym (any_reached seqs works w))

-- as many are replaced as are reached
count-replaced : (at : ℕ) (seqs : List ℕ) (works : List Record) → length (replaced_by_cancel at seqs works) ≡ count_reached seqs works
count-replaced at seqs works =
    touched-count (any_reaches seqs works) (cleared_by (cancelling_from at seqs works)) 0 works (touched-cancelling at seqs works)

-- and it closes just those
cancelling-closes : (seqs : List ℕ) (s : State) → Valid s → with_works_closed how.Cancelled seqs s ≡ cleared_state (cancelling_from s.now seqs s.works) s
cancelling-closes seqs s valid =
    let clearing = cancelling_from s.now seqs s.works in
    cancelled-state seqs s valid
    ∙ ap (λ (works : List Record). record s { works = works; runs = with_stopped (is_run_among clearing.cancelled) s.runs })
    (map-same (cancelled_in s.now clearing.cancelled) (cleared clearing) s.works (All-any s.works (λ w. refl))
    ∙ ap (map (cleared clearing)) (sym (filter-all (stays []) s.works (λ w. refl))))

-- ---- the rows

-- an unfinished phase is stored as another than the one of cancelled work
open_code : (p : Phase) → is_open p ≡ true → phase_code (phase.Done how.Cancelled) ≡ phase_code p → ⊥
open_code phase.Waiting unfinished same = absurd (cc)
open_code phase.Running unfinished same = absurd (cc)
open_code (phase.Done how) unfinished same = absurd (false≢true unfinished)

-- the row of an unfinished record that is reached changes
reached_row-changes : (at : ℕ) (seqs : List ℕ) (work : Record) (works : List Record) → HasOne (λ other. other ≡ work) works → is_open work.phase ≡ true
    → any_reaches seqs works work ≡ true → map row_of (map (closed_by how.Cancelled at seqs works) works) ≢ map row_of works
reached_row-changes at seqs work works stored unfinished reached same =
    rows-change (closed_by how.Cancelled at seqs works) work works stored (λ row. open_code work.phase unfinished
    (ap (λ b. phase_code (cond b (closed how.Cancelled at work) work).phase) (sym reached) ∙ ap (λ (r : Row). r.phase) row)) same

-- where none is meant, none takes the place of another
none_replaced : (at : ℕ) (works : List Record) → replaced_by_cancel at [] works ≡ []
none_replaced at works = ap (λ found. replaced_by_clearing (cancelling at found) works) (reached-none works) ∙ none-replaced at [] 0 works

-- a work that a target is for is there, and unfinished
record IsMeant (works : List Record) (work : Record) : Type 0 where
  stored : HasOne (λ other. other ≡ work) works
  unfinished : is_open work.phase ≡ true

all_meant : (target : Target) (works : List Record) → AllByRecursion (IsMeant works) (filter (is_cancellable target) works)
all_meant target works =
    All-filter (is_cancellable target) works (λ work is stored. record
    { stored = stored; unfinished = (and_parts (is_open work.phase) (is_for target work) is).0 }) (All-stored works)

-- where there is a work that is meant, its row changes
meant_row-changes : (at : ℕ) (works found : List Record) (work : Record) → IsMeant works work
    → map row_of (map (closed_by how.Cancelled at (numbers_in (work ∷ found)) works) works) ≢ map row_of works
meant_row-changes at works found work is =
    reached_row-changes at (numbers_in (work ∷ found)) work works is.stored is.unfinished
    (ap (λ b. b || any_reaches (numbers_in found) works work) (itself_reached work works is.stored is.unfinished))

-- ---- the step

abbrev cancel_event : ℕ → Target → ℕ → Event
cancel_event line target count = event.Command line (command.Cancel target) (reply.Cancelled count)

-- the change of the runs
abbrev stops_by_cancel : List ℕ → State → RunChange
stops_by_cancel seqs s = Stop (stopped_by (cancelling_from s.now seqs s.works).cancelled s.runs)

-- rows change, or there is none to change
rows-cancelled : (s : State) (target : Target) (run : RunChange) (e : Event) (found : List Record) → filter (is_cancellable target) s.works ≡ found
    → AllByRecursion (IsMeant s.works) found → after s e ≡ with_works_closed how.Cancelled (numbers_in found) s
    → (rows_of (after s e) ≢ rows_of s) ⊎ (row_changes (replacing_all (replaced_by_cancel s.now (numbers_in found) s.works) run e) ≡ [])
rows-cancelled s target run e [] is meant after-is = inr (ap (λ replaced. row_changes (replacing_all replaced run e)) (none_replaced s.now s.works))
rows-cancelled s target run e (work ∷ found) is meant after-is =
    inl (λ same. meant_row-changes s.now s.works found work meant.0
    (ap (map row_of) (sym (works_closed-at_once how.Cancelled (numbers_in (work ∷ found)) s)) ∙ ap rows_of (sym after-is) ∙ same))

cancelling-executed : (s : State) (line : ℕ) (target : Target) → Valid s
    → outcome s (command.Cancel target) ≡ Some (cancelled_each s (targeted target s.works)) → IsExecuted s line (command.Cancel target)
    (replacing_all (replaced_by_cancel s.now (targeted target s.works) s.works) (stops_by_cancel (targeted target s.works) s)
    (cancel_event line target (length (replaced_by_cancel s.now (targeted target s.works) s.works))))
cancelling-executed s line target valid is =
    let seqs = targeted target s.works in
    let clearing = cancelling_from s.now seqs s.works in
    let count = length (replaced_by_cancel s.now seqs s.works) in
    let run = stops_by_cancel seqs s in
    let e = cancel_event line target count in
    let after-is : after s e ≡ with_works_closed how.Cancelled seqs s = ap (state_by s) is in
    record {
      reply = reply.Cancelled count;
      event = refl;
      step =
          clearing_alone-step s clearing run e valid valid.now (record { there = tt; ascend = tt }) (StopsAlone-stopped clearing s valid)
          (tt, Answers-outcome s (command.Cancel target) (reply.Cancelled count) (cancelled_each s seqs) is (ap reply.Cancelled (count-replaced s.now seqs s.works)))
          (after-is ∙ cancelling-closes seqs s valid);
      rows = rows-cancelled s target run e (filter (is_cancellable target) s.works) refl (all_meant target s.works) after-is;
    }

pub returns : goal.returns
returns c =
    let s = c.args.view.now in
    let line = c.args.line in
    let target = c.args.target in
    let seqs = targeted target s.works in
    let replaced = replaced_by_cancel s.now seqs s.works in
    let reached = reached-view _ s _ c.view.view_is c.view.invariant in
    let change : c.replacing_all.result ≡ replacing_all replaced (stops_by_cancel seqs s) (cancel_event line target (length replaced)) = search rules in
    rw change (cancelling-executed s line target reached c.requires.accepted)
