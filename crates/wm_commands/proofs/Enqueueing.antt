-- The step of an enqueue whose batch is placed: works are cancelled before and others let go, and then its own works are placed.
use Rattle.std.proofs.Common.{◌≡◌, ◌≢◌, ℕ, ◌≤◌, pos, true, List, [], ◌∷◌, ◌++◌, length, map, Option, Some, None, refl, sym, ◌∙◌, ap, subst, arith, inl}
use Rattle.std.specs.List.{AllByRecursion}
use Rattle.std.proofs.lemmas.Int.{ints}
use Rattle.wm_commands.proofs.ClearingSteps.{clearing-step, passing-stored, StopsAlone-stopped}
use Rattle.wm_commands.proofs.Clearings.{made_ready-cleared}
use Rattle.wm_settings.proofs.Executions.{Answers-outcome}
use Rattle.wm_commands.proofs.Placings.{as_many, named-earlier, numbered, placed-with, seqs-new, there-cleared}
use Rattle.wm_settings.specs.Builds.{ChangesRows, IsExecuted}
use Rattle.wm_commands.specs.Cleared.{cleared_state, clearing_of, is_removed, replaced_by_clearing, stopped_by, with_cleared}
use Rattle.wm_commands.specs.Placed.{name_in, placed_records, with_placed}
use Rattle.wm_commands.specs.declared.clearing.Clearing.{Clearing}
use Rattle.wm_collections.proofs.Lists.{All-back, All-map, All-unmap, All-weaker}
use Rattle.wm_keeper.specs.declared.row.Row.{Row}
use Rattle.wm_machine.specs.declared.command.UniqueName.{UniqueName}
use Rattle.wm_machine.specs.declared.event.Event.{Event}
use Rattle.wm_machine.specs.declared.record.Record.{Record}
use Rattle.wm_machine.specs.declared.state.State.{State}
use Rattle.wm_machine.proofs.Steps.{Valid-after}
use Rattle.wm_machine.specs.Enqueued.{enqueued, made_ready, placing_in}
use Rattle.wm_machine.specs.Outcome.{outcome, IsAskable, IsLegalLine}
use Rattle.wm_machine.specs.Plan.{Placing}
use Rattle.wm_machine.specs.Replied.{Outcome}
use Rattle.wm_machine.specs.Rows.{row_of, rows_of}
use Rattle.wm_machine.specs.Step.{Legal, after, state_by}
use Rattle.wm_machine.specs.Valid.{IsRecord, Valid}
use Rattle.wm_machine.specs.declared.command.Command.TheVariants as command
use Rattle.wm_machine.specs.declared.event.Event.TheVariants as event
use Rattle.wm_machine.specs.declared.reply.Reply.TheVariants as reply
use Rattle.wm_request.specs.declared.request.Batch.{Batch}
use Rattle.wm_changes.specs.Nodes.{is_there}
use Rattle.wm_changes.specs.StepChanges.{placing, seqs_of, HaveNextNumbers, NameEarlier}
use Rattle.wm_changes.specs.declared.change.RunChange.TheVariants.{Stop}

-- ---- rows

-- where there are new records, one has the next number
none_new : (next : ℕ) (new : List Record) → HaveNextNumbers next new → 1 ≤ length new → AllByRecursion (λ work. (row_of work).seq ≢ pos next) new → ⊥
none_new next [] numbered some none = absurd (omega (arith, some))
none_new next (work ∷ new) numbered some none = none.0 (ap pos numbered.0)

-- a batch that may be asked has works
not_empty : (named : Option UniqueName) (batch : Batch) → IsAskable (command.Enqueue named batch) → 1 ≤ length batch.works
not_empty None batch asked = let some = asked.batch.not_empty in omega (arith, some)
not_empty (Some unique) batch asked = let some = asked.asked.batch.not_empty in omega (arith, some)

-- ---- the step

module _ (s : State) (line : ℕ) (named : Option UniqueName) (batch : Batch) (by : Placing) (valid : Valid s)
    (can : IsLegalLine s (command.Enqueue named batch))
    (places : enqueued s named batch.works ≡ placing_in (made_ready s by) (name_in named) by.after batch.works)
    (after_there : AllByRecursion (λ number. is_there s.works number ≡ true) by.after) where
  abbrev clearing : Clearing
  clearing = clearing_of s.now s.works by.cancel by.let_go

  abbrev cleared_s : State
  cleared_s = cleared_state clearing s

  abbrev new : List Record
  new = placed_records cleared_s (name_in named) by.after batch.works

  abbrev enqueue_event : Event
  enqueue_event = event.Command line (command.Enqueue named batch) (reply.Enqueued (seqs_of new))

  ready : made_ready s by ≡ cleared_s
  ready = made_ready-cleared s by valid

  outcome-is : outcome s (command.Enqueue named batch) ≡ Some (placing_in cleared_s (name_in named) by.after batch.works)
  outcome-is =
      ap (λ (o : Outcome). Some o) (places ∙ ap (λ (t : State). placing_in t (name_in named) by.after batch.works) ready)

  after-is : after s enqueue_event ≡ with_placed cleared_s new
  after-is = ap (state_by s) outcome-is ∙ placed-with cleared_s (name_in named) by.after batch.works

  legal : Legal s enqueue_event
  legal = (
    can.askable,
    Answers-outcome s (command.Enqueue named batch) (reply.Enqueued (seqs_of new)) (placing_in cleared_s (name_in named) by.after batch.works)
        outcome-is (ap reply.Enqueued (seqs-new cleared_s (name_in named) by.after batch.works)),
  )

  valid_after : Valid (with_placed cleared_s new)
  valid_after = subst Valid after-is (Valid-after s enqueue_event valid legal)

  -- the new records are at the end
  new-numbered : HaveNextNumbers s.next new
  new-numbered = numbered cleared_s (name_in named) by.after batch.works

  new-records : AllByRecursion IsRecord new
  new-records = All-back _ (with_cleared clearing s.works) new valid_after.works.records

  -- and each names records before it
  new-named : NameEarlier s.works new
  new-named = named-earlier cleared_s s.works (name_in named) by.after batch.works (there-cleared clearing s.works) after_there new-records

  -- there is a row under a new number
  more_rows : ChangesRows s (command.Enqueue named batch)
  more_rows same =
      let rows : map row_of (with_cleared clearing s.works ++ new) ≡ map row_of s.works = ap rows_of (sym after-is) ∙ same in
      let before : AllByRecursion (λ (row : Row). row.seq ≢ pos s.next) (map row_of s.works) =
      All-map _ row_of s.works (λ work below is. let clash : pos work.seq ≡ pos s.next = is in absurd (omega (arith, ints, below))) valid.works.numbers in
      let each = All-unmap _ row_of (with_cleared clearing s.works ++ new) (subst (AllByRecursion (λ (row : Row). row.seq ≢ pos s.next)) (sym rows) before) in
      let many = as_many cleared_s (name_in named) by.after batch.works in
      let some = not_empty named batch can.askable in
      none_new s.next new new-numbered (omega (arith, many, some)) (All-back _ (with_cleared clearing s.works) new each)

  -- a batch is placed
  pub placement-executed : IsExecuted s line (command.Enqueue named batch)
      (placing (replaced_by_clearing clearing s.works) clearing.removed new (Stop (stopped_by clearing.cancelled s.runs)) enqueue_event)
  placement-executed = record {
    reply = reply.Enqueued (seqs_of new);
    event = refl;
    step =
        clearing-step s clearing new enqueue_event valid valid.now
        (passing-stored (is_removed clearing.cancelled by.let_go s.works) s.works valid.works.in_order) new-numbered
        (Stop (stopped_by clearing.cancelled s.runs)) (StopsAlone-stopped clearing s valid) new-named
        (All-weaker new (λ work is. is.fits) new-records) valid_after.works.fits legal after-is;
    rows = inl more_rows;
  }
