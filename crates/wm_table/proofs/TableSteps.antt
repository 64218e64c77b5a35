-- What a table keeps is kept by each call of its engine.
use Rattle.std.proofs.Common.{◌≡◌, ℕ, suc, ◌+◌, ◌-◌, ◌≤◌, List, [], ◌∷◌, ◌++◌, length, length-append, slice_get, Option, Some, None, Result, Ok, Err, Vec, vec_capacity, Global, refl, sym, ◌∙◌, ap, subst, arith, inl, inr}
use Rattle.std.specs.Prelude.{IfOk, OnErr, OnOk}
use Rattle.wm_collections.specs.Lists.{last_of}
use Rattle.wm_engine.proofs.NextRuns.{next-legal, runs-fewer, runs-legal, TakesAway}
use Rattle.wm_engine.specs.Calls.{IsClaimAnswer, IsLateAnswer, IsOneStep, IsTurnAnswer, IsUntouched}
use Rattle.wm_engine.specs.Engine.{beside, Beside, IsNoted}
use Rattle.wm_engine.specs.EngineState.{EngineState}
use Rattle.wm_engine.specs.Inputs.{Inputs}
use Rattle.wm_engine.specs.TableState.{TableState, TicketState}
use Rattle.wm_engine.specs.declared.engine.Claim.{Claim}
use Rattle.wm_engine.specs.declared.engine.Claim.TheVariants as claim
use Rattle.wm_engine.specs.declared.engine.TurnAnswer.{TurnAnswer}
use Rattle.wm_engine.specs.declared.engine.TurnAnswer.TheVariants as turn
use Rattle.wm_engine.specs.declared.trouble.Trouble.{Trouble}
use Rattle.wm_keeper.specs.Store.{Store}
use Rattle.wm_machine.proofs.Logs.{Replay-push}
use Rattle.wm_machine.specs.Opened.{Opened}
use Rattle.wm_machine.specs.Role.{Role}
use Rattle.wm_machine.specs.Step.{role_of}
use Rattle.wm_machine.specs.declared.command.Command.{Command}
use Rattle.wm_machine.specs.declared.event.Event.{Event}
use Rattle.wm_machine.specs.declared.event.Event.TheVariants as event
use Rattle.wm_machine.specs.declared.reply.Reply.{Reply}
use Rattle.wm_machine.specs.declared.state.State.{State}
use Rattle.wm_observe.proofs.NoteLaws.{last_notes-push}
use Rattle.wm_observe.specs.Notes.{last_notes, notes_between}
use Rattle.wm_observe.specs.declared.note.Note.{Note}
use Rattle.wm_runs.specs.Reports.{CountsIn}
use Rattle.wm_table.specs.Table.{HasRoom, TableInvariant}
use Rattle.wm_worker.specs.Told.{Report}

-- ---- the last of a list

pub slice_get-last : {T : Type 0} (xs : List T) → slice_get xs (length xs - 1) ≡ last_of xs
slice_get-last [] = refl
slice_get-last (x ∷ []) = refl
slice_get-last (x ∷ y ∷ xs) =
    let last : suc (suc (length xs)) - 1 ≡ suc (length xs) = omega arith in
    let before : length xs ≡ suc (length xs) - 1 = omega arith in
    ap (slice_get (x ∷ y ∷ xs)) last ∙ ap (slice_get (y ∷ xs)) before ∙ slice_get-last (y ∷ xs)

-- ---- what a table keeps

-- what a table keeps when it begins
pub kept-opening : (run : Inputs) (first s : State) (log : Vec Event Global) (notes : List Note)
    → Opened run.rows run.instances first → s ≡ first → log.items ≡ [] → notes ≡ [] → TableInvariant run first s notes log
kept-opening run first s log notes opened s_is log_is notes_is =
    let next_run : s.next_run ≡ 1 = ap (λ (t : State). t.next_run) (s_is ∙ opened.state) in
    let no_run : length s.runs ≡ 0 = ap (λ (t : State). length t.runs) (s_is ∙ opened.state) in
    let none_yet : length log.items ≡ 0 = ap length log_is in
    record {
      opened = opened;
      replay = rw (s_is, log_is) refl;
      notes_are = notes_is ∙ ap (last_notes first) (sym log_is);
      few_runs = omega (arith, next_run, none_yet);
      room = omega (arith, no_run, none_yet);
    }

-- a log of the same events with at least the room that it had
pub kept-roomier : (run : Inputs) (first s : State) (notes : List Note) (before log : Vec Event Global) → TableInvariant run first s notes before
    → log.items ≡ before.items → vec_capacity before ≤ vec_capacity log → TableInvariant run first s notes log
kept-roomier run first s notes before log kept same more =
    let longs : length log.items ≡ length before.items = ap length same in
    record {
      opened = kept.opened;
      replay = rw same kept.replay;
      notes_are = kept.notes_are ∙ ap (last_notes first) (sym same);
      few_runs = omega (arith, kept.few_runs, longs);
      room = omega (arith, kept.room, longs, more);
    }

-- an engine beside a log that was made roomier is the table as it was
pub seen-roomier : {K : Type 0} (first : State) (engine : EngineState K) (log roomier : List Event) (t : TableState K)
    → beside first engine log ≡ t → roomier ≡ log → beside first engine roomier ≡ t
seen-roomier first engine log roomier t is same = ap (beside first engine) same ∙ is

-- a list isn't the same with a value more
longer : {T : Type 0} (xs ys : List T) (x : T) → ys ≡ xs ++ x ∷ [] → ys ≡ xs → ⊥
longer xs ys x more same =
    let one : length ys ≡ length xs + 1 = ap length more ∙ length-append xs (x ∷ []) in
    let none : length ys ≡ length xs = ap length same in
    absurd (omega (arith, one, none))

module _ {K : Type 0} (run : Inputs) (store : K → Store) (first : State) (old new : EngineState K) (before log : Vec Event Global)
    (kept : TableInvariant run first old.state old.notes before) (noted : IsNoted old before.items new log.items) where
  made_notes : (e : Event) → log.items ≡ before.items ++ e ∷ [] → new.notes ≡ notes_between old.state new.state
  made_notes e more = elim noted [
    | inl is ↦ is.notes
    | inr is ↦ absurd (longer before.items log.items e more is.none)
  ]

  kept_notes : log.items ≡ before.items → new.notes ≡ old.notes
  kept_notes same = elim noted [
    | inl is ↦ absurd (longer before.items log.items is.made is.appended same)
    | inr is ↦ is.notes
  ]

  -- a step that is logged
  pub kept-step : (e : Event) → IsOneStep store e (beside first old before.items) (beside first new log.items) → HasRoom log new.state.runs
      → TableInvariant run first new.state new.notes log
  kept-step e step room =
      let more : length log.items ≡ length before.items + 1 = ap length step.appended ∙ length-append before.items (e ∷ []) in
      let next = subst (λ (s : State). s.next_run ≤ old.state.next_run + 1) (sym step.state) (next-legal old.state e step.legal) in
      record {
        opened = kept.opened;
        replay = rw (step.state, step.appended) (Replay-push first before.items old.state e kept.replay step.legal);
        notes_are = made_notes e step.appended
            ∙ ap (notes_between old.state) step.state
            ∙ sym (last_notes-push first before.items old.state e kept.replay)
            ∙ ap (last_notes first) (sym step.appended);
        few_runs = omega (arith, kept.few_runs, more, next);
        room = room;
      }

  -- nothing has happened
  pub kept-same : new.state ≡ old.state → log.items ≡ before.items → HasRoom log old.state.runs → TableInvariant run first new.state new.notes log
  kept-same state_is log_is room =
      let few : old.state.next_run ≤ length log.items + 1 = rw log_is kept.few_runs in
      record {
        opened = kept.opened;
        replay = rw (state_is, log_is) kept.replay;
        notes_are = kept_notes log_is ∙ kept.notes_are ∙ ap (last_notes first) (sym log_is);
        few_runs = subst (λ (s : State). s.next_run ≤ length log.items + 1) (sym state_is) few;
        room = subst (λ (s : State). HasRoom log s.runs) (sym state_is) room;
      }

  -- there was room for an event, and for one more of each run, also of one that begins
  module _ (reserved : length before.items + (length old.state.runs + 2) ≤ vec_capacity log) where
    room_after : (e : Event) → IsOneStep store e (beside first old before.items) (beside first new log.items) → HasRoom log new.state.runs
    room_after e step =
        let more : length log.items ≡ length before.items + 1 = ap length step.appended ∙ length-append before.items (e ∷ []) in
        let runs = subst (λ (s : State). length s.runs ≤ length old.state.runs + 1) (sym step.state) (runs-legal old.state e step.legal) in
        omega (arith, reserved, more, runs)

    pub kept-made : (e : Event) → IsOneStep store e (beside first old before.items) (beside first new log.items) → TableInvariant run first new.state new.notes log
    kept-made e step = kept-step e step (room_after e step)

    pub kept-untouched : (may_be : Event → Type 0) → IsUntouched store may_be (beside first old before.items) (beside first new log.items)
        → TableInvariant run first new.state new.notes log
    kept-untouched may_be same =
        let logs : length log.items ≡ length before.items = ap length same.log in
        kept-same same.state same.log (omega (arith, reserved, logs))

    -- a line was executed, or nothing was changed
    pub kept-executed : {T : Type 0} (result : Result T Trouble) (line : ℕ) (command : Command) (may_be : Event → Type 0)
        → OnOk result (Beside (λ was is. (reply : Reply) × IsOneStep store (event.Command line command reply) was is) old before.items new log.items)
        → OnErr result (Beside (IsUntouched store may_be) old before.items new log.items) → TableInvariant run first new.state new.notes log
    kept-executed (Ok value) line command may_be is same = let made = is first in kept-made (event.Command line command made.0) made.1
    kept-executed (Err trouble) line command may_be is same = kept-untouched may_be (same first)

    pub kept-replied : (result : Result Reply Trouble) (line : ℕ) (command : Command) (may_be : Event → Type 0)
        → IfOk result (λ reply. Beside (IsOneStep store (event.Command line command reply)) old before.items new log.items)
        → OnErr result (Beside (IsUntouched store may_be) old before.items new log.items) → TableInvariant run first new.state new.notes log
    kept-replied (Ok reply) line command may_be is same = kept-made (event.Command line command reply) (is first)
    kept-replied (Err trouble) line command may_be is same = kept-untouched may_be (same first)

    -- what was first was claimed, or nothing was changed
    pub kept-claimed : {M : Type 0} (result : Result (Option (Claim M)) Trouble) (may_be : Event → Type 0)
        → IfOk result (λ answer. Beside (IsClaimAnswer store answer) old before.items new log.items)
        → OnErr result (Beside (IsUntouched store may_be) old before.items new log.items) → TableInvariant run first new.state new.notes log
    kept-claimed (Ok None) may_be is same =
        let still = (is first).same in
        let logs : log.items ≡ before.items = ap (λ (t : TableState K). t.log) still in
        let longs : length log.items ≡ length before.items = ap length logs in
        kept-same (ap (λ (t : TableState K). t.state) still) logs (omega (arith, reserved, longs))
    kept-claimed (Ok (Some (claim.Run ticket))) may_be is same = kept-made _ (is first).step
    kept-claimed (Ok (Some (claim.Failed seq cause))) may_be is same = kept-made _ (is first)
    kept-claimed (Err trouble) may_be is same = kept-untouched may_be (same first)

  -- an event that takes a run away needs no more room than there was
  module _ (room : length before.items + length old.state.runs ≤ vec_capacity log) where
    kept_away : (e : Event) → TakesAway (role_of e) → IsOneStep store e (beside first old before.items) (beside first new log.items)
        → TableInvariant run first new.state new.notes log
    kept_away e away step =
        let more : length log.items ≡ length before.items + 1 = ap length step.appended ∙ length-append before.items (e ∷ []) in
        let runs = subst (λ (s : State). length s.runs + 1 ≤ length old.state.runs) (sym step.state) (runs-fewer old.state e step.legal away) in
        kept-step e step (omega (arith, room, more, runs))

    kept_still : new.state ≡ old.state → log.items ≡ before.items → TableInvariant run first new.state new.notes log
    kept_still state_is log_is = let same : length log.items ≡ length before.items = ap length log_is in kept-same state_is log_is (omega (arith, room, same))

    pub kept-late : {M : Type 0} (ticket : TicketState) (result : Result M TicketState)
        → IsLateAnswer store ticket result (beside first old before.items) (beside first new log.items) → TableInvariant run first new.state new.notes log
    kept-late ticket (Ok done) is = kept_away (event.Late ticket.task.run) tt is.returned.step
    kept-late ticket (Err back) is = kept_still (ap (λ (t : TableState K). t.state) is.same) (ap (λ (t : TableState K). t.log) is.same)

    away-ends : (r : Role) (number : ℕ) (e : Event) → role_of e ≡ r → TakesAway r → TakesAway (role_of e)
    away-ends r number e is away = subst TakesAway (sym is) away

    pub kept-turned : {M : Type 0} (ticket : TicketState) (told : Report) (answer : TurnAnswer M)
        → (CountsIn old.state ticket.task.run told → length before.items + (length old.state.runs + 2) ≤ vec_capacity log)
        → IsTurnAnswer store ticket told answer (beside first old before.items) (beside first new log.items) → TableInvariant run first new.state new.notes log
    kept-turned ticket told (turn.Go next) more is = kept-made (more is.counts) _ is.step
    kept-turned ticket told turn.Finished more is =
        let end = is.0.finished in kept_away end.ending (away-ends _ ticket.task.run end.ending end.ends tt) end.step
    kept-turned ticket told turn.TimedOut more is =
        let end = is.0.finished in kept_away end.ending (away-ends _ ticket.task.run end.ending end.ends tt) end.step
    kept-turned ticket told turn.Late more is = kept_away (event.Late ticket.task.run) tt is.step
    kept-turned ticket told (turn.Again back) more is =
        kept_still (ap (λ (t : TableState K). t.state) is.same) (ap (λ (t : TableState K). t.log) is.same)
    kept-turned ticket told (turn.Refused back report why) more is = kept_still is.untouched.state is.untouched.log
