-- What a book keeps where its table makes an event, told or not, and where no ticket is out.
use Rattle.std.proofs.Common.{◌≡◌, ℕ, ◌+◌, ◌-◌, ◌^◌, ◌≤◌, min, List, [], ◌++◌, map, Option, Some, None, IsSome, Err, refl, sym, ◌∙◌, subst, arith, ◌<◌, ◌∷◌, length, ap, append_assoc, length-append}
use Rattle.wm_session.proofs.Words.{AllByRecursion, AreNumberedFrom, ArePlacedBy, AreSeated, AwayInvariant, BookInvariant, BookState, Command, Event, Failed, HasCause, HasPrefix, Inputs, IsAskable, IsBetweenRuns, IsGivenBut, IsListed, IsOneStep, IsRolledBy, IsTold, IsUntouched, LinesInvariant, ListsExactly, Part, PendingState, Replay, Replay-step, Report, RollInvariant, Run, State, Stop, StopCause, Store, TableState, TellCause, Tells, TicketState, Trouble, TroubleCause, TurnCause, Valid, Valid-after, command_in, commands_of, commands_of-push, exact-by, frame_of, framed, is_away, is_keeper_fault, last_text, le-min, le_trans, log_text, log_text-last, min-le_left, min-le_right, none_away, out-agrees, part_of, pending_text, role_of, seated-by, stop_by_trouble}
use Rattle.wm_session.proofs.BookEvents.{AreNumberedFrom-silent}
use Rattle.wm_session.proofs.BookImages.{images-going, images-only}
use Rattle.wm_ended.proofs.WrittenTexts.{IsGivenBut-more}
use Rattle.wm_session.specs.declared.book.Stop.TheVariants as stop
use Rattle.wm_engine.specs.declared.trouble.Trouble.TheVariants as trouble
use Rattle.wm_engine.specs.declared.engine.TurnAnswer.TheVariants as turn

pub LinesInvariant-from : (status : Option Stop) (lines done left : List Command) → lines ≡ done ++ left → LinesInvariant status lines done left
LinesInvariant-from None lines done left is = is
LinesInvariant-from (Some why) lines done left is = (left, is)

pub LinesInvariant-front : (status : Option Stop) (lines done left : List Command) → LinesInvariant status lines done left → HasPrefix lines done
LinesInvariant-front None lines done left kept = (left, kept)
LinesInvariant-front (Some why) lines done left kept = kept

RollInvariant-from : (status : Option Stop) (runs : List Run) (roll : List Part) → ListsExactly runs roll → RollInvariant status runs roll
RollInvariant-from None runs roll exact = exact
RollInvariant-from (Some why) runs roll exact = tt

-- where the roll lists exactly the runs, and the workers that are away are those of the instances that are out
pub AwayInvariant-from : {K W B : Type 0} (status : Option Stop) (book : BookState K W B) → Valid book.table.state
    → ListsExactly book.table.state.runs book.table.roll
    → map (λ place. is_away place.presence) book.places ≡ map (λ instance. instance.out) book.table.state.instances → AwayInvariant status book
AwayInvariant-from status book valid exact same = record {
  away = same ∙ sym (out-agrees book.table.state book.table.roll valid exact);
  listed = RollInvariant-from status book.table.state.runs book.table.roll exact;
}

pub RollInvariant-stopped : (status : Option Stop) (runs : List Run) (roll : List Part) → IsSome status → RollInvariant status runs roll
RollInvariant-stopped (Some why) runs roll stopped = tt
RollInvariant-stopped None runs roll stopped = absurd cc

-- ---- why a session stops

-- a fault since a moment is one since an earlier moment
pub failed_since : (start before now : ℕ) → Failed before now → start ≤ before → Failed start now
failed_since start before now failed later =
    let rose : min (before + 1) (2 ^ 64 - 1) ≤ now = failed.rose in
    let not_below : before ≤ now = failed.later in
    record {
      later = omega arith;
      rose = le_trans (le-min (le_trans (min-le_left (start + 1) (2 ^ 64 - 1)) (omega arith)) (min-le_right (start + 1) (2 ^ 64 - 1))) rose;
    }

-- why a session stops whose table had trouble
pub StopCause-trouble : (why : Trouble) (before now start sink sink_now : ℕ) → HasCause (is_keeper_fault {T = Unit {0}} (Err why)) before now
    → start ≤ before → (before ≤ now) × StopCause (Some (stop_by_trouble why)) start now sink sink_now
StopCause-trouble trouble.KeeperFault before now start sink sink_now failed later = (failed.later, failed_since start before now failed later)
StopCause-trouble trouble.Memory before now start sink sink_now same later = (omega arith, tt)

-- as an answer of the table to a report tells it
pub HasCause-turn : (M : Type 0) (ticket : TicketState) (told : Report) (why : Trouble) (before now : ℕ)
    → TurnCause {M = M} (turn.Refused ticket told why) before now → HasCause (is_keeper_fault {T = Unit {0}} (Err why)) before now
HasCause-turn M ticket told trouble.KeeperFault before now cause = cause
HasCause-turn M ticket told trouble.Memory before now cause = cause

-- and to any other call
pub HasCause-trouble : (T : Type 0) (why : Trouble) (before now : ℕ) → TroubleCause {T = T} (Err why) before now
    → HasCause (is_keeper_fault {T = Unit {0}} (Err why)) before now
HasCause-trouble T trouble.KeeperFault before now cause = cause
HasCause-trouble T trouble.Memory before now cause = cause

-- telling leaves the sink's count of faults, or raises it
pub later-told : (status : Option Stop) (before now : ℕ) → TellCause status before now → before ≤ now
later-told None before now same = omega arith
later-told (Some stop.SinkFault) before now failed = failed.later
later-told (Some stop.Memory) before now same = omega arith
later-told (Some stop.KeeperFault) before now never = absurd never

-- why a session stops as an event is told
pub StopCause-told : (status : Option Stop) (keeper keeper_now before now start : ℕ) → TellCause status before now → start ≤ before
    → StopCause status keeper keeper_now start now
StopCause-told None keeper keeper_now before now start same later = tt
StopCause-told (Some stop.SinkFault) keeper keeper_now before now start failed later = failed_since start before now failed later
StopCause-told (Some stop.Memory) keeper keeper_now before now start same later = tt
StopCause-told (Some stop.KeeperFault) keeper keeper_now before now start never later = absurd never

-- ---- the table

-- the log replays as before
pub Replay-same : {K : Type 0} (store : K → Store) {may : Event → Type 0} (old new : TableState K) → Replay old.first old.log old.state
    → IsUntouched store may old new → Replay new.first new.log new.state
Replay-same store old new replays same = rw (same.first, same.log, same.state) replays

-- where the session goes on the roll lists exactly the runs
pub exact_now : {K W B : Type 0} (old : BookState K W B) → old.status ≡ None → AwayInvariant old.status old
    → ListsExactly old.table.state.runs old.table.roll
exact_now old going kept = subst (λ status. RollInvariant status old.table.state.runs old.table.roll) going kept.listed

-- and the workers that are away are those of the instances that are out
pub away_now : {K W B : Type 0} (old : BookState K W B) → old.status ≡ None → Valid old.table.state → AwayInvariant old.status old
    → map (λ place. is_away place.presence) old.places ≡ map (λ instance. instance.out) old.table.state.instances
away_now old going valid kept = kept.away ∙ out-agrees old.table.state old.table.roll valid (exact_now old going kept)

-- the text of the table's last event was told, or the session stopped for this
abbrev pub TellsLast : {K W B : Type 0} → Tells K W B → BookState K W B → BookState K W B → Type 0
TellsLast tells old new =
    IsTold tells.given tells.sink_faults (last_text new.table.first new.table.log) old.pending new.pending old.sink new.sink new.status

-- an event was made: a step of the table, with the lines, the places and the roll as its role has them
pub record IsEvent {K W B : Type 0} (tells : Tells K W B) (e : Event) (old new : BookState K W B) : Type 0 where
  pub going : old.status ≡ None
  pub step : IsOneStep tells.store e old.table new.table
  pub left : old.left ≡ command_in e ++ new.left
  pub line : new.line ≡ old.line + length (command_in e)
  pub numbered : AreNumberedFrom 1 (old.table.log ++ e ∷ [])
  pub placed : ArePlacedBy tells.kind_of (role_of e) old.table.state old.places new.places
  pub rolled : IsRolledBy (role_of e) old.table.state (frame_of old.table.state e) old.table.roll new.table.roll
  pub no_fault : (tells.store new.table.keeper).faults ≡ (tells.store old.table.keeper).faults

-- lines that are left may be asked, where all may
pub askable_left : (commands left : List Command) → AllByRecursion IsAskable (commands ++ left) → AllByRecursion IsAskable left
askable_left [] left askable = askable
askable_left (asked ∷ commands) left askable = askable_left commands left askable.1

-- the text of a log with its new event
text_is : {K : Type 0} (store : K → Store) (e : Event) (old new : TableState K) → IsOneStep store e old new
    → log_text new.first new.log ≡ log_text old.first old.log ++ last_text new.first new.log
text_is store e old new step = rw (step.first, step.appended) (log_text-last old.first old.log e)

module _ {K W B : Type 0} {run : Inputs} {tells : Tells K W B} where
  pub valid_after : (e : Event) (old new : BookState K W B) → BookInvariant run tells old → IsOneStep tells.store e old.table new.table
      → Valid new.table.state
  valid_after e old new kept step = rw step.state (Valid-after old.table.state e kept.valid step.legal)

  -- workers and roll are those of the state after it
  pub seated_after : (e : Event) (old new : BookState K W B) → BookInvariant run tells old → IsEvent tells e old new
      → AreSeated tells.kind_of new.table.state.instances new.places
  seated_after e old new kept made =
      let s = old.table.state in
      subst (λ (t : State). AreSeated tells.kind_of t.instances new.places) (sym made.step.state)
      (seated-by tells.kind_of s (frame_of s e) old.places new.places kept.valid.instances.numbered
      (record { workers = kept.workers; away = away_now old made.going kept.valid kept.away }) (role_of e) (framed s e made.step.legal) made.placed)

  exact_after : (e : Event) (old new : BookState K W B) → BookInvariant run tells old → IsEvent tells e old new
      → ListsExactly new.table.state.runs new.table.roll
  exact_after e old new kept made =
      let s = old.table.state in
      subst (λ (t : State). ListsExactly t.runs new.table.roll) (sym made.step.state)
      (exact-by (role_of e) s (frame_of s e) old.table.roll new.table.roll kept.valid (framed s e made.step.legal) made.rolled
      (exact_now old made.going kept.away))

  -- it is kept by an event, told or not
  pub BookInvariant-made : {old new : BookState K W B} (e : Event) → BookInvariant run tells old → IsEvent tells e old new → TellsLast tells old new
      → BookInvariant run tells new
  BookInvariant-made {old = old} {new = new} e kept made told =
      let step = made.step in
      let done = commands_of old.table.log in
      let commands : commands_of new.table.log ≡ done ++ command_in e = ap commands_of step.appended ∙ commands_of-push old.table.log e in
      let lines : run.lines ≡ done ++ old.left = subst (λ status. LinesInvariant status run.lines done old.left) made.going kept.lines in
      let few : old.line + length old.left < 2 ^ 32 = kept.few_lines in
      let left_is : length old.left ≡ length (command_in e) + length new.left = ap length made.left ∙ length-append (command_in e) new.left in
      let line_is : new.line ≡ old.line + length (command_in e) = made.line in
      let keeper_before : run.store.faults ≤ (tells.store old.table.keeper).faults = kept.keeper_later in
      let before : IsGivenBut run.written (tells.given old.sink) (log_text old.table.first old.table.log) old.pending.bytes =
      rw (kept.all_told made.going) at kept.texts in
      let seated = seated_after e old new kept made in
      record {
        replay = Replay-step tells.store e old.table new.table kept.replay step;
        valid = valid_after e old new kept step;
        lines = LinesInvariant-from new.status run.lines (commands_of new.table.log) new.left
            (lines ∙ ap (λ (l : List Command). done ++ l) made.left ∙ sym (append_assoc done (command_in e) new.left) ∙ ap (λ (l : List Command). l ++ new.left)
            (sym commands));
        askable = askable_left (command_in e) new.left (subst (AllByRecursion IsAskable) made.left kept.askable);
        numbered = subst (AreNumberedFrom 1) (sym step.appended) made.numbered;
        line = made.line ∙ ap (λ n. n + length (command_in e)) kept.line ∙ sym (length-append done (command_in e)) ∙ ap length (sym commands);
        few_lines = omega arith;
        texts = subst (λ text. IsGivenBut run.written (tells.given new.sink) text (pending_text new.table new.pending)) (sym (text_is tells.store e old.table new.table step))
            (IsGivenBut-more run.written (tells.given old.sink) (tells.given new.sink) (log_text old.table.first old.table.log)
            (last_text new.table.first new.table.log) old.pending.bytes (pending_text new.table new.pending) before told.texts);
        all_told = λ going. ap (λ (p : PendingState). p.untold) (told.all going);
        workers = seated.workers;
        away = AwayInvariant-from new.status new (valid_after e old new kept step) (exact_after e old new kept made) seated.away;
        keeper_later = subst (λ n. run.store.faults ≤ n) (sym made.no_fault) keeper_before;
        sink_later = le_trans kept.sink_later (later-told new.status (tells.sink_faults old.sink) (tells.sink_faults new.sink) told.cause);
        cause = StopCause-told new.status run.store.faults (tells.store new.table.keeper).faults (tells.sink_faults old.sink)
            (tells.sink_faults new.sink) run.sink_faults told.cause kept.sink_later;
        images = λ settled.
            images-only run.lines new.table.state new.table.log new.status (tells.store new.table.keeper)
            (step.images
            (images-going run.lines old.table.state old.table.log old.status (tells.store old.table.keeper) made.going (kept.images settled)));
      }

  -- one that is no line
  pub IsEvent-silent : {old new : BookState K W B} (e : Event) → BookInvariant run tells old → old.status ≡ None
      → IsOneStep tells.store e old.table new.table → command_in e ≡ [] → new.left ≡ old.left → new.line ≡ old.line
      → (tells.store new.table.keeper).faults ≡ (tells.store old.table.keeper).faults
      → ArePlacedBy tells.kind_of (role_of e) old.table.state old.places new.places
      → IsRolledBy (role_of e) old.table.state (frame_of old.table.state e) old.table.roll new.table.roll
      → IsEvent tells e old new
  IsEvent-silent {old = old} {new = new} e kept going step none left line no_fault placed rolled = record {
    going = going;
    step = step;
    left = sym left ∙ ap (λ (l : List Command). l ++ new.left) (sym none);
    line = let empty : length (command_in e) ≡ 0 = ap length none in omega (arith, line);
    numbered = AreNumberedFrom-silent 1 old.table.log e none kept.numbered;
    placed = placed;
    rolled = rolled;
    no_fault = no_fault;
  }

-- ---- no ticket is out

-- there is no run whose part is on a roll without parts
none_listed : (runs : List Run) → AllByRecursion (λ run. IsListed [] (part_of run)) runs → runs ≡ []
none_listed [] each = refl
none_listed (run ∷ runs) each = absurd each.0

-- it is between runs
pub IsBetweenRuns-rests : {K W B : Type 0} (run : Inputs) (tells : Tells K W B) (book : BookState K W B) → BookInvariant run tells book
    → book.table.roll ≡ [] → IsBetweenRuns book
IsBetweenRuns-rests run tells book kept none = record {
  replay = kept.replay;
  no_run = λ going.
      none_listed book.table.state.runs
      (subst (λ (roll : List Part). AllByRecursion (λ run. IsListed roll (part_of run)) book.table.state.runs) none (exact_now book going kept.away).each);
  none_out = none;
  none_away = none_away book.places book.table.state.instances book.table.roll none kept.away.away;
}
