-- A book whose session stops, or has stopped.
use Rattle.std.proofs.Common.{◌≡◌, ◌+◌, ◌^◌, ◌<◌, ◌≤◌, List, ◌∷◌, ◌++◌, length, map, false, true≢false, Option, Some, None, IsSome, IsSomeAnd, is_some, Result, Ok, Err, refl, sym, ◌∙◌, ap, subst, inl, inr, arith}
use Rattle.wm_session.proofs.Words.{AllByRecursion, AllocError, AreNumberedFrom, BookInvariant, BookState, Command, Counts, CountsIn, Event, HasCause, HasPrefix, Inputs, IsAskable, IsLine, IsNoLine, IsOut, IsReturned, IsUntouched, IsUntouched-roll, IsUntouched-same, Kind, LeavesOnly, LinesInvariant, ListsExactly, MayComeNext, Place, Report, Run, Seat, State, Stop, StopCause, StopImages, Store, TableState, Tells, TicketState, Trouble, Valid, WasOut, changed_at, commands_of, given_back, instance_traits, is_away, is_keeper_fault, is_out_on, made_back, none-some, nothing, out-agrees, run_numbered, stop_by_trouble, without}
use Rattle.wm_session.proofs.BookImages.{images-going, images-refused, next-line, next-silent}
use Rattle.wm_session.proofs.BookSteps.{LinesInvariant-front, Replay-same, RollInvariant-stopped, StopCause-trouble, away_now, exact_now}
use Rattle.wm_session.specs.Book as book
use Rattle.wm_session.specs.declared.book.After.TheVariants as report

module _ {K W B : Type 0} {run : Inputs} {tells : Tells K W B} where
  -- the session stops where the table is as it was, but for its roll
  BookInvariant-stopped : {old : BookState K W B} (may : Event → Type 0) (table : TableState K) (left : List Command) (why : Stop)
      → BookInvariant run tells old → IsUntouched tells.store may old.table table → AllByRecursion IsAskable left → length left ≤ length old.left
      → (tells.store old.table.keeper).faults ≤ (tells.store table.keeper).faults
      → StopCause (Some why) run.store.faults (tells.store table.keeper).faults run.sink_faults (tells.sink_faults old.sink)
      → (LeavesOnly run.rows run.store → StopImages (Some why) run.lines table.state table.log (tells.store table.keeper))
      → map (λ place. is_away place.presence) old.places ≡ map (is_out_on table.roll) old.table.state.instances
      → BookInvariant run tells (record old { table = table; left = left; status = Some why })
  BookInvariant-stopped {old = old} may table left why kept same askable fewer later cause images away =
      let keeper_before : run.store.faults ≤ (tells.store old.table.keeper).faults = kept.keeper_later in
      let few : old.line + length old.left < 2 ^ 32 = kept.few_lines in
      record {
        replay = Replay-same tells.store old.table table kept.replay same;
        valid = subst Valid (sym same.state) kept.valid;
        lines = subst (λ log. HasPrefix run.lines (commands_of log)) (sym same.log)
            (LinesInvariant-front old.status run.lines (commands_of old.table.log) old.left kept.lines);
        askable = askable;
        numbered = subst (AreNumberedFrom 1) (sym same.log) kept.numbered;
        line = kept.line ∙ ap (λ log. length (commands_of log)) (sym same.log);
        few_lines = omega arith;
        texts = rw (same.first, same.log) kept.texts;
        all_told = λ none. absurd (none-some why (sym none));
        workers = kept.workers ∙ ap (λ (s : State). map instance_traits s.instances) (sym same.state);
        away = record { away = away ∙ ap (λ (s : State). map (is_out_on table.roll) s.instances) (sym same.state); listed = tt };
        keeper_later = omega arith;
        sink_later = kept.sink_later;
        cause = cause;
        images = images;
      }

  -- where the table had trouble, in an event that may come next
  BookInvariant-troubled : {old : BookState K W B} (may : Event → Type 0) (table : TableState K) (left : List Command) (why : Trouble) (stop : Stop)
      → BookInvariant run tells old → old.status ≡ None → IsUntouched tells.store may old.table table
      → ((e : Event) → may e → MayComeNext run.lines old.table.log e) → AllByRecursion IsAskable left → length left ≤ length old.left
      → HasCause (is_keeper_fault {T = Unit {0}} (Err why)) (tells.store old.table.keeper).faults (tells.store table.keeper).faults
      → stop ≡ stop_by_trouble why → ListsExactly old.table.state.runs table.roll
      → BookInvariant run tells (record old { table = table; left = left; status = Some stop })
  BookInvariant-troubled {old = old} may table left why stop kept going same next askable fewer trouble stop_is exact =
      let cause =
      StopCause-trouble why (tells.store old.table.keeper).faults (tells.store table.keeper).faults run.store.faults run.sink_faults
      (tells.sink_faults old.sink) trouble kept.keeper_later in
      subst (λ s. BookInvariant run tells (record old { table = table; left = left; status = Some s })) (sym stop_is)
      (BookInvariant-stopped may table left (stop_by_trouble why) kept same askable fewer cause.0 cause.1
      (λ settled.
      rw (same.state, same.log)
      (images-refused run.lines old.table.state old.table.log why may (tells.store old.table.keeper) (tells.store table.keeper) next
      (images-going run.lines old.table.state old.table.log old.status (tells.store old.table.keeper) going (kept.images settled)) same.images))
      (away_now old going kept.valid kept.away ∙ sym (out-agrees old.table.state table.roll kept.valid exact)))

  -- with the next line
  pub BookInvariant-line_refused : {old : BookState K W B} (table : TableState K) (left : List Command) (asked : Command) (why : Trouble) (stop : Stop)
      → BookInvariant run tells old → old.status ≡ None → old.left ≡ asked ∷ left → IsUntouched tells.store (IsLine (old.line + 1) asked) old.table table
      → HasCause (is_keeper_fault {T = Unit {0}} (Err why)) (tells.store old.table.keeper).faults (tells.store table.keeper).faults
      → stop ≡ stop_by_trouble why → table.roll ≡ old.table.roll
      → BookInvariant run tells (record old { table = table; left = left; status = Some stop })
  BookInvariant-line_refused {old = old} table left asked why stop kept going next same trouble stop_is roll =
      let done = commands_of old.table.log in
      let lines : run.lines ≡ done ++ old.left = subst (λ status. LinesInvariant status run.lines done old.left) going kept.lines in
      let are : run.lines ≡ done ++ asked ∷ left = lines ∙ ap (λ (l : List Command). done ++ l) next in
      let askable : AllByRecursion IsAskable (asked ∷ left) = subst (AllByRecursion IsAskable) next kept.askable in
      BookInvariant-troubled (IsLine (old.line + 1) asked) table left why stop kept going same
      (λ e is. next-line run.lines left old.table.log old.line asked e are kept.numbered kept.line is) askable.1 (omega (arith, ap length next)) trouble stop_is
      (rw roll (exact_now old going kept.away))

  -- with an event that is no line
  pub BookInvariant-refused : {old : BookState K W B} (table : TableState K) (why : Trouble) (stop : Stop)
      → BookInvariant run tells old → old.status ≡ None → IsUntouched tells.store IsNoLine old.table table
      → HasCause (is_keeper_fault {T = Unit {0}} (Err why)) (tells.store old.table.keeper).faults (tells.store table.keeper).faults
      → stop ≡ stop_by_trouble why → ListsExactly old.table.state.runs table.roll
      → BookInvariant run tells (record old { table = table; status = Some stop })
  BookInvariant-refused {old = old} table why stop kept going same trouble stop_is exact =
      let front = LinesInvariant-front old.status run.lines (commands_of old.table.log) old.left kept.lines in
      BookInvariant-troubled IsNoLine table old.left why stop kept going same (λ e none. next-silent run.lines old.table.log e front kept.numbered none)
      kept.askable (omega arith) trouble stop_is exact

  -- a worker comes back after the session has stopped, and the part of its run is off the roll
  pub BookInvariant-put_back : {old : BookState K W B} (table : TableState K) (places : List (Place B)) (ticket : TicketState) (seat : Seat B)
      → BookInvariant run tells old → IsSome old.status → seat.number ≡ ticket.instance → tells.kind_of seat.worker ≡ ticket.kind
      → WasOut old.table.state old.table.roll ticket → table ≡ record old.table { roll = without ticket.task.run old.table.roll }
      → places ≡ changed_at (made_back tells.kind_of seat.worker) seat.number old.places
      → BookInvariant run tells (record old { table = table; places = places })
  BookInvariant-put_back {old = old} table places ticket seat kept stopped number kind out same are =
      let after : TableState K = record old.table { roll = without ticket.task.run old.table.roll } in
      let back =
      given_back tells.kind_of old.table.state old.table.roll ticket seat.number seat.worker old.places places kept.valid kept.workers kept.away.away number
      kind out are in
      subst (λ t. BookInvariant run tells (record old { table = t; places = places })) (sym same) (record {
        replay = kept.replay;
        valid = kept.valid;
        lines = kept.lines;
        askable = kept.askable;
        numbered = kept.numbered;
        line = kept.line;
        few_lines = kept.few_lines;
        texts = kept.texts;
        all_told = kept.all_told;
        workers = back.0 ∙ kept.workers;
        away = record { away = back.1; listed = RollInvariant-stopped old.status old.table.state.runs after.roll stopped };
        keeper_later = kept.keeper_later;
        sink_later = kept.sink_later;
        cause = kept.cause;
        images = kept.images;
      })

-- ---- what a call comes to that made an event, told or not

-- a session whose status is no stop goes on
pub is_going : (status : Option Stop) → false ≡ is_some status → status ≡ None
is_going None not = refl
is_going (Some why) not = absurd cc

-- a session that goes on hadn't stopped before
pub stays_going : {K W B : Type 0} (old new : BookState K W B) → old.status ≡ None → IsSome old.status → book.StaysStopped old new
stays_going old new going stopped = let is : IsSome {T = Stop} None = subst IsSome going stopped in absurd (cc)

stops : {K W B : Type 0} (new : BookState K W B) (why : Stop) → new.status ≡ Some why → IsSome new.status
stops new why is = subst IsSome (sym is) refl

going_on : {K W B : Type 0} (old new : BookState K W B) → old.status ≡ None → new.status ≡ None → (new.status ≡ None → new.pending ≡ nothing)
    → book.GoesOn old new
going_on old new before now written = record { before = before; now = now; written = written now }

-- a line was executed
pub IsFronted-told : {K W B : Type 0} {store : K → Store} {kind_of : B → Kind} {old new : BookState K W B} (status : Option Stop) → new.status ≡ status
    → book.MayCome old.left old.table.state → book.IsLineDone store kind_of old new → (new.status ≡ None → new.pending ≡ nothing)
    → book.IsFronted store kind_of (book.front_told status) old new
IsFronted-told {old = old} {new = new} None is comes line written =
    record { goes_on = going_on old new line.before is written; could_come = comes; line = line }
IsFronted-told {old = old} {new = new} (Some why) is comes line written =
    record { status = stops new why is; stays = stays_going old new line.before; how = inr line }

-- ---- a report

-- a run on which a report counts wasn't stopped
counts-current : (found : Option Run) (told : Report) → IsSomeAnd found (λ run. Counts run told) → IsSomeAnd found (λ run. run.current ≡ false) → ⊥
counts-current None told counts stopped = counts
counts-current (Some run) told counts stopped = true≢false (sym counts.current ∙ stopped)

pub never_late : (ticket : TicketState) (told : Report) (s : State) → CountsIn s ticket.task.run told → IsOut s ticket.task.run false → ⊥
never_late ticket told s counts = counts-current (run_numbered ticket.task.run s.runs) told counts

module _ {K W B : Type 0} {store : K → Store} (kind_of : B → Kind) {ticket : TicketState} (seat : Seat B) {old new : BookState K W B}
    (out : WasOut old.table.state old.table.roll ticket) (roll : new.table.roll ≡ without ticket.task.run old.table.roll)
    (places : new.places ≡ changed_at (made_back kind_of seat.worker) seat.number old.places) where
  -- the run is over by its report
  pub IsReported-over : (M : Type 0) (told : Report) (status : Option Stop) → new.status ≡ status → book.IsMade (book.IsLast store ticket told) old new
      → (new.status ≡ None → new.pending ≡ nothing)
      → book.IsReported {M = M} store kind_of ticket seat (Ok told) (book.over_told status) old new
  IsReported-over M told None is made written =
      record { goes_on = going_on old new made.before is written; over = made; out = out; roll = roll; places = places }
  IsReported-over M told (Some why) is made written =
      let any : book.IsMade (book.IsTurnMade store ticket told) old new = record { before = made.before; made = inl made.made; left = made.left; no_more = made.no_more } in
      record { how = inr (stops new why is, any); out = out; roll = roll; places = places }

  -- or by its return, where its worker was refused memory
  pub IsReported-late : (M : Type 0) (refused : AllocError) (status : Option Stop) → new.status ≡ status
      → book.IsMade (IsReturned store ticket.task.run) old new → (new.status ≡ None → new.pending ≡ nothing)
      → book.IsReported {M = M} store kind_of ticket seat (Err refused) (book.over_told status) old new
  IsReported-late M refused None is made written =
      record { goes_on = going_on old new made.before is written; over = made; out = out; roll = roll; places = places }
  IsReported-late M refused (Some why) is made written =
      record { how = inr (stops new why is, made); out = out; roll = roll; places = places }

-- ---- a ticket and its worker are put back

-- one that had stopped before
pub HasStopped-before : {K W B : Type 0} (store : K → Store) (old new : BookState K W B) → new.table ≡ old.table → new.left ≡ old.left → IsSome new.status
    → (IsSome old.status → book.StaysStopped old new) → book.HasStopped store old new
HasStopped-before store old new same left stopped stays =
    record { status = stopped; stays = stays; table = IsUntouched-same store IsNoLine old.table new.table same; left = left }

-- the run is off the roll, its worker is back, and no event of it was made
pub IsGivenBack-stopped : {K W B : Type 0} {store : K → Store} (event : TableState K → TableState K → Type 0) (kind_of : B → Kind)
    (ticket back : TicketState) (seat : Seat B) (old new : BookState K W B) → book.HasStopped store old new → book.WasNotStopped ticket old
    → back.task.run ≡ ticket.task.run → without ticket.task.run new.table.roll ≡ without ticket.task.run old.table.roll → new.places ≡ old.places
    → WasOut old.table.state old.table.roll ticket
    → book.IsGivenBack store event kind_of ticket seat old (book.with_back kind_of back seat new)
IsGivenBack-stopped {store = store} event kind_of ticket back seat old new stopped never same roll places out = record {
  how = inl (
    record {
      status = stopped.status;
      stays = λ was. let is = stopped.stays was in record { status = is.status; sink = is.sink; pending = is.pending };
      table = IsUntouched-roll store IsNoLine old.table new.table (without back.task.run new.table.roll) stopped.table;
      left = stopped.left;
    },
    never,
  );
  out = out;
  roll = ap (λ n. without n new.table.roll) same ∙ roll;
  places = ap (changed_at (made_back kind_of seat.worker) seat.number) places;
}

-- so it is where the session had stopped before, whatever was told or refused
module _ {K W B : Type 0} (M : Type 0) (store : K → Store) (kind_of : B → Kind) (ticket : TicketState) (seat : Seat B) where
  given_before : (event : TableState K → TableState K → Type 0) (old : BookState K W B) → IsSome old.status
      → WasOut old.table.state old.table.roll ticket → book.IsGivenBack store event kind_of ticket seat old (book.with_back kind_of ticket seat old)
  given_before event old stopped out =
      IsGivenBack-stopped event kind_of ticket ticket seat old old
      (HasStopped-before store old old refl refl stopped (λ was. record { status = refl; sink = refl; pending = refl }))
      (λ going was. let is : IsSome {T = Stop} None = subst IsSome going stopped in absurd (cc)) refl refl refl out

  pub IsReported-before : (told : Result Report AllocError) (old : BookState K W B) → IsSome old.status → WasOut old.table.state old.table.roll ticket
      → book.IsReported {M = M} store kind_of ticket seat told report.Stopped old (book.with_back kind_of ticket seat old)
  IsReported-before (Ok told) = given_before (book.IsTurnMade store ticket told)
  IsReported-before (Err refused) = given_before (IsReturned store ticket.task.run)
