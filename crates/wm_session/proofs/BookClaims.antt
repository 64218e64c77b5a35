-- A book after a claim: what a start keeps, and one that fails.
use Rattle.std.proofs.Common.{◌≡◌, ℕ, ◌+◌, ◌<◌, Bool, List, [], ◌∷◌, ◌++◌, map, Option, Some, None, IsSome, option_map, refl, sym, ◌∙◌, ap, subst, inr, arith}
use Rattle.wm_session.proofs.Words.{BookInvariant, BookState, Cause, Claim, DataEntry, Event, Inputs, IsClaimAnswer, IsOneStep, IsOneStep-roll, IsTaken, IsTicketIn, Seat, Stop, Store, TableState, Tells, TicketState, changed_at, command_in, idle_at, idle_at-in, instance_traits, kept_by, left_to_drain, made_back, no_seat, nothing, place_traits, places-back, run_numbered, ticket_kind, ticket_part, traits-taken, without, without-new}
use Rattle.wm_machine.proofs.Firsts.{idle_instance-idle, idle_instance-stored}
use Rattle.wm_session.proofs.BookSteps.{IsEvent, away_now, exact_now, seated_after, valid_after}
use Rattle.wm_engine.proofs.Parts.{new-on}
use Rattle.wm_machine.specs.declared.event.Event.TheVariants as event
use Rattle.wm_session.specs.Book as book
use Rattle.wm_engine.specs.declared.engine.Claim.TheVariants as claim

-- a claim's event, which is no line
abbrev pub claimed_step : {K M : Type 0} (store : K → Store) (claimed : Claim M) (old new : TableState K) → IsClaimAnswer store (Some claimed) old new
    → (e : Event) × IsOneStep store e old new × (command_in e ≡ [])
claimed_step store (claim.Run ticket) old new run =
    (event.Start ticket.task.run ticket.seq ticket.instance ticket.task.input, run.step, refl)
claimed_step store (claim.Failed seq cause) old new step = (event.StartFailed seq cause, step, refl)

-- the event of a ticket's start
abbrev pub start_of : TicketState → Event
start_of ticket = event.Start ticket.task.run ticket.seq ticket.instance ticket.task.input

-- a run began: its event was made, and the worker of its instance is away with the seat
pub record IsStarted {K W B : Type 0} (tells : Tells K W B) (ticket : TicketState) (seat : Seat B) (old new : BookState K W B) : Type 0 where
  pub made : IsEvent tells (start_of ticket) old new
  pub ticket_in : IsTicketIn new.table.state ticket
  pub roll : new.table.roll ≡ old.table.roll ++ ticket_part ticket ∷ []
  pub taken : IsTaken tells.kind_of ticket seat old.places new.places
  pub left : new.left ≡ old.left

module _ {K W B : Type 0} {run : Inputs} {tells : Tells K W B} where
  -- the worker of the instance that starts is at its place
  pub claimed_idle : {old : BookState K W B} (table : TableState K) (number seq instance place : ℕ) (input : List DataEntry)
      → BookInvariant run tells old → old.status ≡ None
      → IsOneStep tells.store (event.Start number seq instance input) old.table table → place ≡ instance
      → None ≡ option_map (λ worker. let made : Seat B = record { number = place; worker = worker } in made) (idle_at place old.places) → ⊥
  claimed_idle {old = old} table number seq instance place input kept going step same none =
      let start = step.legal in
      let instances = old.table.state.instances in
      let is : start.idle.number ≡ 0 + place = sym start.instance_is ∙ sym same ∙ omega arith in
      let idle = idle_instance-idle instances start.work.request.class start.idle start.is_idle in
      idle_at-in tells.kind_of start.idle place 0 old.places instances kept.valid.instances.numbered (away_now old going kept.valid kept.away) kept.workers
      (idle_instance-stored instances start.work.request.class start.idle start.is_idle) idle.is_in idle.not_retired is
      (no_seat place (idle_at place old.places) none)

  -- its worker is of the ticket's kind
  pub started_kind : {old new : BookState K W B} (ticket : TicketState) (seat : Seat B) → BookInvariant run tells old → IsStarted tells ticket seat old new
      → tells.kind_of seat.worker ≡ ticket.kind
  started_kind {old = old} {new = new} ticket seat kept started =
      let traits : map (place_traits tells.kind_of) old.places ≡ map instance_traits new.table.state.instances =
      sym (traits-taken tells.kind_of ticket.instance old.places) ∙ ap (map (place_traits tells.kind_of)) (sym started.taken.places_are)
      ∙ (seated_after (start_of ticket) old new kept started.made).workers in
      ticket_kind tells.kind_of seat.worker new.table.state ticket (run_numbered ticket.task.run new.table.state.runs) old.places
      (valid_after (start_of ticket) old new kept started.made.step) traits refl started.ticket_in started.taken.worker

  -- it leaves fewer works to drain
  pub fewer_after : {old new : BookState K W B} (ticket : TicketState) (seat : Seat B) → BookInvariant run tells old → IsStarted tells ticket seat old new
      → left_to_drain new.table.state < left_to_drain old.table.state
  fewer_after {old = old} ticket seat kept started =
      rw started.made.step.state (kept_by old.table.state (start_of ticket) kept.valid started.made.step.legal).left

  -- its worker and its part are back, where the session stopped while that was told
  pub IsClaimStopped-back : (M : Type 0) {old new : BookState K W B} (ticket : TicketState) (seat : Seat B) → BookInvariant run tells old
      → IsStarted tells ticket seat old new → IsSome new.status → book.IsClaimStopped M tells.store old (book.with_back tells.kind_of ticket seat new)
  IsClaimStopped-back M {old = old} {new = new} ticket seat kept started stopped =
      let made = started.made in
      let taken = started.taken in
      let number = ticket.task.run in
      let next : number ≡ old.table.state.next_run = made.step.legal.run_is in
      let fewer : left_to_drain new.table.state < left_to_drain old.table.state = fewer_after ticket seat kept started in
      record {
        how = inr (
          stopped,
          record {
            before = made.going;
            made = (
              claim.Run ticket,
              record {
                step = IsOneStep-roll tells.store old.table new.table (without number new.table.roll) (start_of ticket) made.step;
                ticket_in = started.ticket_in;
              },
            );
            left = started.left;
            no_more = omega arith;
          },
        );
        places = ap (λ n. changed_at (made_back tells.kind_of seat.worker) n new.places) taken.number
            ∙ ap (changed_at (made_back tells.kind_of seat.worker) ticket.instance) taken.places_are
            ∙ places-back tells.kind_of seat.worker ticket.instance old.places taken.worker;
        roll = ap (without number) started.roll
            ∙ without-new number old.table.roll (ticket_part ticket) refl
            (new-on old.table.state old.table.roll number kept.valid (exact_now old made.going kept.away).of_runs next);
      }

  -- ---- a work that couldn't start

  pub IsClaimed-failed : (M : Type 0) (never : Bool) {old new : BookState K W B} (seq : ℕ) (cause : Cause) (status : Option Stop) → new.status ≡ status
      → BookInvariant run tells old → IsEvent tells (event.StartFailed seq cause) old new → new.left ≡ old.left
      → (new.status ≡ None → new.pending ≡ nothing) → book.IsClaimed {M = M} tells.store tells.kind_of never (book.failed_told status) old new
  IsClaimed-failed M never {old = old} {new = new} seq cause None is kept made left written = record {
    seq = seq;
    cause = cause;
    goes_on = record { before = made.going; now = is; written = written is };
    step = made.step;
    places = made.placed;
    roll = made.rolled;
    left = left;
    fewer = rw made.step.state (kept_by old.table.state (event.StartFailed seq cause) kept.valid made.step.legal).left;
  }
  IsClaimed-failed M never {old = old} {new = new} seq cause (Some why) is kept made left written =
      let fewer : left_to_drain new.table.state < left_to_drain old.table.state =
      rw made.step.state (kept_by old.table.state (event.StartFailed seq cause) kept.valid made.step.legal).left in
      record {
        how = inr (
          subst IsSome (sym is) refl,
          record {
            before = made.going;
            made = (claim.Failed seq cause, made.step);
            left = left;
            no_more = omega arith;
          },
        );
        places = made.placed;
        roll = made.rolled;
      }
