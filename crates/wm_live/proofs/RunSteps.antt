-- A run that begins, goes on and ends in a stand.
use Rattle.std.proofs.Common.{◌≡◌, ℕ, ◌+◌, true, false, List, [], ◌∷◌, ◌++◌, map, Some, refl, sym, ◌∙◌, ap, subst}
use Rattle.wm_bench.specs.Places.{changed_at, idle_at, made_away, made_back, IsAwayAt}
use Rattle.wm_bench.specs.Seat.{Seat}
use Rattle.wm_bench.specs.declared.place.Place.{Place}
use Rattle.wm_keeper.specs.Store.{Store}
use Rattle.wm_live.specs.Rest.{AreBack, IsAtRest, IsUnderWay}
use Rattle.wm_live.specs.StandState.{StandState}
use Rattle.wm_machine.proofs.Starts.{after_start}
use Rattle.wm_machine.proofs.Steps.{Valid-after}
use Rattle.wm_machine.proofs.Turns.{after_turn}
use Rattle.wm_machine.specs.Frame.{Frame}
use Rattle.wm_machine.specs.Role as role
use Rattle.wm_machine.specs.Role.{Reported}
use Rattle.wm_machine.specs.Runs.{with_out}
use Rattle.wm_machine.specs.Step.{role_of}
use Rattle.wm_machine.specs.declared.event.Cause.{Cause}
use Rattle.wm_machine.specs.declared.event.Event.{Event}
use Rattle.wm_machine.specs.declared.state.State.{State}
use Rattle.wm_machine.specs.Valid.{Valid}
use Rattle.wm_machine.specs.declared.event.Event.TheVariants as event
use Rattle.wm_roll.specs.Parts.{without}
use Rattle.wm_seating.proofs.PlacesAndInstances.{traits-back, traits-taken, traits-with_out}
use Rattle.wm_seating.proofs.PlacesChanged.{IsAwayAt-taken, NoneAway-back}
use Rattle.wm_seating.proofs.Seats.{ticket_kind}
use Rattle.wm_seating.proofs.Turnings.{Replay-step, alone-turned, alone_out-turned, current-turned, few-turned, next_turn, only-begun, runs-ended}
use Rattle.wm_seating.specs.Bench.{instance_traits, place_traits, NoneAway}
use Rattle.wm_seating.specs.Idle.{IsIdle}
use Rattle.wm_engine.proofs.NoLines.{framed_end}
use Rattle.wm_engine.specs.Parts.{ticket_part}
use Rattle.wm_engine.specs.Rolls.{given_again}
use Rattle.wm_engine.specs.Calls.{HasGoneOn, IsOneStep, IsTicketIn}
use Rattle.wm_engine.specs.TableState.{TableState, TicketState}
use Rattle.wm_worker.specs.Told.{Report}
use Rattle.wm_worker.specs.declared.kind.Kind.{Kind}

-- ---- one event

pub Valid-step : {K : Type 0} (store : K → Store) (e : Event) (old new : TableState K) → Valid old.state → IsOneStep store e old new → Valid new.state
Valid-step store e old new valid step = rw step.state (Valid-after old.state e valid step.legal)

-- ---- a run begins

module _ {K B : Type 0} (store : K → Store) (kind_of : B → Kind) (ticket : TicketState) (seat : Seat B) (old new : StandState K B)
    (rest : IsAtRest kind_of old)
    (step : IsOneStep store (event.Start ticket.task.run ticket.seq ticket.instance ticket.task.input) old.table new.table)
    (ticket_in : IsTicketIn new.table.state ticket) (roll : new.table.roll ≡ old.table.roll ++ ticket_part ticket ∷ [])
    (worker : idle_at ticket.instance old.places ≡ Some seat.worker) (places : new.places ≡ changed_at (made_away kind_of) ticket.instance old.places) where
  begun_workers : map (place_traits kind_of) new.places ≡ map instance_traits new.table.state.instances
  begun_workers =
      let s = old.table.state in
      let on = step.legal in
      let instances : new.table.state.instances ≡ with_out true on.idle.number s.instances =
      ap (λ (t : State). t.instances) (step.state ∙ after_start s ticket.task.run ticket.seq ticket.instance ticket.task.input on) in
      ap (map (place_traits kind_of)) places
      ∙ traits-taken kind_of ticket.instance old.places
      ∙ rest.idle.workers
      ∙ sym (traits-with_out true on.idle.number s.instances)
      ∙ ap (map instance_traits) (sym instances)

  -- its worker is of the ticket's kind
  pub begun_kind : kind_of seat.worker ≡ ticket.kind
  begun_kind =
      let t = new.table.state in
      let traits : map (place_traits kind_of) old.places ≡ map instance_traits t.instances =
      sym (traits-taken kind_of ticket.instance old.places) ∙ ap (map (place_traits kind_of)) (sym places) ∙ begun_workers in
      ticket_kind kind_of seat.worker t ticket _ old.places (Valid-step store _ old.table new.table rest.idle.valid step) traits refl ticket_in worker

  pub under_way-begun : IsUnderWay kind_of ticket new
  under_way-begun =
      let only = only-begun store ticket old.table new.table rest.idle.no_run rest.idle.none_out step roll in
      record {
        replay = Replay-step store _ old.table new.table rest.replay step;
        valid = Valid-step store _ old.table new.table rest.idle.valid step;
        workers = begun_workers;
        ticket_in = ticket_in;
        current = only.current;
        few = only.few;
        alone = only.alone;
        alone_out = only.alone_out;
        away = rw (places, ← begun_kind) (IsAwayAt-taken kind_of seat.worker ticket.instance old.places worker);
        others = λ back. rw places (NoneAway-back kind_of back ticket.instance old.places rest.idle.none_away);
      }

-- a work couldn't start
pub rest-failed : {K B : Type 0} (store : K → Store) (kind_of : B → Kind) (seq : ℕ) (cause : Cause) (old new : StandState K B) → IsAtRest kind_of old
    → IsOneStep store (event.StartFailed seq cause) old.table new.table → new.table.roll ≡ old.table.roll → new.places ≡ old.places
    → IsAtRest kind_of new
rest-failed store kind_of seq cause old new rest step roll places = record {
  replay = Replay-step store _ old.table new.table rest.replay step;
  idle = record {
    valid = Valid-step store _ old.table new.table rest.idle.valid step;
    workers = ap (map (place_traits kind_of)) places ∙ rest.idle.workers ∙ ap (λ (t : State). map instance_traits t.instances) (sym step.state);
    none_away = rw places rest.idle.none_away;
    no_run = ap (λ (t : State). t.runs) step.state ∙ rest.idle.no_run;
    none_out = roll ∙ rest.idle.none_out;
  };
}

-- ---- a run goes on

pub under_way-turned : {K B : Type 0} (store : K → Store) (kind_of : B → Kind) (ticket next : TicketState) (told : Report) (old new : StandState K B)
    → IsUnderWay kind_of ticket old → HasGoneOn store ticket told next old.table new.table
    → new.table.roll ≡ given_again (ticket_part ticket) old.table.roll → new.places ≡ old.places → IsUnderWay kind_of next new
under_way-turned store kind_of ticket next told old new under_way on roll places =
    let step = on.step in
    let is = step.state ∙ after_turn old.table.state ticket.task.run on.progress step.legal in
    let next_is = (next_turn store ticket next told old.table new.table on under_way.ticket_in).0 in
    record {
      replay = Replay-step store _ old.table new.table under_way.replay step;
      valid = Valid-step store _ old.table new.table under_way.valid step;
      workers = ap (map (place_traits kind_of)) places ∙ under_way.workers ∙ ap (λ (t : State). map instance_traits t.instances) (sym is);
      ticket_in = on.ticket_in;
      current = current-turned store ticket next told old.table new.table on;
      few = few-turned store ticket.task.run on.progress old.table new.table step under_way.few;
      alone = alone-turned store ticket next told old.table new.table on ∙ under_way.alone;
      alone_out = alone_out-turned store ticket next told old.table new.table on roll ∙ under_way.alone_out;
      away = subst (λ (t : TicketState). IsAwayAt t.instance t.kind new.places) (sym next_is) (rw places under_way.away);
      others = λ back. subst (λ (t : TicketState). NoneAway (changed_at (made_back kind_of back) t.instance new.places)) (sym next_is)
          (rw places (under_way.others back));
    }

-- ---- a worker comes back

-- the worker of a run that is under way comes back to its place
pub back-given : {K B : Type 0} (kind_of : B → Kind) (ticket : TicketState) (seat : Seat B) (old : StandState K B) (table : TableState K) (places : List (Place B))
    → IsUnderWay kind_of ticket old → seat.number ≡ ticket.instance → kind_of seat.worker ≡ ticket.kind → table.state ≡ old.table.state
    → places ≡ changed_at (made_back kind_of seat.worker) seat.number old.places → AreBack kind_of table places
back-given kind_of ticket seat old table places under_way number kind state given =
    let worker = seat.worker in
    let at : places ≡ changed_at (made_back kind_of worker) ticket.instance old.places =
    given ∙ ap (λ n. changed_at (made_back kind_of worker) n old.places) number in
    let away : IsAwayAt ticket.instance (kind_of worker) old.places = subst (λ kind. IsAwayAt ticket.instance kind old.places) (sym kind) under_way.away in
    record {
      workers = traits-back kind_of worker ticket.instance old.places places away at
          ∙ under_way.workers
          ∙ ap (λ (t : State). map instance_traits t.instances) (sym state);
      none_away = rw at (under_way.others worker);
    }

-- no worker is away
pub back-idle : {K B : Type 0} (kind_of : B → Kind) (table : TableState K) (places : List (Place B)) → IsIdle kind_of table places
    → AreBack kind_of table places
back-idle kind_of table places idle = record { workers = idle.workers; none_away = idle.none_away }

-- ---- a run ends

pub rest-ended : {K B : Type 0} (store : K → Store) (kind_of : B → Kind) (ticket : TicketState) (back : B) (ending : Event) (reported : Reported)
    (old new : StandState K B) → IsUnderWay kind_of ticket old → role_of ending ≡ role.Ends ticket.task.run reported
    → IsOneStep store ending old.table new.table → kind_of back ≡ ticket.kind → new.table.roll ≡ without ticket.task.run old.table.roll
    → new.places ≡ changed_at (made_back kind_of back) ticket.instance old.places → IsAtRest kind_of new
rest-ended store kind_of ticket back ending reported old new under_way ends step kind roll places =
    let s = old.table.state in
    let number = ticket.task.run in
    let ended = framed_end s number reported ending ends step.legal in
    let instances : new.table.state.instances ≡ with_out false ended.run.instance s.instances =
    ap (λ (t : State). t.instances) step.state ∙ ap (λ (f : Frame). f.instances) ended.frame_is in
    let away : IsAwayAt ticket.instance (kind_of back) old.places = subst (λ kind. IsAwayAt ticket.instance kind old.places) (sym kind) under_way.away in
    record {
      replay = Replay-step store _ old.table new.table under_way.replay step;
      idle = record {
        valid = Valid-step store _ old.table new.table under_way.valid step;
        workers = traits-back kind_of back ticket.instance old.places new.places away places
            ∙ under_way.workers
            ∙ sym (traits-with_out false ended.run.instance s.instances)
            ∙ ap (map instance_traits) (sym instances);
        none_away = rw places (under_way.others back);
        no_run = runs-ended store number reported ending old.table new.table ends step ∙ under_way.alone;
        none_out = roll ∙ under_way.alone_out;
      };
    }
