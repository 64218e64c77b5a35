-- What a claim and a turn make of a stand, told or not.
use Rattle.std.proofs.Common.{◌≡◌, ℕ, ◌+◌, ◌==◌, ◌<◌, ◌≤◌, true, false, List, [], ◌∷◌, ◌++◌, length, map, None, option_map, refl, sym, ◌∙◌, ap, subst, inl, inr, arith}
use Rattle.std.proofs.lemmas.List.{append-nil}
use Rattle.std.specs.List.{list_any, AllByRecursion}
use Rattle.wm_bench.specs.Places.{changed_at, idle_at, made_back}
use Rattle.wm_bench.specs.Seat.{Seat}
use Rattle.wm_bench.specs.declared.place.Place.{Place}
use Rattle.wm_collections.proofs.Lists.{All-weaker}
use Rattle.wm_keeper.specs.Store.{Store}
use Rattle.wm_live.proofs.DrainFronts.{goes-nothing}
use Rattle.wm_live.proofs.DrainSteps.{drained-step, drained-then, stopped-step, stopped-untouched}
use Rattle.wm_live.proofs.RunSteps.{back-given, back-idle, begun_kind, rest-ended, rest-failed, under_way-begun, under_way-turned}
use Rattle.wm_live.specs.Drained.{HasAdvanced, HasBegun, HasEnded, HasStopped, HasTurned}
use Rattle.wm_live.specs.Rest.{with_back, IsAtRest, IsUnderWay}
use Rattle.wm_live.specs.StandState.{StandState}
use Rattle.wm_machine.proofs.Firsts.{idle_instance-idle, idle_instance-stored}
use Rattle.wm_machine.proofs.Steps.{kept}
use Rattle.wm_machine.specs.Serial.{IsTurnOf}
use Rattle.wm_machine.specs.Step.{after, role_of}
use Rattle.wm_machine.specs.declared.event.Cause.{Cause}
use Rattle.wm_machine.specs.declared.event.Event.{Event}
use Rattle.wm_machine.specs.declared.state.Instance.{Instance}
use Rattle.wm_machine.specs.declared.state.Run.{Run}
use Rattle.wm_machine.specs.declared.state.State.{State}
use Rattle.wm_machine.specs.Waiting.{left_to_drain, LeavesOf}
use Rattle.wm_machine.specs.declared.event.Event.TheVariants as event
use Rattle.wm_roll.specs.Parts.{without}
use Rattle.wm_runs.specs.Reports.{IsOut}
use Rattle.wm_seating.proofs.PlacesAndInstances.{all_here, idle_at-in, no_seat}
use Rattle.wm_seating.proofs.PlacesChanged.{IsTaken}
use Rattle.wm_seating.proofs.Seats.{taken_again}
use Rattle.wm_seating.proofs.Turnings.{next_turn, not_stopped, IsOverAnswer}
use Rattle.wm_seating.specs.Bench.{instance_traits, place_traits}
use Rattle.wm_engine.proofs.Claims.{IsOneStep-roll}
use Rattle.wm_engine.proofs.NoLines.{silent_end}
use Rattle.wm_engine.specs.Images.{IsNoLine}
use Rattle.wm_engine.specs.Parts.{ticket_part}
use Rattle.wm_engine.specs.Rolls.{given_again, IsRollTurned}
use Rattle.wm_engine.specs.Calls.{HasGoneOn, IsFinished, IsOneStep, IsRunClaimed, IsTurnAnswer, IsUntouched}
use Rattle.wm_engine.specs.TableState.{TableState, TicketState}
use Rattle.wm_engine.specs.declared.trouble.Trouble.{Trouble}
use Rattle.wm_engine.specs.declared.trouble.Trouble.TheVariants.{Memory}
use Rattle.wm_engine.specs.declared.engine.TurnAnswer.{TurnAnswer}
use Rattle.wm_texts.specs.Texts.{last_text}
use Rattle.wm_worker.specs.Told.{Report}
use Rattle.wm_worker.specs.declared.kind.Kind.{Kind}

-- the event of a ticket's start
abbrev start_of : TicketState → Event
start_of ticket = event.Start ticket.task.run ticket.seq ticket.instance ticket.task.input

-- ---- a claim

-- the worker of the instance that starts is at its place
pub claimed_idle : {K B : Type 0} (store : K → Store) (kind_of : B → Kind) (ticket : TicketState) (old : StandState K B) (t : TableState K) (place : ℕ)
    → IsAtRest kind_of old → IsRunClaimed store ticket old.table t → place ≡ ticket.instance
    → None ≡ option_map (λ worker. let made : Seat B = record { number = place; worker = worker } in made) (idle_at place old.places) → ⊥
claimed_idle store kind_of ticket old t place rest claimed same none =
    let s = old.table.state in
    let start = claimed.step.legal in
    let class = start.work.request.class in
    let idle = idle_instance-idle s.instances class start.idle start.is_idle in
    let none_out : AllByRecursion (λ (instance : Instance). instance.out ≡ false) s.instances =
    All-weaker s.instances (λ instance out. out ∙ ap (λ (runs : List Run). list_any (λ run. run.instance == instance.number) runs) rest.idle.no_run)
    rest.idle.valid.instances.out in
    let is : start.idle.number ≡ 0 + place = sym start.instance_is ∙ sym same ∙ omega arith in
    idle_at-in kind_of start.idle place 0 old.places s.instances rest.idle.valid.instances.numbered
    (all_here kind_of old.places s.instances rest.idle.workers rest.idle.none_away none_out) rest.idle.workers
    (idle_instance-stored s.instances class start.idle start.is_idle) idle.is_in idle.not_retired is (no_seat place (idle_at place old.places) none)

-- nothing was claimed, for trouble
pub stopped-rest : {K B : Type 0} (store : K → Store) (kind_of : B → Kind) {may : Event → Type 0} (trouble : Trouble) (old new : StandState K B)
    → IsAtRest kind_of old → IsUntouched store may old.table new.table → new.text ≡ old.text → new.table.roll ≡ old.table.roll
    → new.places ≡ old.places → HasStopped kind_of trouble old new
stopped-rest store kind_of trouble old new rest same text roll places =
    stopped-untouched store kind_of trouble old new same text (subst (λ (runs : List Run). length runs ≤ 1) (sym rest.idle.no_run) (omega arith))
    (roll ∙ rest.idle.none_out)
    (record {
      workers = ap (map (place_traits kind_of)) places ∙ rest.idle.workers ∙ ap (λ (t : State). map instance_traits t.instances) (sym same.state);
      none_away = rw places rest.idle.none_away;
    })

module _ {K B : Type 0} (store : K → Store) (kind_of : B → Kind) (ticket : TicketState) (seat : Seat B) (old : StandState K B) (t : TableState K)
    (p : List (Place B)) (rest : IsAtRest kind_of old) (claimed : IsRunClaimed store ticket old.table t)
    (roll : t.roll ≡ old.table.roll ++ ticket_part ticket ∷ []) (taken : IsTaken kind_of ticket seat old.places p) where
  abbrev claimed_with : List ℕ → StandState K B
  claimed_with text = record { table = t; places = p; text = text }

  claimed_turn : IsTurnOf (role_of (start_of ticket)) old.table.state
  claimed_turn = rest.idle.no_run

  claimed_way : (text : List ℕ) → IsUnderWay kind_of ticket (claimed_with text)
  claimed_way text = under_way-begun store kind_of ticket seat old (claimed_with text) rest claimed.step claimed.ticket_in roll taken.worker taken.places_are

  pub claimed_kind : (text : List ℕ) → kind_of seat.worker ≡ ticket.kind
  claimed_kind text = begun_kind store kind_of ticket seat old (claimed_with text) rest claimed.step claimed.ticket_in roll taken.worker taken.places_are

  -- the run began, and was told
  pub begun-told : HasBegun kind_of ticket seat old (claimed_with (old.text ++ last_text t.first t.log))
  begun-told =
      let text = old.text ++ last_text t.first t.log in
      record {
        drained = drained-step store old (claimed_with text) (start_of ticket) rest.replay claimed.step refl claimed_turn refl;
        under_way = claimed_way text;
        number = taken.number;
        kind = claimed_kind text;
        fewer = rw claimed.step.state (kept old.table.state (start_of ticket) rest.idle.valid claimed.step.legal).left;
      }

  -- its text found no memory, and its worker is back
  pub begun-untold : (trouble : Trouble) → trouble ≡ Memory → HasStopped kind_of trouble old (with_back kind_of ticket seat (claimed_with old.text))
  begun-untold trouble memory =
      let way = claimed_way old.text in
      let back = with_back kind_of ticket seat (claimed_with old.text) in
      stopped-step store old back (start_of ticket) rest.replay
      (IsOneStep-roll store old.table t (without ticket.task.run t.roll) (start_of ticket) claimed.step) refl claimed_turn kind_of trouble memory refl
      way.few way.alone_out
      (back-given kind_of ticket seat (claimed_with old.text) back.table back.places way taken.number (claimed_kind old.text) refl refl)

module _ {K B : Type 0} (store : K → Store) (kind_of : B → Kind) (old new : StandState K B) (seq : ℕ) (cause : Cause) (rest : IsAtRest kind_of old)
    (step : IsOneStep store (event.StartFailed seq cause) old.table new.table) (roll : new.table.roll ≡ old.table.roll)
    (places : new.places ≡ old.places) where
  -- a work couldn't start, which was told
  pub failed-told : new.text ≡ old.text ++ last_text new.table.first new.table.log → HasAdvanced kind_of old new
  failed-told text = record {
    drained = drained-step store old new (event.StartFailed seq cause) rest.replay step refl rest.idle.no_run text;
    rest = rest-failed store kind_of seq cause old new rest step roll places;
    fewer = rw step.state (kept old.table.state (event.StartFailed seq cause) rest.idle.valid step.legal).left;
  }

  -- its text found no memory
  pub failed-untold : (trouble : Trouble) → trouble ≡ Memory → new.text ≡ old.text → HasStopped kind_of trouble old new
  failed-untold trouble memory text =
      let now = rest-failed store kind_of seq cause old new rest step roll places in
      stopped-step store old new (event.StartFailed seq cause) rest.replay step refl rest.idle.no_run kind_of trouble memory text
      (subst (λ (runs : List Run). length runs ≤ 1) (sym now.idle.no_run) (omega arith)) now.idle.none_out
      (back-idle kind_of new.table new.places now.idle)

-- ---- a turn

module _ {K B : Type 0} (store : K → Store) (kind_of : B → Kind) (ticket next : TicketState) (seat : Seat B) (told : Report) (old : StandState K B)
    (t : TableState K) (under_way : IsUnderWay kind_of ticket old) (on : HasGoneOn store ticket told next old.table t)
    (roll : t.roll ≡ given_again (ticket_part ticket) old.table.roll) (number : seat.number ≡ ticket.instance)
    (kind : kind_of seat.worker ≡ ticket.kind) where
  abbrev turned_with : List ℕ → StandState K B
  turned_with text = record { table = t; places = old.places; text = text }

  -- the next ticket is at the next turn
  turned_is : next ≡ record ticket { k = ticket.k + 1 }
  turned_is = (next_turn store ticket next told old.table t on under_way.ticket_in).0

  pub turned_way : (text : List ℕ) → IsUnderWay kind_of next (turned_with text)
  turned_way text = under_way-turned store kind_of ticket next told old (turned_with text) under_way on roll refl

  -- the run goes on, which was told
  pub turned-told : HasTurned kind_of ticket next seat old (turned_with (old.text ++ last_text t.first t.log))
  turned-told =
      let text = old.text ++ last_text t.first t.log in
      let e = event.Turn ticket.task.run on.progress in
      record {
        drained = drained-step store old (turned_with text) e under_way.replay on.step refl tt refl;
        under_way = turned_way text;
        number = number ∙ ap (λ (t : TicketState). t.instance) (sym turned_is);
        kind = kind ∙ ap (λ (t : TicketState). t.kind) (sym turned_is);
        next_is = turned_is;
        turns_left = (next_turn store ticket next told old.table t on under_way.ticket_in).1;
        no_more = rw on.step.state (kept old.table.state e under_way.valid on.step.legal).left;
      }

  -- its text found no memory, and its worker is back
  pub turned-untold : (trouble : Trouble) → trouble ≡ Memory → HasStopped kind_of trouble old (with_back kind_of next seat (turned_with old.text))
  turned-untold trouble memory =
      let e = event.Turn ticket.task.run on.progress in
      let way = turned_way old.text in
      let back = with_back kind_of next seat (turned_with old.text) in
      stopped-step store old back e under_way.replay (IsOneStep-roll store old.table t (without next.task.run t.roll) e on.step) refl tt kind_of trouble memory refl
      way.few way.alone_out
      (back-given kind_of next seat (turned_with old.text) back.table back.places way (number ∙ ap (λ (t : TicketState). t.instance) (sym turned_is))
      (kind ∙ ap (λ (t : TicketState). t.kind) (sym turned_is)) refl refl)

-- the run of a ticket is over
pub record IsOverBy {K : Type 0} (store : K → Store) (ticket : TicketState) (told : Report) (old new : TableState K) : Type 0 where
  pub finished : IsFinished store ticket.task.run told old new
  pub roll : new.roll ≡ without ticket.task.run old.roll

pub over-by : {K M : Type 0} (store : K → Store) (ticket : TicketState) (told : Report) (old new : TableState K) → IsOut old.state ticket.task.run true
    → (answer : TurnAnswer M) → IsOverAnswer answer → IsTurnAnswer store ticket told answer old new → IsRollTurned ticket answer old.roll new.roll
    → IsOverBy store ticket told old new
over-by {M = M} store ticket told old new current answer (inl is) answered rolled =
    let over = subst (λ (a : TurnAnswer M). IsTurnAnswer store ticket told a old new) is answered in
    record { finished = over.0.finished; roll = subst (λ (a : TurnAnswer M). IsRollTurned ticket a old.roll new.roll) is rolled }
over-by {M = M} store ticket told old new current answer (inr (inl is)) answered rolled =
    let over = subst (λ (a : TurnAnswer M). IsTurnAnswer store ticket told a old new) is answered in
    record { finished = over.0.finished; roll = subst (λ (a : TurnAnswer M). IsRollTurned ticket a old.roll new.roll) is rolled }
over-by {M = M} store ticket told old new current answer (inr (inr is)) answered rolled =
    let late = subst (λ (a : TurnAnswer M). IsTurnAnswer store ticket told a old new) is answered in
    absurd (not_stopped old.state ticket.task.run current late.stopped)

module _ {K B : Type 0} (store : K → Store) (kind_of : B → Kind) (ticket : TicketState) (seat : Seat B) (told : Report) (old new : StandState K B)
    (under_way : IsUnderWay kind_of ticket old) (over : IsFinished store ticket.task.run told old.table new.table)
    (roll : new.table.roll ≡ without ticket.task.run old.table.roll) (number : seat.number ≡ ticket.instance) (kind : kind_of seat.worker ≡ ticket.kind)
    (places : new.places ≡ changed_at (made_back kind_of seat.worker) seat.number old.places) where
  ended_rest : IsAtRest kind_of new
  ended_rest =
      rest-ended store kind_of ticket seat.worker over.ending over.reported old new under_way over.ends over.step kind roll
      (places ∙ ap (λ n. changed_at (made_back kind_of seat.worker) n old.places) number)

  ended_silent : IsNoLine over.ending
  ended_silent = silent_end old.table.state ticket.task.run over.reported over.ending over.ends over.step.legal

  ended_turn : IsTurnOf (role_of over.ending) old.table.state
  ended_turn = subst (λ r. IsTurnOf r old.table.state) (sym over.ends) tt

  -- the run is over, which was told
  pub ended-told : new.text ≡ old.text ++ last_text new.table.first new.table.log → HasEnded kind_of old new
  ended-told text = record {
    drained = drained-step store old new over.ending under_way.replay over.step ended_silent ended_turn text;
    rest = ended_rest;
    no_more = rw over.step.state (subst (λ r. LeavesOf r (left_to_drain old.table.state) (left_to_drain (after old.table.state over.ending))) over.ends
        (kept old.table.state over.ending under_way.valid over.step.legal).left);
  }

  -- its text found no memory
  pub ended-untold : (trouble : Trouble) → trouble ≡ Memory → new.text ≡ old.text → HasStopped kind_of trouble old new
  ended-untold trouble memory text =
      stopped-step store old new over.ending under_way.replay over.step ended_silent ended_turn kind_of trouble memory text
      (subst (λ (runs : List Run). length runs ≤ 1) (sym ended_rest.idle.no_run) (omega arith)) ended_rest.idle.none_out
      (back-idle kind_of new.table new.places ended_rest.idle)

-- a report met trouble: the run is given back, without an event
pub stopped-back : {K B : Type 0} (store : K → Store) {may : Event → Type 0} (kind_of : B → Kind) (ticket back : TicketState) (seat : Seat B) (trouble : Trouble)
    (old made : StandState K B) → IsUnderWay kind_of ticket old → seat.number ≡ ticket.instance → kind_of seat.worker ≡ ticket.kind → back ≡ ticket
    → IsUntouched store may old.table made.table → made.text ≡ old.text → made.places ≡ old.places
    → made.table.roll ≡ given_again (ticket_part ticket) old.table.roll → HasStopped kind_of trouble old (with_back kind_of back seat made)
stopped-back store {may = may} kind_of ticket back seat trouble old made under_way number kind same_ticket same text places roll =
    let now = with_back kind_of back seat made in
    stopped-untouched store kind_of {may = may} trouble old now (record {
      first = same.first;
      state = same.state;
      log = same.log;
      rows = same.rows;
      images = same.images;
    }) text under_way.few
    (ap (λ (t : TicketState). without t.task.run made.table.roll) same_ticket
    ∙ ap (without ticket.task.run) roll
    ∙ taken_again ticket old.table.roll
    ∙ under_way.alone_out)
    (back-given kind_of ticket seat old now.table now.places under_way number kind same.state
    (ap (changed_at (made_back kind_of seat.worker) seat.number) places))

-- a run was given back without an event, where the trouble was its worker's
pub stopped-here : {K B : Type 0} (kind_of : B → Kind) (ticket : TicketState) (seat : Seat B) (trouble : Trouble) (old : StandState K B)
    → IsUnderWay kind_of ticket old → seat.number ≡ ticket.instance → kind_of seat.worker ≡ ticket.kind
    → HasStopped kind_of trouble old (with_back kind_of ticket seat old)
stopped-here kind_of ticket seat trouble old under_way number kind = record {
  events = [];
  more = [];
  first = refl;
  appended = sym (append-nil old.table.log);
  goes = goes-nothing old.table.state;
  text = sym (append-nil old.text);
  told = record { told = []; untold = []; events_are = refl; few = tt; text_is = refl };
  few_runs = under_way.few;
  none_out = under_way.alone_out;
  back = (let now = with_back kind_of ticket seat old in back-given kind_of ticket seat old now.table now.places under_way number kind refl refl);
}

-- ---- a run from its start to its end

-- a run that began was driven to its end
pub advanced-run : {K B : Type 0} (kind_of : B → Kind) (ticket : TicketState) (seat : Seat B) (old between new : StandState K B)
    → HasBegun kind_of ticket seat old between → HasEnded kind_of between new → HasAdvanced kind_of old new
advanced-run kind_of ticket seat old between new begun ended =
    let fewer : left_to_drain between.table.state < left_to_drain old.table.state = begun.fewer in
    let no_more : left_to_drain new.table.state ≤ left_to_drain between.table.state = ended.no_more in
    record { drained = drained-then old between new begun.drained ended.drained; rest = ended.rest; fewer = omega (arith, fewer, no_more) }
