-- What a command makes of a stand at rest, drained or cut short.
use Rattle.std.proofs.Common.{◌≡◌, ◌⊎◌, ℕ, ◌≤◌, List, [], ◌∷◌, ◌++◌, length, map, Result, Ok, Err, IfErr, refl, sym, ◌∙◌, ap, subst, append_assoc, inl, inr, arith}
use Rattle.std.proofs.lemmas.List.{append-nil}
use Rattle.wm_asks.specs.Drains.{GoesAsDrain}
use Rattle.wm_bench.specs.declared.place.Place.{Place}
use Rattle.wm_keeper.specs.Store.{Store}
use Rattle.wm_live.proofs.DrainFronts.{goes-nothing}
use Rattle.wm_live.proofs.DrainSteps.{last_text-push}
use Rattle.wm_live.specs.Drained.{with_last_told, HasSettled, HasStopped, IsCutShort, IsExecuted, IsLastUntold}
use Rattle.wm_live.specs.Rest.{IsAtRest}
use Rattle.wm_live.specs.StandState.{StandState}
use Rattle.wm_machine.specs.Step.{after}
use Rattle.wm_machine.specs.declared.command.Command.{Command}
use Rattle.wm_machine.specs.declared.event.Event.{Event}
use Rattle.wm_machine.specs.declared.event.Event.TheVariants as event
use Rattle.wm_machine.specs.declared.reply.Reply.{Reply}
use Rattle.wm_machine.specs.declared.state.Run.{Run}
use Rattle.wm_machine.specs.declared.state.State.{State}
use Rattle.wm_seating.proofs.IdleTables.{idle-called}
use Rattle.wm_seating.specs.Bench.{places_after}
use Rattle.wm_seating.specs.Idle.{IsIdle}
use Rattle.wm_engine.specs.Calls.{IsOneStep, IsUntouched}
use Rattle.wm_engine.specs.TableState.{TableState}
use Rattle.wm_engine.specs.declared.trouble.Trouble.{Trouble}
use Rattle.wm_texts.specs.Texts.{event_text, last_text, log_text}
use Rattle.wm_worker.specs.declared.kind.Kind.{Kind}

module _ {K B : Type 0} (store : K → Store) (kind_of : B → Kind) (line : ℕ) (asked : Command) (reply : Reply) (old : StandState K B) (t : TableState K)
    (p : List (Place B)) (rest : IsAtRest kind_of old) (step : IsOneStep store (event.Command line asked reply) old.table t)
    (roll : t.roll ≡ old.table.roll) (places : p ≡ places_after kind_of asked old.places) where
  abbrev its_event : Event
  its_event = event.Command line asked reply

  abbrev between : StandState K B
  between = record { table = t; places = p; text = old.text }

  -- table and bench agree as before
  pub idle-commanded : IsIdle kind_of t p
  idle-commanded = idle-called kind_of store old.table t old.places p line asked reply rest.idle step roll places

  told_text : last_text t.first t.log ≡ log_text old.table.state (its_event ∷ [])
  told_text =
      ap (λ first. last_text first t.log) step.first
      ∙ ap (last_text old.table.first) step.appended
      ∙ last_text-push old.table.first old.table.log old.table.state its_event rest.replay

  -- the text of the event, and of others behind it
  told_more : (events : List Event) → last_text t.first t.log ++ log_text t.state events ≡ log_text old.table.state (its_event ∷ events)
  told_more events =
      let s = old.table.state in
      let its : last_text t.first t.log ≡ event_text s its_event (after s its_event) =
      told_text ∙ append-nil (event_text s its_event (after s its_event)) in
      ap (λ (text : List ℕ). text ++ log_text t.state events) its
      ∙ ap (λ (u : State). event_text s its_event (after s its_event) ++ log_text u events) step.state

  appended_more : (events : List Event) → t.log ++ events ≡ old.table.log ++ its_event ∷ events
  appended_more events = ap (λ (log : List Event). log ++ events) step.appended ∙ append_assoc old.table.log (its_event ∷ []) events

  goes_after : (events : List Event) (now : State) → GoesAsDrain t.state events now → GoesAsDrain (after old.table.state its_event) events now
  goes_after events now goes = subst (λ (u : State). GoesAsDrain u events now) step.state goes

  -- it was told, and all that was startable was driven to its end
  pub is_executed : (new : StandState K B) → HasSettled kind_of (with_last_told between) new → IsExecuted kind_of line asked reply old new
  is_executed new settled =
      let drained = settled.drained in
      record {
        drain = drained.events;
        first = drained.first ∙ step.first;
        appended = drained.appended ∙ appended_more drained.events;
        legal = step.legal;
        drained = record { goes = goes_after drained.events new.table.state drained.goes; quiet = settled.quiet };
        text = drained.text
            ∙ append_assoc old.text (last_text t.first t.log) (log_text t.state drained.events)
            ∙ ap (λ (more : List ℕ). old.text ++ more) (told_more drained.events);
        rest = settled.rest;
      }

  -- its text found no memory
  cut-untold : (trouble : Trouble) (new : StandState K B) → IsLastUntold trouble between new → IsCutShort line asked trouble old new
  cut-untold trouble new untold =
      subst (IsCutShort line asked trouble old) (sym untold.same) (record {
        events = its_event ∷ [];
        more = [];
        first = step.first;
        appended = step.appended;
        goes = inr (record {
          reply = reply;
          drain = [];
          events_are = refl;
          legal = step.legal;
          goes = subst (GoesAsDrain (after old.table.state its_event) []) (sym step.state) (goes-nothing (after old.table.state its_event));
        });
        text = sym (append-nil old.text);
        told = record { told = []; untold = its_event ∷ []; events_are = refl; few = untold.memory; text_is = refl };
        few_runs = subst (λ (runs : List Run). length runs ≤ 1) (sym idle-commanded.no_run) (omega arith);
        none_out = idle-commanded.none_out;
      })

  -- it was told, and the drain met trouble
  cut-drained : (trouble : Trouble) (new : StandState K B) → HasStopped kind_of trouble (with_last_told between) new → IsCutShort line asked trouble old new
  cut-drained trouble new stopped =
      let told = stopped.told in
      record {
        events = its_event ∷ stopped.events;
        more = last_text t.first t.log ++ stopped.more;
        first = stopped.first ∙ step.first;
        appended = stopped.appended ∙ appended_more stopped.events;
        goes = inr (record {
          reply = reply;
          drain = stopped.events;
          events_are = refl;
          legal = step.legal;
          goes = goes_after stopped.events new.table.state stopped.goes;
        });
        text = stopped.text ∙ append_assoc old.text (last_text t.first t.log) stopped.more;
        told = record {
          told = its_event ∷ told.told;
          untold = told.untold;
          events_are = ap (λ (rest : List Event). its_event ∷ rest) told.events_are;
          few = told.few;
          text_is = ap (λ (more : List ℕ). last_text t.first t.log ++ more) told.text_is ∙ told_more told.told;
        };
        few_runs = stopped.few_runs;
        none_out = stopped.none_out;
      }

  pub is_cut : (trouble : Trouble) (new : StandState K B) → IsLastUntold trouble between new ⊎ HasStopped kind_of trouble (with_last_told between) new
      → IsCutShort line asked trouble old new
  is_cut trouble new (inl untold) = cut-untold trouble new untold
  is_cut trouble new (inr stopped) = cut-drained trouble new stopped

-- it wasn't executed
pub cut-refused : {K B : Type 0} (store : K → Store) (kind_of : B → Kind) {may : Event → Type 0} (line : ℕ) (asked : Command) (trouble : Trouble) (old new : StandState K B)
    → IsAtRest kind_of old → IsUntouched store may old.table new.table → new.text ≡ old.text → new.table.roll ≡ old.table.roll
    → IsCutShort line asked trouble old new
cut-refused store kind_of line asked trouble old new rest same text roll = record {
  events = [];
  more = [];
  first = same.first;
  appended = same.log ∙ sym (append-nil old.table.log);
  goes = inl (record { none = refl; same = same.state });
  text = text ∙ sym (append-nil old.text);
  told = record { told = []; untold = []; events_are = refl; few = tt; text_is = refl };
  few_runs = subst (λ (runs : List Run). length runs ≤ 1) (sym (ap (λ (t : State). t.runs) same.state ∙ rest.idle.no_run)) (omega arith);
  none_out = roll ∙ rest.idle.none_out;
}

-- what holds of any trouble holds on a refusal
pub if_refused : {T : Type 0} {P : Trouble → Type 0} (answer : Result T Trouble) → ((trouble : Trouble) → P trouble) → IfErr answer P
if_refused (Ok value) holds = tt
if_refused (Err trouble) holds = holds trouble
