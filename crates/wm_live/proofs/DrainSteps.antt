-- How a stand goes on by the events of a drain, one after another, and is cut short.
use Rattle.std.proofs.Common.{◌≡◌, ℕ, ◌≤◌, List, [], ◌∷◌, ◌++◌, length, None, refl, sym, ◌∙◌, ap, subst, append_assoc}
use Rattle.std.proofs.lemmas.List.{append-nil}
use Rattle.std.proofs.lemmas.Option.{none-some}
use Rattle.wm_live.proofs.DrainFronts.{goes-nothing, goes-one, goes-then}
use Rattle.wm_asks.specs.Drains.{GoesAsDrain}
use Rattle.wm_collections.specs.Lists.{last_of}
use Rattle.wm_keeper.specs.Store.{Store}
use Rattle.wm_live.specs.Drained.{HasDrained, HasStopped}
use Rattle.wm_live.specs.Rest.{AreBack}
use Rattle.wm_live.specs.StandState.{StandState}
use Rattle.wm_machine.specs.Log.{command_in}
use Rattle.wm_machine.specs.Replay.{Replay}
use Rattle.wm_machine.specs.Serial.{IsInTurn}
use Rattle.wm_machine.specs.Step.{after}
use Rattle.wm_machine.specs.declared.event.Event.{Event}
use Rattle.wm_machine.specs.declared.state.State.{State}
use Rattle.wm_engine.specs.Calls.{IsOneStep, IsUntouched}
use Rattle.wm_engine.specs.declared.trouble.Trouble.{Trouble}
use Rattle.wm_engine.specs.declared.trouble.Trouble.TheVariants.{Memory}
use Rattle.wm_texts.specs.Texts.{event_text, last_text, log_text}
use Rattle.wm_worker.specs.declared.kind.Kind.{Kind}

-- ---- texts

pub log_text-append : (s : State) (events : List Event) (t : State) (more : List Event) → Replay s events t
    → log_text s (events ++ more) ≡ log_text s events ++ log_text t more
log_text-append s [] t more replays = ap (λ u. log_text u more) (sym replays)
log_text-append s (e ∷ events) t more replays =
    ap (λ rest. event_text s e (after s e) ++ rest) (log_text-append (after s e) events t more replays.1)
    ∙ sym (append_assoc (event_text s e (after s e)) (log_text (after s e) events) (log_text t more))

last_text-later : (first : State) (d : Event) (log : List Event) (e : Event)
    → last_text first (d ∷ (log ++ e ∷ [])) ≡ last_text (after first d) (log ++ e ∷ [])
last_text-later first d [] e = refl
last_text-later first d (c ∷ log) e = refl

-- the text of the event that a log is longer by
pub last_text-push : (first : State) (log : List Event) (last : State) (e : Event) → Replay first log last
    → last_text first (log ++ e ∷ []) ≡ log_text last (e ∷ [])
last_text-push first [] last e replays =
    ap (λ s. event_text s e (after s e)) (sym replays) ∙ sym (append-nil (event_text last e (after last e)))
last_text-push first (d ∷ log) last e replays = last_text-later first d log e ∙ last_text-push (after first d) log last e replays.1

no_text : (first : State) (log : List Event) → None ≡ last_of log → last_text first log ≡ []
no_text first [] none = refl
no_text first (e ∷ []) none = absurd (none-some e none)
no_text first (e ∷ later ∷ log) none = no_text (after first e) (later ∷ log) none

-- without an event there is nothing to tell
pub told-nothing : {K B : Type 0} (stand : StandState K B) → None ≡ last_of stand.table.log
    → stand ≡ record stand { text = stand.text ++ last_text stand.table.first stand.table.log }
told-nothing stand none =
    ap (λ (text : List ℕ). record stand { text = text }) (sym (append-nil stand.text))
    ∙ ap (λ (more : List ℕ). record stand { text = stand.text ++ more }) (sym (no_text stand.table.first stand.table.log none))

-- ---- one after another

module _ {K B : Type 0} where
  pub drained-nothing : (stand : StandState K B) → HasDrained stand stand
  drained-nothing stand = record {
    events = [];
    first = refl;
    appended = sym (append-nil stand.table.log);
    goes = goes-nothing stand.table.state;
    text = sym (append-nil stand.text);
  }

  pub drained-then : (old between new : StandState K B) → HasDrained old between → HasDrained between new → HasDrained old new
  drained-then old between new one other =
      let s = old.table.state in
      record {
        events = one.events ++ other.events;
        first = other.first ∙ one.first;
        appended = other.appended ∙ ap (λ (log : List Event). log ++ other.events) one.appended ∙ append_assoc old.table.log one.events other.events;
        goes = goes-then s between.table.state new.table.state one.events other.events one.goes other.goes;
        text = other.text ∙ ap (λ (text : List ℕ). text ++ log_text between.table.state other.events) one.text
            ∙ append_assoc old.text (log_text s one.events) (log_text between.table.state other.events)
            ∙ ap (λ (more : List ℕ). old.text ++ more) (sym (log_text-append s one.events between.table.state other.events one.goes.replay));
      }

  pub stopped-then : (kind_of : B → Kind) (trouble : Trouble) (old between new : StandState K B) → HasDrained old between
      → HasStopped kind_of trouble between new → HasStopped kind_of trouble old new
  stopped-then kind_of trouble old between new one other =
      let s = old.table.state in
      let told = other.told in
      record {
        events = one.events ++ other.events;
        more = log_text s one.events ++ other.more;
        first = other.first ∙ one.first;
        appended = other.appended ∙ ap (λ (log : List Event). log ++ other.events) one.appended ∙ append_assoc old.table.log one.events other.events;
        goes = goes-then s between.table.state new.table.state one.events other.events one.goes other.goes;
        text = other.text ∙ ap (λ (text : List ℕ). text ++ other.more) one.text ∙ append_assoc old.text (log_text s one.events) other.more;
        told = record {
          told = one.events ++ told.told;
          untold = told.untold;
          events_are = ap (λ (rest : List Event). one.events ++ rest) told.events_are ∙ sym (append_assoc one.events told.told told.untold);
          few = told.few;
          text_is = ap (λ (more : List ℕ). log_text s one.events ++ more) told.text_is
              ∙ sym (log_text-append s one.events between.table.state told.told one.goes.replay);
        };
        few_runs = other.few_runs;
        none_out = other.none_out;
        back = other.back;
      }

-- ---- one event

module _ {K B : Type 0} (store : K → Store) (old new : StandState K B) (e : Event) (replays : Replay old.table.first old.table.log old.table.state)
    (step : IsOneStep store e old.table new.table) (silent : command_in e ≡ []) (turn : IsInTurn old.table.state e) where
  goes-step : GoesAsDrain old.table.state (e ∷ []) new.table.state
  goes-step = subst (GoesAsDrain old.table.state (e ∷ [])) (sym step.state) (goes-one old.table.state e step.legal silent turn)

  last-step : last_text new.table.first new.table.log ≡ log_text old.table.state (e ∷ [])
  last-step =
      ap (λ first. last_text first new.table.log) step.first
      ∙ ap (last_text old.table.first) step.appended
      ∙ last_text-push old.table.first old.table.log old.table.state e replays

  -- it was told
  pub drained-step : new.text ≡ old.text ++ last_text new.table.first new.table.log → HasDrained old new
  drained-step text = record {
    events = e ∷ [];
    first = step.first;
    appended = step.appended;
    goes = goes-step;
    text = text ∙ ap (λ (more : List ℕ). old.text ++ more) last-step;
  }

  -- its text found no memory
  pub stopped-step : (kind_of : B → Kind) (trouble : Trouble) → trouble ≡ Memory → new.text ≡ old.text → length new.table.state.runs ≤ 1
      → new.table.roll ≡ [] → AreBack kind_of new.table new.places → HasStopped kind_of trouble old new
  stopped-step kind_of trouble memory text few none back = record {
    events = e ∷ [];
    more = [];
    first = step.first;
    appended = step.appended;
    goes = goes-step;
    text = text ∙ sym (append-nil old.text);
    told = record { told = []; untold = e ∷ []; events_are = refl; few = memory; text_is = refl };
    few_runs = few;
    none_out = none;
    back = back;
  }

-- no event was made
pub stopped-untouched : {K B : Type 0} (store : K → Store) (kind_of : B → Kind) {may : Event → Type 0} (trouble : Trouble) (old new : StandState K B)
    → IsUntouched store may old.table new.table → new.text ≡ old.text → length old.table.state.runs ≤ 1 → new.table.roll ≡ []
    → AreBack kind_of new.table new.places → HasStopped kind_of trouble old new
stopped-untouched store kind_of trouble old new same text few none back = record {
  events = [];
  more = [];
  first = same.first;
  appended = same.log ∙ sym (append-nil old.table.log);
  goes = subst (GoesAsDrain old.table.state []) (sym same.state) (goes-nothing old.table.state);
  text = text ∙ sym (append-nil old.text);
  told = record { told = []; untold = []; events_are = refl; few = tt; text_is = refl };
  few_runs = subst (λ (t : State). length t.runs ≤ 1) (sym same.state) few;
  none_out = none;
  back = back;
}
