-- The text of a log with one event more, and that of its last event.
use Rattle.std.proofs.Common.{◌≡◌, List, [], ◌∷◌, ◌++◌, Some, refl, sym, ◌∙◌, ap, append_assoc}
use Rattle.std.proofs.lemmas.List.{append-nil}
use Rattle.std.proofs.lemmas.Option.{same_Some}
use Rattle.wm_collections.specs.Lists.{last_of}
use Rattle.wm_machine.specs.Replay.{Replay}
use Rattle.wm_machine.specs.Step.{after}
use Rattle.wm_machine.specs.declared.event.Event.{Event}
use Rattle.wm_machine.specs.declared.state.State.{State}
use Rattle.wm_observe.specs.Notes.{last_notes}
use Rattle.wm_texts.specs.Texts.{event_text, last_text, log_text, text_of}

pub log_text-push : (first : State) (log : List Event) (last : State) (e : Event) → Replay first log last
    → log_text first (log ++ e ∷ []) ≡ log_text first log ++ event_text last e (after last e)
log_text-push first [] last e replays = append-nil (event_text first e (after first e)) ∙ ap (λ s. event_text s e (after s e)) (sym replays)
log_text-push first (d ∷ log) last e replays =
    ap (λ rest. event_text first d (after first d) ++ rest) (log_text-push (after first d) log last e replays.1)
    ∙ sym (append_assoc (event_text first d (after first d)) (log_text (after first d) log) (event_text last e (after last e)))

-- ---- the last event

last_text-later : (first : State) (d : Event) (log : List Event) (e : Event)
    → last_text first (d ∷ (log ++ e ∷ [])) ≡ last_text (after first d) (log ++ e ∷ [])
last_text-later first d [] e = refl
last_text-later first d (c ∷ log) e = refl

pub log_text-last : (first : State) (log : List Event) (e : Event) → log_text first (log ++ e ∷ []) ≡ log_text first log ++ last_text first (log ++ e ∷ [])
log_text-last first [] e = append-nil (event_text first e (after first e))
log_text-last first (d ∷ log) e =
    let text = event_text first d (after first d) in
    let before = log_text (after first d) log in
    ap (λ rest. text ++ rest) (log_text-last (after first d) log e)
    ∙ sym (append_assoc text before (last_text (after first d) (log ++ e ∷ [])))
    ∙ ap (λ rest. (text ++ before) ++ rest) (sym (last_text-later first d log e))

-- it is that of the event, with what the observers are told of it
pub last_text-is : (first : State) (log : List Event) (last : State) (e : Event) → Replay first log last → last_of log ≡ Some e
    → last_text first log ≡ text_of e (last_notes first log) last.hushed
last_text-is first [] last e replays is = absurd cc
last_text-is first (d ∷ []) last e replays is =
    let same : d ≡ e = same_Some d e is in
    let ends : last ≡ after first d = replays.1 in
    rw (ends, sym same) refl
last_text-is first (d ∷ c ∷ log) last e replays is = last_text-is (after first d) (c ∷ log) last e replays.1 is
