-- What a log with one event more tells of the diaries of a run's workers.
use Rattle.std.proofs.Common.{◌≡◌, ℕ, List, [], ◌∷◌, ◌++◌, sym, ◌∙◌, ap, append_assoc}
use Rattle.std.proofs.lemmas.List.{append-nil}
use Rattle.wm_machine.specs.Diaries.{event_lines, log_lines}
use Rattle.wm_machine.specs.Replay.{Replay}
use Rattle.wm_machine.specs.Step.{after}
use Rattle.wm_machine.specs.Types.{Event, State}

pub log_lines-push : (number : ℕ) (first : State) (log : List Event) (last : State) (e : Event) → Replay first log last
    → log_lines number first (log ++ e ∷ []) ≡ log_lines number first log ++ event_lines number last e
log_lines-push number first [] last e replays = append-nil (event_lines number first e) ∙ ap (λ s. event_lines number s e) (sym replays)
log_lines-push number first (d ∷ log) last e replays =
    ap (λ rest. event_lines number first d ++ rest) (log_lines-push number (after first d) log last e replays.1)
    ∙ sym (append_assoc (event_lines number first d) (log_lines number (after first d) log) (event_lines number last e))
