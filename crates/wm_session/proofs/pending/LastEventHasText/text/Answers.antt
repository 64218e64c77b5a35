use Rattle.std.proofs.Common.{◌≡◌, List, [], ◌∷◌, None, refl, sym, ◌∙◌}
use Rattle.wm_session.proofs.Words.{Event, State, after, last_of, last_text, last_text-is, none-some}
use Rattle.wm_session.proofs.pending.LastEventHasText.text.Goals as goal

-- without an event there is no text
no_text : (first : State) (log : List Event) → None ≡ last_of log → last_text first log ≡ []
no_text first [] none = refl
no_text first (e ∷ []) none = absurd (none-some e none)
no_text first (e ∷ later ∷ log) none = no_text (after first e) (later ∷ log) none

pub returns-in-Some : goal.returns-in-Some
returns-in-Some g c =
    let table = c.args.self.now.table.now in
    let event = c.in-Some.event.now in
    let told = rw (c.last_notes.ensures, c.hushed.ensures) at c.event_text.ensures in
    rw (last_text-is table.first table.log table.state event c.in-Some.ensures.replay (sym c.in-Some.ensures.last)) told

pub returns-in-None : goal.returns-in-None
returns-in-None g c =
    let table = c.args.self.now.table.now in
    c.new.ensures.items ∙ sym (no_text table.first table.log c.in-None.ensures.last)
