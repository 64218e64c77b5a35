use Rattle.std.proofs.Common.{ℕ, List, ◌++◌, sym, ap, ◌∙◌}
use Rattle.wm_live.proofs.DrainSteps.{told-nothing}
use Rattle.wm_live.specs.StandState.{StandState}
use Rattle.wm_texts.proofs.LogTexts.{last_text-is}
use Rattle.wm_live.proofs.stand.Stand.tell.Goals as goal

-- there is no event
pub returns-in_default-clause-ok : goal.returns-in_default-clause-ok
returns-in_default-clause-ok g c =
    let i = c.self.inside in
    let stand : StandState g.row.K.Denot g.row.B.Denot = record { table = i.table; places = i.bench; text = i.text.items } in
    rw (← c.self.view_is) (told-nothing stand c.in_default.ensures.last)

pub returns-clause-ok : goal.returns-clause-ok
returns-clause-ok g c =
    let i = c.self.inside in
    let table = i.table in
    let last = c.in-Some.ensures in
    let event = c.in-Some.event.now in
    let told = rw (c.last_notes.ensures, c.hushed.ensures) at c.in_ok-text.ensures in
    let its = told ∙ sym (last_text-is table.first table.log table.state event last.replay (sym last.last)) in
    let text = c.in_ok-extend_from_slice.ensures.items ∙ ap (λ (more : List ℕ). i.text.items ++ more) (c.deref.ensures.value ∙ its) in
    rw (← c.self.view_is)
    (ap (λ (text : List ℕ). let stand : StandState g.row.K.Denot g.row.B.Denot = record { table = table; places = i.bench; text = text } in stand) text)
