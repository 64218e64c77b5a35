-- What becomes of the roll of a book by a line, and by the report of its only run.
use Rattle.std.proofs.Common.{◌≡◌, ℕ, List, [], ◌∷◌, ◌++◌, cond, not, refl, ◌∙◌, ap, inl, inr}
use Rattle.std.proofs.lemmas.Bool.{eq-eqb}
use Rattle.wm_keeper.specs.Store.{Store}
use Rattle.wm_roll.specs.Parts.{without}
use Rattle.wm_roll.specs.declared.part.Part.{Part}
use Rattle.wm_session.specs.Book.{IsFronted}
use Rattle.wm_session.specs.BookState.{BookState}
use Rattle.wm_session.specs.declared.book.Front.{Front}
use Rattle.wm_session.specs.declared.book.Front.TheVariants as front
use Rattle.wm_engine.specs.Parts.{ticket_part}
use Rattle.wm_engine.specs.TableState.{TicketState}
use Rattle.wm_worker.specs.declared.kind.Kind.{Kind}

-- a line leaves it
pub front-roll : {K W B : Type 0} (store : K → Store) (kind_of : B → Kind) (answer : Front) (old new : BookState K W B)
    → IsFronted store kind_of answer old new → new.table.roll ≡ old.table.roll
front-roll {K} {W} {B} store kind_of front.Moved old new is = is.line.roll
front-roll {K} {W} {B} store kind_of front.NotSettled old new is = ap (λ (b : BookState K W B). b.table.roll) is.book_is
front-roll {K} {W} {B} store kind_of front.Ended old new is = ap (λ (b : BookState K W B). b.table.roll) is.book_is
front-roll {K} {W} {B} store kind_of front.Stopped old new is = elim is.how [ inl none ↦ none.roll | inr line ↦ line.roll ]

-- without the part of the only run it is empty
pub only-part : (ticket : TicketState) (roll : List Part) → roll ≡ [] ++ ticket_part ticket ∷ [] → without ticket.task.run roll ≡ []
only-part ticket roll is =
    let number = ticket.task.run in
    ap (without number) is ∙ ap (λ b. cond (not b) (ticket_part ticket ∷ []) []) (eq-eqb number number refl)
