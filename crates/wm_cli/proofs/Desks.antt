-- What the calls of a book make of its roll.
use Rattle.std.proofs.Common.{◌≡◌, ◌⊎◌, ap, inl, inr, Ok, Err}
use Rattle.std.specs.Prelude.{Result}
use Rattle.std.specs.declared.alloc.AllocError.{AllocError}
use Rattle.wm_bench.specs.Seat.{Seat}
use Rattle.wm_keeper.specs.Store.{Store}
use Rattle.wm_session.specs.Book.{IsFronted, IsReported}
use Rattle.wm_session.specs.BookState.{BookState}
use Rattle.wm_session.specs.declared.book.After.{After}
use Rattle.wm_session.specs.declared.book.After.TheVariants as after
use Rattle.wm_session.specs.declared.book.Front.{Front}
use Rattle.wm_session.specs.declared.book.Front.TheVariants as front
use Rattle.wm_engine.specs.TableState.{TicketState}
use Rattle.wm_worker.specs.Told.{Report}
use Rattle.wm_worker.specs.declared.kind.Kind.{Kind}

-- a line leaves it
pub roll-fronted : {K W B : Type 0} (store : K → Store) (kind_of : B → Kind) (answer : Front) (old new : BookState K W B)
    → IsFronted store kind_of answer old new → new.table.roll ≡ old.table.roll
roll-fronted store kind_of front.Moved old new moved = moved.line.roll
roll-fronted store kind_of front.NotSettled old new waits = ap (λ (book : BookState _ _ _). book.table.roll) waits.book_is
roll-fronted store kind_of front.Ended old new ended = ap (λ (book : BookState _ _ _). book.table.roll) ended.book_is
roll-fronted store kind_of front.Stopped old new stopped = elim stopped.how [ inl none ↦ none.roll | inr line ↦ line.roll ]

-- a run that goes on, or is asked again, has its worker, its instance and its number still
module _ {K W B : Type 0} (M : Type 0) (store : K → Store) (kind_of : B → Kind) (ticket next : TicketState) (seat kept : Seat B) (old new : BookState K W B) where
  abbrev Same : Type 0
  Same = (kept ≡ seat) × (next.instance ≡ ticket.instance) × (next.kind ≡ ticket.kind) × (next.task.run ≡ ticket.task.run)

  run-turned : (told : Result Report AllocError) → IsReported {M = M} store kind_of ticket seat told (after.Go next kept) old new → Same
  run-turned (Ok told) turned = (turned.seat_is, turned.instance, turned.kind, turned.turn.same_run)
  run-turned (Err refused) never = absurd never

  run-again : (told : Result Report AllocError) → IsReported {M = M} store kind_of ticket seat told (after.Again next kept) old new → Same
  run-again (Ok told) again = (
    again.seat_is,
    ap (λ (t : TicketState). t.instance) again.ticket_is,
    ap (λ (t : TicketState). t.kind) again.ticket_is,
    ap (λ (t : TicketState). t.task.run) again.ticket_is,
  )
  run-again (Err refused) never = absurd never

  pub run-kept : (told : Result Report AllocError) (answer : After B M) → IsReported store kind_of ticket seat told answer old new
      → (answer ≡ after.Go next kept) ⊎ (answer ≡ after.Again next kept) → Same
  run-kept told answer reported (inl goes) = run-turned told (rw goes at reported)
  run-kept told answer reported (inr again) = run-again told (rw again at reported)
