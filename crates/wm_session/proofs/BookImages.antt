-- What a crash may leave of a book whose session goes on, stops or ends.
use Rattle.std.proofs.Common.{◌≡◌, ℕ, ◌+◌, List, [], ◌∷◌, ◌++◌, append_assoc, length, Option, Some, None, Result, Ok, Err, refl, sym, ◌∙◌, ap, subst, inl, inr, arith}
use Rattle.wm_session.proofs.Words.{AreNumberedFrom, AreNumberedFrom-push, Command, EndImages, EndsBy, Event, HasPrefix, IsLine, IsNoLine, LeavesOneMore, LeavesOnly, MayComeNext, State, Status, Stop, StopImages, Store, Trouble, WouldLeave, WriteFault, append-nil, commands_of, commands_of-push, status_by_stop, stop_by_fault, stop_by_trouble, ◌⊎◌}
use Rattle.wm_keeper.specs.declared.row.Row.{Row}
use Rattle.wm_machine.specs.Rows.{rows_of}
use Rattle.wm_session.proofs.BookEvents.{AreNumberedFrom-silent}
use Rattle.wm_machine.specs.declared.event.Event.TheVariants as event
use Rattle.wm_session.specs.declared.book.Stop.TheVariants as stop
use Rattle.wm_io.specs.declared.writing.WriteFault.TheVariants as fault
use Rattle.wm_engine.specs.declared.trouble.Trouble.TheVariants as trouble

-- ---- which event may come next

pub next-silent : (lines : List Command) (log : List Event) (e : Event) → HasPrefix lines (commands_of log) → AreNumberedFrom 1 log → IsNoLine e
    → MayComeNext lines log e
next-silent lines log e front numbered none =
    let done : commands_of (log ++ e ∷ []) ≡ commands_of log =
    commands_of-push log e ∙ ap (λ (more : List Command). commands_of log ++ more) none ∙ append-nil (commands_of log) in
    record {
      front = subst (HasPrefix lines) (sym done) front;
      numbered = AreNumberedFrom-silent 1 log e none numbered;
    }

pub next-line : (lines left : List Command) (log : List Event) (line : ℕ) (asked : Command) (e : Event) → lines ≡ commands_of log ++ asked ∷ left
    → AreNumberedFrom 1 log → line ≡ length (commands_of log) → IsLine (line + 1) asked e → MayComeNext lines log e
next-line lines left log line asked e are numbered at is =
    let number : line + 1 ≡ 1 + length (commands_of log) = omega (arith, at) in
    subst (MayComeNext lines log) (sym is.event_is) (record {
      front = (
        left,
        are ∙ sym (append_assoc (commands_of log) (asked ∷ []) left)
            ∙ ap (λ (done : List Command). done ++ left) (sym (commands_of-push log (event.Command (line + 1) asked is.reply))),
      );
      numbered = AreNumberedFrom-push 1 log (line + 1) asked is.reply numbered number;
    })

-- ---- a session that goes on or stops

module _ (lines : List Command) (s : State) (log : List Event) where
  -- what leaves the state's rows alone does so whatever the session stopped for
  pub images-only : (why : Option Stop) (store : Store) → LeavesOnly (rows_of s) store → StopImages why lines s log store
  images-only (Some stop.KeeperFault) store only = λ image left. inl (only image left)
  images-only (Some stop.SinkFault) store only = only
  images-only (Some stop.Memory) store only = λ image left. inl (only image left)
  images-only None store only = only

  -- while it goes on, the state's rows alone are left
  pub images-going : (why : Option Stop) (store : Store) → why ≡ None → StopImages why lines s log store → LeavesOnly (rows_of s) store
  images-going why store going images = subst (λ w. StopImages w lines s log store) going images

  -- the table had trouble, while an event that may come next may have been being committed
  pub images-refused : (why : Trouble) (may : Event → Type 0) (before now : Store) → ((e : Event) → may e → MayComeNext lines log e)
      → LeavesOnly (rows_of s) before → ((image : List Row) → now.images image → before.images image ⊎ WouldLeave may s image)
      → StopImages (Some (stop_by_trouble why)) lines s log now
  images-refused why may before now next only images =
      let more : LeavesOneMore lines s log now =
      λ image left. elim (images image left) [
        | inl old ↦ inl (only image old)
        | inr would ↦ inr (record { e = would.e; is = next would.e would.is; legal = would.legal; rows = would.rows })
      ] in
      elim why as (λ why. StopImages (Some (stop_by_trouble why)) lines s log now) [
        | trouble.KeeperFault ↦ more
        | trouble.Memory ↦ more
      ]

  -- ---- a session that ends

  -- as the session had stopped
  images-stopped : (why : Stop) (store : Store) → StopImages (Some why) lines s log store → EndImages (status_by_stop why) lines s log store
  images-stopped stop.KeeperFault store images = images
  images-stopped stop.SinkFault store images = images
  images-stopped stop.Memory store images = images

  -- or where its last write was refused
  images-unwritten : (why : WriteFault) (store : Store) → LeavesOnly (rows_of s) store → EndImages (status_by_stop (stop_by_fault why)) lines s log store
  images-unwritten fault.Failed store only = only
  images-unwritten fault.Memory store only = λ image left. inl (only image left)

  pub images-ended : (why : Option Stop) (written : Result (Unit {0}) WriteFault) (ended : Status) (store : Store) → EndsBy why written ended
      → StopImages why lines s log store → EndImages ended lines s log store
  images-ended (Some why) written ended store ends images =
      subst (λ status. EndImages status lines s log store) (sym ends.stopped) (images-stopped why store images)
  images-ended None (Ok value) ended store ends images = subst (λ status. EndImages status lines s log store) (sym (ends.done refl)) images
  images-ended None (Err why) ended store ends images =
      subst (λ status. EndImages status lines s log store) (sym (ends.refused refl)) (images-unwritten why store images)
