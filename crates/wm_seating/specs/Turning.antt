-- What a worker has written down once it took a turn.
use Rattle.std.specs.Prelude.{◌≡◌, List, Option, Result, Ok, Err}
use Rattle.std.specs.declared.alloc.AllocError.{AllocError}
use Rattle.wm_engine.specs.TableState.{TicketState}
use Rattle.wm_worker.specs.Diary.{diary_with, turn_entries}
use Rattle.wm_worker.specs.Told.{Report}
use Rattle.wm_worker.specs.declared.answer.Entry.{Entry}

-- what a worker has written down once it has told this, or was refused memory
abbrev pub HasWritten : {B : Type 0} → (B → Option (List Entry)) → TicketState → B → B → Result Report AllocError → Type 0
HasWritten diary_of ticket worker now (Ok told) = diary_of now ≡ diary_with (turn_entries ticket.task.run ticket.k told.answer) (diary_of worker)
HasWritten diary_of ticket worker now (Err refused) = diary_of now ≡ diary_of worker
