-- What a contract sees of a book.
use Rattle.std.specs.Prelude.{ℕ, List, Option}
use Rattle.wm_bench.specs.declared.place.Place.{Place}
use Rattle.wm_machine.specs.declared.command.Command.{Command}
use Rattle.wm_engine.specs.TableState.{TableState}
use Rattle.wm_io.specs.Pending.{PendingState}
use Rattle.wm_session.specs.declared.book.Stop.{Stop}

-- the table, the places of the bench, the lines that are left and how many were executed, what is still to be written, the sink, and
-- why the session ended, where it ended early
pub record BookState (K W B : Type 0) : Type 0 where
  pub table : TableState K
  pub places : List (Place B)
  pub left : List Command
  pub line : ℕ
  pub pending : PendingState
  pub sink : W
  pub status : Option Stop
