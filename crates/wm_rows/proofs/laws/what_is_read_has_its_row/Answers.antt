use Rattle.std.proofs.Common.{◌≡◌, pos, sym, ap, inl, inr}
use Rattle.wm_keeper.specs.declared.row.Row.{Row}
use Rattle.wm_machine.specs.Rows.{row_of, IsRowOf}
use Rattle.wm_machine.specs.declared.record.Record.{Record}
use Rattle.wm_rows.proofs.RowsRead.{read_row-gives}
use Rattle.wm_rows.proofs.laws.what_is_read_has_its_row.Goals as goal

-- each row of a record is its row in the second form but for the version
second_form : (row : Row) (work : Record) → IsRowOf row work → row_of work ≡ record row { version = pos 2 }
second_form row work (inl same) = ap (λ (r : Row). record r { version = pos 2 }) (sym same)
second_form row work (inr same) = ap (λ (r : Row). record r { version = pos 2 }) (sym same.0)

pub returns-clause-row : goal.returns-clause-row
returns-clause-row c = λ row work is. (read_row-gives row work is).same

pub returns-clause-second : goal.returns-clause-second
returns-clause-second c = λ row work is. second_form row work (read_row-gives row work is).same

pub returns-clause-stored : goal.returns-clause-stored
returns-clause-stored c = λ row work is. (read_row-gives row work is).stored
