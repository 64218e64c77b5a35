use Rattle.wm_rows.proofs.RowsWritten.{read_row-written}
use Rattle.wm_rows.proofs.laws.a_record_is_read_from_its_row.Goals as goal

pub returns : goal.returns
returns c = read_row-written
