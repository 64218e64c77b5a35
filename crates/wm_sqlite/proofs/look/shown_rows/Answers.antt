use Rattle.std.proofs.Common.{IsPermutation, subst}
use Rattle.wm_sqlite.proofs.look.shown_rows.Goals as goal

pub returns : goal.returns
returns c =
    let read = c.in_ok-rows.ensures in
    let first = c.as_slice.ensures.value in
    let second = c.as_slice-2.ensures.value in
    record {
      permutes = subst (λ all. IsPermutation all c.in_ok-by_number.field-0.items) (rw (first, second) at read.rows) c.in_ok-by_number.ensures.rows;
      ascend = rw (read.rows, first, second) at c.in_ok-by_number.ensures.ascending;
      first_numbered = rw first at read.first;
      second_numbered = rw second at read.second;
    }
