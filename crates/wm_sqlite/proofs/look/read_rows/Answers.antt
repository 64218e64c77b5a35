use Rattle.sqlite.specs.Held.{state}
use Rattle.std.proofs.Common.{sym, ◌∙◌, true≢false}
use Rattle.wm_sqlite.proofs.Rests.{open-clean}
use Rattle.wm_sqlite.proofs.Tellings.{alike-then, fallen-none, looked-alike, looked-known, looked-now, read-told, risen-held, spread-shown}
use Rattle.wm_sqlite.specs.Told.{looked_at, rows_told, told_of}
use Rattle.wm_sqlite.proofs.look.read_rows.Goals as goal

pub returns-clause-still : goal.returns-clause-still
returns-clause-still g c =
    let old = c.args.connection.now in
    let new = c.show_rows.new.connection in
    let standing = c.show_rows.new.standing in
    let first = c.in_ok-shown.shown.first.items in
    let second = c.in_ok-shown.shown.second.items in
    let rows = c.in_ok-rows.rows.items in
    let still = c.show_rows.ensures.still in
    let up_clean = open-clean _ _ (g.met.A.Store.shut_if_dirty new.store) in
    let do_ascend = rw c.as_slice.ensures.value at c.do_ascend.ensures in
    rw c.looked_at.ensures (record {
      knows = looked-known standing c.in_ok-shown.ensures.made c.do_ascend.result c.spread.result g.A.Store new still.knows (λ up_rows known up.
          let shows = c.in_ok-shown.ensures.shown (up_clean up) known up in
          risen-held first second rows c.in_ok-rows.ensures _ shows c.spread.result (spread-shown c.spread.result _ first second shows c.spread.ensures)
          (do_ascend.0 up_rows));
      alike = alike-then (told_of c.args.standing.now (state g.A.Store old) 0) (told_of standing (state g.A.Store new) 0)
          (told_of (looked_at c.do_ascend.result c.spread.result standing) (state g.A.Store new) 0) still.alike
          (looked-alike standing c.in_ok-shown.ensures.made c.do_ascend.result c.spread.result (state g.A.Store new) (λ fallen known up.
          fallen-none first second rows c.in_ok-rows.ensures _ (c.in_ok-shown.ensures.shown (up_clean up) known up)
          (λ ascends. true≢false (sym (do_ascend.1 ascends) ∙ fallen))));
      was_open = still.was_open;
    })

pub returns-clause-rows : goal.returns-clause-rows
returns-clause-rows g c clean =
    let first = c.in_ok-shown.shown.first.items in
    let second = c.in_ok-shown.shown.second.items in
    let rows = c.in_ok-rows.rows.items in
    read-told first second rows c.in_ok-rows.ensures (rows_told c.args.standing.now (state g.A.Store c.args.connection.now))
    (c.in_ok-shown.ensures.told clean)

pub returns-clause-looked : goal.returns-clause-looked
returns-clause-looked g c =
    rw c.looked_at.ensures (looked-now c.show_rows.new.standing c.in_ok-shown.ensures.made c.do_ascend.result c.spread.result)
