-- Which rows are held.
use Rattle.std.specs.Prelude.{◌≡◌, IfSome}
use Rattle.wm_keeper.specs.Store.{Store}
use Rattle.wm_machine.specs.Rows.{rows_of}
use Rattle.wm_machine.specs.declared.state.State.{State}

-- where the keeper tells its rows, they are those of the state
abbrev pub HoldsRowsOf : State → Store → Type 0
HoldsRowsOf s store = IfSome store.rows (λ rows. rows ≡ rows_of s)
