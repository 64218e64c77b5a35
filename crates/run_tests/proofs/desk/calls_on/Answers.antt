use Rattle.std.proofs.Common.{refl, sym, ap, ◌∙◌, inl, inr}
use Rattle.wm_seating.proofs.IdleTables.{idle-begun}
use Rattle.run_tests.proofs.desk.calls_on.Goals as goal

-- a keeper in memory tells its rows, as the mark has it, and no name before it was loaded
pub begin-requires-clause-given_store : goal.begin-requires-clause-given_store
begin-requires-clause-given_store g c = record {
  goes_on = record {
    rows = c.requires.store;
    images = λ image left. inr c.requires.store;
    keeps = record { rows = λ told. inl refl; lost = λ lost. sym c.requires.telling ∙ lost };
  };
  name = rw (ap (λ keeper. keeper.name) c.new-keeper.ensures) tt;
}
