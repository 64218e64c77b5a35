use Rattle.std.proofs.Common.{refl, sym, ◌∙◌, inl, inr}
use Rattle.own_worker.proofs.photos.begin.Goals as goal

-- a keeper in memory tells its rows, as the mark has it
pub begin-requires-clause-given_store : goal.begin-requires-clause-given_store
begin-requires-clause-given_store g c = record {
  goes_on = record {
    rows = c.requires.store;
    images = λ image left. inr c.requires.store;
    keeps = record { rows = λ told. inl refl; lost = λ lost. sym c.requires.telling ∙ lost };
  };
  name = tt;
}
