-- What the keeper, the sink and the workers of a run tell.
use Rattle.std.specs.Prelude.{ℕ, List, Option}
use Rattle.wm_keeper.specs.Store.{Store}
use Rattle.wm_worker.specs.declared.answer.Entry.{Entry}
use Rattle.wm_worker.specs.declared.kind.Kind.{Kind}

-- what a keeper shows; the bytes that a sink was given, where they are told, and how many faults it has met; and of which kind a worker is
-- and what it has written down
pub record Tells (K W B : Type 0) : Type 1 where
  pub store : K → Store
  pub given : W → Option (List ℕ)
  pub sink_faults : W → ℕ
  pub kind_of : B → Kind
  pub diary_of : B → Option (List Entry)

-- the same of the ghost members of the three
abbrev pub tells_of : {K W B : Type 0} → (K → Store) → (W → Option (List ℕ)) → (W → ℕ) → (B → Kind) → (B → Option (List Entry)) → Tells K W B
tells_of store given sink_faults kind_of diary_of = record {
  store = store;
  given = given;
  sink_faults = sink_faults;
  kind_of = kind_of;
  diary_of = diary_of;
}
