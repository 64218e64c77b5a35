-- What the works of a batch keep. After the guide's page "Chaining work", where a chain is of one-time work; that ids differ, and what is refused,
-- are this project's own choice.
use Rattle.std.specs.Prelude.{◌≡◌, ◌≢◌, ℕ, ◌≤◌, Bool, true, false, List, [], length, map, filter, is_some}
use Rattle.std.specs.List.{AllByRecursion, list_any}
use Rattle.std.specs.Str.{bytes_eq}
use Rattle.wm_collections.specs.Lists.{AllLater}
use Rattle.wm_request.specs.declared.request.Node.{Node}

-- works that are enqueued together
pub record BatchFields : Type 0 where
  pub works : List Node

abbrev pub has_id : List (List ℕ) → List ℕ → Bool
has_id ids id = list_any (λ one. bytes_eq one id) ids

abbrev pub is_periodic : Node → Bool
is_periodic node = is_some node.request.period

abbrev pub ids_of : List Node → List (List ℕ)
ids_of works = map (λ node. node.request.id) works

-- the ids of the periodic works among these
abbrev pub periodic_ids : List Node → List (List ℕ)
periodic_ids works = ids_of (filter is_periodic works)

abbrev pub AreDifferent : List (List ℕ) → Type 0
AreDifferent ids = AllLater (λ id later. id ≢ later) ids

-- a work names no id twice and no periodic work of the batch, and none at all where it is periodic itself
pub record IsChained (works : List Node) (node : Node) : Type 0 where
  pub different : AreDifferent node.after
  pub of_one_time : AllByRecursion (λ id. has_id (periodic_ids works) id ≡ false) node.after
  pub alone : is_periodic node ≡ true → node.after ≡ []

-- works with different ids, at least one, each after others as it may be
pub record IsBatch (works : List Node) : Type 0 where
  pub not_empty : 1 ≤ length works
  pub different : AreDifferent (ids_of works)
  pub each : AllByRecursion (IsChained works) works
