-- What a line may ask to enqueue.
use Rattle.std.specs.Prelude.{ℕ, List}
use Rattle.std.specs.List.{AllByRecursion}
use Rattle.wm_request.specs.Batches.{IsBatch}
use Rattle.wm_request.specs.Requests.{IsRequest, IsShortText}
use Rattle.wm_request.specs.declared.request.Node.{Node}

-- the works of a batch, each within the limits of a request
pub record AreAsked (works : List Node) : Type 0 where
  pub batch : IsBatch works
  pub requests : AllByRecursion (λ node. IsRequest node.request) works

-- and under a unique name of 1 to 200 bytes
pub record AreAskedUnder (name : List ℕ) (works : List Node) : Type 0 where
  pub asked : AreAsked works
  pub name_is : IsShortText name
