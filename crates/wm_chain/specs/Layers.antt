-- Layers of works. After the guide's page "Chaining work" and `androidx.work.WorkContinuation`; that a combined layer depends directly on the
-- last layers of its chains is this project's own choice.
use Rattle.std.specs.Prelude.{ℕ, List, [], ◌∷◌, ◌++◌, map}
use Rattle.std.specs.List.{flat_map}
use Rattle.wm_request.specs.Requests.{RequestFields}
use Rattle.wm_request.specs.declared.request.Node.{Node}

-- a chain: its works in order, and the ids of its last layer
pub record ContinuationFields : Type 0 where
  pub works : List Node
  pub last : List (List ℕ)

-- the chain before its first layer
abbrev pub no_layer : ContinuationFields
no_layer = record { works = []; last = [] }

abbrev pub request_ids : List RequestFields → List (List ℕ)
request_ids layer = map (λ request. request.id) layer

-- the work of a request, after these ids
abbrev pub node_after : List (List ℕ) → RequestFields → Node
node_after after request = record { request = request; after = after }

-- one layer more: each of its works is after every work of the layer before, in the order of that layer
abbrev pub layered : ContinuationFields → List RequestFields → ContinuationFields
layered chain layer = record { works = chain.works ++ map (node_after chain.last) layer; last = request_ids layer }

-- layers one after another at the end of a chain
abbrev pub chained : ContinuationFields → List (List RequestFields) → ContinuationFields
chained chain [] = chain
chained chain (layer ∷ layers) = chained (layered chain layer) layers

-- chains as one: their works in order, and their last layers in order as the last layer
abbrev pub combined : List ContinuationFields → ContinuationFields
combined parts = record { works = flat_map (λ part. part.works) parts; last = flat_map (λ part. part.last) parts }
