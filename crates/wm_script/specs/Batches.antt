-- The batch that the works of an enqueue are. The grammar is this project's own choice.
use Rattle.std.specs.Prelude.{ℕ, ◌+◌, Bool, List, [], ◌∷◌, length, nat_le, if◌then◌else◌, Option, Some, None, option_map, unwrap_or, Result, Err}
use Rattle.serde_json.specs.Data as json
use Rattle.serde_json.specs.Find.{as_array}
use Rattle.wm_chain.specs.Layers.{chained, no_layer}
use Rattle.wm_chain.specs.Walk.{batched}
use Rattle.wm_data.specs.DataRead.{item_list}
use Rattle.wm_request.specs.Batches.{BatchFields}
use Rattle.wm_request.specs.Requests.{RequestFields}
use Rattle.wm_request.specs.declared.request.Node.{Node}
use Rattle.wm_script.specs.Parts.{◌>>=◌, of_chain, or_fault, some_in}
use Rattle.wm_script.specs.Requests.{node_in, request_in}
use Rattle.wm_script.specs.declared.parts.Unread.{Unread}
use Rattle.wm_script.specs.declared.parts.Unread.TheVariants.{Form}

-- ---- works, each after those that it names

-- a list of 1 to 1,000 works
unfoldable pub works_in : json.Data → Result (List Node) Unread
works_in d = some_in node_in d

-- ---- layers, each after the one before

-- a layer: a list of 1 to 1,000 works without the key `after`
unfoldable pub layer_in : json.Data → Result (List RequestFields) Unread
layer_in d = some_in request_in d

-- how many items a list has; none where it is no list
abbrev pub count_in : json.Data → ℕ
count_in d = unwrap_or (option_map (λ items. length (item_list items)) (as_array d)) 0

-- how many items lists have together
abbrev pub total : List json.Data → ℕ
total [] = 0
total (layer ∷ layers) = count_in layer + total layers

-- whether the lists of a list have at most 1,000 items together
unfoldable pub are_few : json.Data → Bool
are_few d = nat_le (unwrap_or (option_map (λ items. total (item_list items)) (as_array d)) 0) 1000

-- a list of 1 to 1,000 layers, of at most 1,000 works together
unfoldable pub layers_in : json.Data → Result (List (List RequestFields)) Unread
layers_in d = if are_few d then some_in layer_in d else Err Form

-- ---- the batch

-- exactly one of the two
unfoldable pub batch_in : Option json.Data → Option json.Data → Result BatchFields Unread
batch_in (Some works) None = do
  nodes ← works_in works
  or_fault of_chain (batched nodes)
batch_in None (Some layers) = do
  layers ← layers_in layers
  or_fault of_chain (batched (chained no_layer layers).works)
batch_in _ _ = Err Form
