-- Lemmas on works and on layers, each of which has a work.
use Rattle.std.proofs.Common.{◌≡◌, ◌≤◌, List, length, Some, None, Result, Ok, Err, IfOk, refl}
use Rattle.std.specs.List.{AllByRecursion}
use Rattle.serde_json.specs.Data as json
use Rattle.wm_chain.specs.Layers.{chained, no_layer, ContinuationFields}
use Rattle.wm_chain.specs.Walk.{batched}
use Rattle.wm_chain.specs.Walk.{IsFaultOf as IsChainFaultOf}
use Rattle.wm_chain.specs.declared.fault.ChainFault.{ChainFault}
use Rattle.wm_chain.specs.declared.fault.ChainFault.TheVariants.{IdTwice, PeriodicInChain, Memory}
use Rattle.wm_request.specs.Requests.{RequestFields}
use Rattle.wm_script.proofs.PartsLemmas.{some_holds, AreSome}
use Rattle.wm_script.specs.Batches.{batch_in, layer_in, layers_in}
use Rattle.wm_script.specs.Parts.{IsFaultOf, of_chain, or_fault, some_in}
use Rattle.wm_script.specs.Requests.{request_in}
use Rattle.wm_script.specs.declared.parts.Unread.{Unread}

Any : RequestFields → Type 0
Any request = Unit {0}

any : (r : Result RequestFields Unread) → IfOk r Any
unfolding Any
any (Ok request) = tt
any (Err found) = tt

HasWork : List RequestFields → Type 0
HasWork layer = 1 ≤ length layer

has_work : (r : Result (List RequestFields) Unread) → IfOk r (AreSome Any) → IfOk r HasWork
unfolding HasWork
has_work (Ok layer) are = are.0
has_work (Err found) are = tt

HasWork-layer_in : (d : json.Data) → IfOk (layer_in d) HasWork
unfolding layer_in
HasWork-layer_in d = has_work (some_in request_in d) (some_holds Any request_in (λ e. any (request_in e)) d)

-- layers, each with a work
full_layers : (d : json.Data) (layers : List (List RequestFields)) → some_in layer_in d ≡ Ok layers
    → AllByRecursion (λ layer. 1 ≤ length layer) layers
unfolding HasWork
full_layers d layers is = (rw is at (some_holds HasWork layer_in HasWork-layer_in d)).1

pub full_read : (d : json.Data) (r : Result (List (List RequestFields)) Unread) → IfOk r (λ layers. some_in layer_in d ≡ Ok layers)
    → IfOk r (λ layers. AllByRecursion (λ layer. 1 ≤ length layer) layers)
full_read d (Ok layers) is = full_layers d layers is
full_read d (Err found) is = tt

-- ---- the fault of a chain

fault_of_chain : {T : Type 0} (answer : Result T ChainFault) (found : ChainFault) → IsChainFaultOf answer found
    → IsFaultOf (or_fault of_chain answer) (of_chain found)
fault_of_chain answer (IdTwice id) is = rw is refl
fault_of_chain answer (PeriodicInChain id) is = rw is refl
fault_of_chain answer Memory is = tt

pub fault_of_layers : (d : json.Data) (layers : List (List RequestFields)) (chain : ContinuationFields) (found : ChainFault) → layers_in d ≡ Ok layers
    → chain ≡ chained no_layer layers → IsChainFaultOf (batched chain.works) found → IsFaultOf (batch_in None (Some d)) (of_chain found)
unfolding batch_in
fault_of_layers d layers chain found read is fault = rw read (rw is at (fault_of_chain (batched chain.works) found fault))
