use Rattle.std.proofs.Common.{◌≡◌, ℕ, List, [], drop, nat_cmp, take}
use Rattle.std.specs.BTreeSet.{contains}
use Rattle.std.specs.Cmp.Lexicographic.{slice_cmp}
use Rattle.wm_chain.specs.Walk.{again}
use Rattle.wm_request.specs.Batches.{has_id}
use Rattle.wm_chain.proofs.batching.again.Given as goal

-- the ids so far are those seen, and what is found from here on is what is found
abbrev pub invariant-loop-id : goal.invariant-loop-id
invariant-loop-id l = record {
  seen : (id : List ℕ) → contains (slice_cmp nat_cmp) l.seen id ≡ has_id (take l.id-index l.ids) id;
  found : again (take l.id-index l.ids) (drop l.id-index l.ids) ≡ again [] l.ids;
}
