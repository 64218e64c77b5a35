-- What stands under a key nests no deeper than the object.
use Rattle.std.proofs.Common.{◌≡◌, ℕ, ◌≤◌, List, Option, Some, None, IfSome, Ordering, Less, Equal, Greater, arith}
use Rattle.std.specs.Cmp.Lexicographic.{slice_cmp}
use Rattle.std.specs.Ordering.{match_ordering, nat_cmp}
use Rattle.serde_json.specs.Data as json
use Rattle.serde_json.specs.Data.{depth, members_depth}
use Rattle.serde_json.specs.Find.{get, get_member}

IsWithin : ℕ → json.Data → Type 0
IsWithin n d = depth d ≤ n

by_order : (n : ℕ) (order : Ordering) (one other : Option json.Data) → IfSome one (IsWithin n) → IfSome other (IsWithin n)
    → IfSome (match_ordering order one other one) (IsWithin n)
by_order n Less one other is are = is
by_order n Equal one other is are = are
by_order n Greater one other is are = is

weaker : (n m : ℕ) (found : Option json.Data) → n ≤ m → IfSome found (IsWithin n) → IfSome found (IsWithin m)
unfolding IsWithin
weaker n m None less is = tt
weaker n m (Some d) less is = omega arith

of_member : (key : List ℕ) (ms : json.Members) → IfSome (get_member key ms) (IsWithin (members_depth ms))
unfolding IsWithin
of_member key json.no_members = tt
of_member key (json.member name d ms) =
    by_order (members_depth (json.member name d ms)) (slice_cmp nat_cmp key name) (get_member key ms) (Some d)
    (weaker (members_depth ms) (members_depth (json.member name d ms)) (get_member key ms) (omega arith) (of_member key ms)) (omega arith)

within_get : (key : List ℕ) (d : json.Data) → IfSome (get key d) (IsWithin (depth d))
unfolding IsWithin
within_get key json.null = tt
within_get key (json.boolean b) = tt
within_get key (json.number n) = tt
within_get key (json.string s) = tt
within_get key (json.array ds) = tt
within_get key (json.object ms) =
    weaker (members_depth ms) (depth (json.object ms)) (get_member key ms) (omega arith) (of_member key ms)

pub depth_of_member : (key : List ℕ) (d e : json.Data) (n : ℕ) → get key d ≡ Some e → depth d ≤ n → depth e ≤ n
unfolding IsWithin
depth_of_member key d e n is within =
    let inner : depth e ≤ depth d = rw is at (within_get key d) in
    omega arith
