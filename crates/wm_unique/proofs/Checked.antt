-- The records that a batch names are those that its checks ask for.
use Rattle.std.proofs.Common.{◌≡◌, ◌&&◌, ◌||◌, ℕ, ◌+◌, ◌^◌, Bool, true, false, not, cond, if◌then◌else◌, List, [], ◌∷◌, ◌++◌, filter, find, is_some, length, nat_lt, Option, Some, None, option_map, refl, sym, ◌∙◌, ap, inl, inr}
use Rattle.std.specs.List.{AllByRecursion, list_any}
use Rattle.std.specs.Str.{bytes_eq}
use Rattle.std.proofs.Math.Bool.{and-true}
use Rattle.std.proofs.lemmas.Bool.{cases_Bool, or_left, or_right, true≢false}
use Rattle.wm_collections.proofs.Lists.{All-any, All-stored, All-weaker, find-same, list_any-agree, list_any-filter, list_any-kept, list_any-stored}
use Rattle.wm_machine.proofs.Placings.{bytes_eq-refl, bytes_eq-same}
use Rattle.wm_machine.specs.Cancelled.{is_stored}
use Rattle.wm_machine.specs.Enqueued.{first_refusal, first_unknown, id_in_use, is_stored_periodic, no_such_prerequisite, numbers_spent, periodic_in_chain, refusal_of_placing, too_many_after, too_many_works, without}
use Rattle.wm_machine.specs.Plan.{Placing}
use Rattle.wm_collections.specs.Lists.{HasOne, is_among}
use Rattle.wm_request.specs.declared.request.Node.{Node}
use Rattle.wm_machine.specs.declared.record.Record.{Record}
use Rattle.wm_machine.specs.declared.reply.Refusal.{Refusal}
use Rattle.wm_machine.specs.declared.state.State.{State}
use Rattle.wm_machine.specs.declared.reply.Refusal.TheVariants as refusal
use Rattle.wm_request.specs.Batches.{has_id}
use Rattle.wm_unique.specs.Plans.{is_named_by, names_id}

-- ---- those that aren't let go

-- one passes that isn't let go
pub any_without : (test : Record → Bool) (numbers : List ℕ) (works : List Record)
    → list_any test (without numbers works) ≡ list_any (λ work. test work && not (is_among numbers work.seq)) works
any_without test [] works = list_any-agree test (λ work. test work && true) works (All-any works (λ work. sym (and-true (test work))))
any_without test (number ∷ numbers) works = list_any-kept test (λ work. not (is_among (number ∷ numbers) work.seq)) works

-- ---- what a batch names

-- a test passes nothing but a record of this id
abbrev IsOfId : List ℕ → (Record → Bool) → Type 0
IsOfId id test = (work : Record) → bytes_eq work.request.id id ≡ false → test work ≡ false

of_id : (b : Bool) (other : Bool) → b ≡ false → (b && other) ≡ false
of_id true other e = absurd (true≢false e)
of_id false other e = refl

unnamed_fails : (nodes : List Node) (id : List ℕ) (test : Record → Bool) (work : Record) → names_id nodes id ≡ true → IsOfId id test
    → is_named_by nodes work ≡ false → test work ≡ false
unnamed_fails nodes id test work named of not_named =
    elim (cases_Bool (bytes_eq work.request.id id)) [
      | inl e ↦ absurd (true≢false (sym named ∙ ap (names_id nodes) (sym (bytes_eq-same work.request.id id e)) ∙ not_named))
      | inr e ↦ of work e
    ]

-- of the records that a batch names the same passes as of all
any_named : (nodes : List Node) (works : List Record) (id : List ℕ) (test : Record → Bool) → names_id nodes id ≡ true → IsOfId id test
    → list_any test (filter (is_named_by nodes) works) ≡ list_any test works
any_named nodes works id test named of = list_any-filter test (is_named_by nodes) works (All-any works (λ work. unnamed_fails nodes id test work named of))

stored_named : (nodes : List Node) (works : List Record) (id : List ℕ) → names_id nodes id ≡ true
    → is_stored (filter (is_named_by nodes) works) id ≡ is_stored works id
stored_named nodes works id named = any_named nodes works id (λ work. bytes_eq work.request.id id) named (λ work e. e)

left_named : (nodes : List Node) (works : List Record) (numbers : List ℕ) (id : List ℕ) → names_id nodes id ≡ true
    → is_stored (without numbers (filter (is_named_by nodes) works)) id ≡ is_stored (without numbers works) id
left_named nodes works numbers id named =
    let test : Record → Bool = λ work. bytes_eq work.request.id id in
    let keep : Record → Bool = λ work. not (is_among numbers work.seq) in
    any_without test numbers (filter (is_named_by nodes) works)
    ∙ any_named nodes works id (λ work. test work && keep work) named (λ work e. of_id (test work) (keep work) e) ∙ sym (any_without test numbers works)

periodic_named : (nodes : List Node) (works : List Record) (id : List ℕ) → names_id nodes id ≡ true
    → is_stored_periodic (filter (is_named_by nodes) works) id ≡ is_stored_periodic works id
periodic_named nodes works id named =
    any_named nodes works id (λ work. bytes_eq work.request.id id && is_some work.request.period) named
    (λ work e. of_id (bytes_eq work.request.id id) (is_some work.request.period) e)

-- a batch names the id of a work, and those of the works that it comes after
record IsNamed (nodes : List Node) (node : Node) : Type 0 where
  own : names_id nodes node.request.id ≡ true
  after : AllByRecursion (λ id. names_id nodes id ≡ true) node.after

named_node : (nodes : List Node) (node : Node) → HasOne (λ other. other ≡ node) nodes → IsNamed nodes node
named_node nodes node one = record {
  own = list_any-stored (λ (n : Node). bytes_eq n.request.id node.request.id || has_id n.after node.request.id) nodes node one
      (or_left _ _ (bytes_eq-refl node.request.id));
  after = All-weaker node.after (λ id there. list_any-stored (λ (n : Node). bytes_eq n.request.id id || has_id n.after id) nodes node one
      (or_right _ _ (list_any-stored (λ other. bytes_eq other id) node.after id there (bytes_eq-refl id)))) (All-stored node.after);
}

named_each : (nodes : List Node) → AllByRecursion (IsNamed nodes) nodes
named_each nodes = All-weaker nodes (λ node one. named_node nodes node one) (All-stored nodes)

-- ---- the checks

used_first : (s : State) (b : Bool) (node : Node) (found : Option Node) (rest : Option Refusal)
    → option_map (λ (node : Node). refusal.IdInUse node.request.id) found ≡ rest
    → option_map (λ (node : Node). refusal.IdInUse node.request.id) (cond b (Some node) found) ≡ cond b (Some (refusal.IdInUse node.request.id)) rest
used_first s true node found rest e = refl
used_first s false node found rest e = e

used : (s : State) (nodes : List Node)
    → option_map (λ (node : Node). refusal.IdInUse node.request.id) (find (λ node. is_stored s.works node.request.id) nodes) ≡ id_in_use s nodes
used s [] = refl
used s (node ∷ nodes) =
    used_first s (is_stored s.works node.request.id) node (find (λ node. is_stored s.works node.request.id) nodes) (id_in_use s nodes) (used s nodes)

used_named : (all : List Node) (s : State) (nodes : List Node) → AllByRecursion (IsNamed all) nodes
    → option_map (λ (node : Node). refusal.IdInUse node.request.id)
    (find (λ node. is_stored (filter (is_named_by all) s.works) node.request.id) nodes) ≡ id_in_use s nodes
used_named all s nodes named =
    ap (option_map (λ (node : Node). refusal.IdInUse node.request.id))
    (find-same (λ (node : Node). is_stored (filter (is_named_by all) s.works) node.request.id) (λ node. is_stored s.works node.request.id) nodes
    (All-weaker nodes (λ node is. stored_named all s.works node.request.id is.own) named)) ∙ used s nodes

unknown_named : (all : List Node) (works : List Record) (numbers : List ℕ) (earlier ids : List (List ℕ)) → AllByRecursion (λ id. names_id all id ≡ true) ids
    → first_unknown (without numbers (filter (is_named_by all) works)) earlier ids ≡ first_unknown (without numbers works) earlier ids
unknown_named all works numbers earlier ids named =
    find-same (λ id. not (is_stored (without numbers (filter (is_named_by all) works)) id || has_id earlier id))
    (λ id. not (is_stored (without numbers works) id || has_id earlier id)) ids
    (All-weaker ids (λ id is. ap (λ b. not (b || has_id earlier id)) (left_named all works numbers id is)) named)

no_such_named : (all : List Node) (works : List Record) (numbers : List ℕ) (earlier : List (List ℕ)) (nodes : List Node) → AllByRecursion (IsNamed all) nodes
    → no_such_prerequisite (without numbers (filter (is_named_by all) works)) earlier nodes ≡ no_such_prerequisite (without numbers works) earlier nodes
no_such_named all works numbers earlier [] named = refl
no_such_named all works numbers earlier (node ∷ nodes) named =
    let later = earlier ++ node.request.id ∷ [] in
    ap (λ found. first_refusal (option_map refusal.NoSuchPrerequisite found
    ∷ no_such_prerequisite (without numbers (filter (is_named_by all) works)) later nodes ∷ []))
    (unknown_named all works numbers earlier node.after named.0.after)
    ∙ ap (λ rest. first_refusal (option_map refusal.NoSuchPrerequisite (first_unknown (without numbers works) earlier node.after) ∷ rest ∷ []))
    (no_such_named all works numbers later nodes named.1)

in_chain_named : (all : List Node) (works : List Record) (nodes : List Node) → AllByRecursion (IsNamed all) nodes
    → periodic_in_chain (filter (is_named_by all) works) nodes ≡ periodic_in_chain works nodes
in_chain_named all works [] named = refl
in_chain_named all works (node ∷ nodes) named =
    ap (λ found. first_refusal (option_map refusal.PeriodicInChain found ∷ periodic_in_chain (filter (is_named_by all) works) nodes ∷ []))
    (find-same (is_stored_periodic (filter (is_named_by all) works)) (is_stored_periodic works) node.after
    (All-weaker node.after (λ id is. periodic_named all works id is) named.0.after))
    ∙ ap (λ rest. first_refusal (option_map refusal.PeriodicInChain (find (is_stored_periodic works) node.after) ∷ rest ∷ []))
    (in_chain_named all works nodes named.1)

-- the checks of ids and prerequisites, over these records
abbrev pub refusal_over : List Record → Placing → List Node → Option Refusal
refusal_over works placing nodes = first_refusal
    (option_map (λ (node : Node). refusal.IdInUse node.request.id) (find (λ node. is_stored works node.request.id) nodes)
    ∷ no_such_prerequisite (without placing.let_go works) [] nodes ∷ periodic_in_chain works nodes ∷ too_many_after placing.after nodes ∷ [])

abbrev refusal_left : State → Placing → List Node → List (Option Refusal)
refusal_left s placing nodes =
    id_in_use s nodes ∷ no_such_prerequisite (without placing.let_go s.works) [] nodes ∷ periodic_in_chain s.works nodes ∷ too_many_after placing.after nodes
    ∷ []

over_named : (s : State) (placing : Placing) (nodes : List Node)
    → refusal_over (filter (is_named_by nodes) s.works) placing nodes ≡ first_refusal (refusal_left s placing nodes)
over_named s placing nodes =
    let named = filter (is_named_by nodes) s.works in
    let each = named_each nodes in
    let last = too_many_after placing.after nodes in
    ap (λ found. first_refusal (found ∷ no_such_prerequisite (without placing.let_go named) [] nodes ∷ periodic_in_chain named nodes ∷ last ∷ []))
    (used_named nodes s nodes each) ∙ ap (λ found. first_refusal (id_in_use s nodes ∷ found ∷ periodic_in_chain named nodes ∷ last ∷ []))
    (no_such_named nodes s.works placing.let_go [] nodes each) ∙ ap (λ found.
    first_refusal (id_in_use s nodes ∷ no_such_prerequisite (without placing.let_go s.works) [] nodes ∷ found ∷ last ∷ []))
    (in_chain_named nodes s.works nodes each)

-- the first of one refusal
first_refusal-one : (found : Option Refusal) → first_refusal (found ∷ []) ≡ found
first_refusal-one (Some found) = refl
first_refusal-one None = refl

joined : (one other : Option Refusal) (checks : List (Option Refusal))
    → first_refusal (one ∷ other ∷ first_refusal checks ∷ []) ≡ first_refusal (one ∷ other ∷ checks)
joined (Some found) other checks = refl
joined None (Some found) checks = refl
joined None None checks = first_refusal-one (first_refusal checks)

abbrev pub many_of : ℕ → List Node → Option Refusal
many_of count nodes = if nat_lt 100000 (count + length nodes) then Some (refusal.TooManyWorks count) else None

abbrev pub spent_of : ℕ → List Node → Option Refusal
spent_of next nodes = if nat_lt (2 ^ 53) (next + length nodes) then Some (refusal.NumbersSpent next) else None

-- the first check that refuses, over the records that the batch names
pub checked : (s : State) (works : List Record) (next : ℕ) (placing : Placing) (nodes : List Node) → s.works ≡ works → s.next ≡ next
    → first_refusal (many_of (length works) nodes ∷ spent_of next nodes ∷ refusal_over (filter (is_named_by nodes) works) placing nodes ∷ [])
    ≡ refusal_of_placing s placing nodes
checked s works next placing nodes is next_is =
    ap (λ (list : List Record).
    first_refusal (many_of (length list) nodes ∷ spent_of next nodes ∷ refusal_over (filter (is_named_by nodes) list) placing nodes ∷ [])) (sym is)
    ∙ ap (λ n. first_refusal (many_of (length s.works) nodes ∷ spent_of n nodes ∷ refusal_over (filter (is_named_by nodes) s.works) placing nodes ∷ []))
    (sym next_is) ∙ ap (λ rest. first_refusal (too_many_works s nodes ∷ numbers_spent s nodes ∷ rest ∷ [])) (over_named s placing nodes)
    ∙ joined (too_many_works s nodes) (numbers_spent s nodes) (refusal_left s placing nodes)

-- and where neither the count nor the next number refuses it
pub checked_last : (s : State) (works : List Record) (next : ℕ) (placing : Placing) (nodes : List Node) (last : Option Refusal)
    → s.works ≡ works → s.next ≡ next → None ≡ many_of (length works) nodes → None ≡ spent_of next nodes
    → last ≡ refusal_over (filter (is_named_by nodes) works) placing nodes → last ≡ refusal_of_placing s placing nodes
checked_last s works next placing nodes last is next_is many spent last_is =
    let over = refusal_over (filter (is_named_by nodes) works) placing nodes in
    last_is ∙ sym (first_refusal-one over) ∙ ap (λ found. first_refusal (found ∷ None ∷ over ∷ [])) many
    ∙ ap (λ found. first_refusal (many_of (length works) nodes ∷ found ∷ over ∷ [])) spent ∙ checked s works next placing nodes is next_is
