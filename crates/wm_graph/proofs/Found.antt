-- What a walk along the edges finds are the descendants, which are found along the prerequisites.
use Rattle.std.proofs.Common.{◌≡◌, ℕ, ◌+◌, ◌<◌, ◌==◌, ◌||◌, ◌&&◌, Bool, true, false, List, [], ◌∷◌, refl, sym, ap, subst, ◌∙◌, arith, inl, inr, suc, zero}
use Rattle.std.proofs.Math.Bool.{or-false}
use Rattle.wm_graph.proofs.Tests.{eq-swap}
use Rattle.std.specs.Prelude.{reverse}
use Rattle.std.specs.List.{AllByRecursion, list_any}
use Rattle.std.specs.BTreeSet.{BTreeSet}
use Rattle.std.proofs.lemmas.Bool.{and_parts, eq-eqb, eqb-true, false≢true, ne_eqb, or_cases, or_left, or_right}
use Rattle.wm_collections.specs.Lists.{is_among}
use Rattle.wm_collections.proofs.Ascending.{ascending-same}
use Rattle.wm_collections.proofs.Lists.{All-any, All-weaker, All-with2, All-with3, any_passes, list_any-agree, list_any-false, list_any-one, one_gives, HasOne-weaker}
use Rattle.wm_graph.proofs.Reaches.{descendants-are}
use Rattle.wm_graph.specs.Descendants.{AreDescendants, descendants, IsFoundRight}
use Rattle.wm_collections.specs.Sets.{has_number}
use Rattle.wm_graph.specs.Edges.{comes_after, has_edge, names, AreEdgesOf, BeginsAt, Edge, IsWalk}
use Rattle.wm_graph.specs.Nodes.{AreAscending, HasNode, IsGraph, NodeFields}

-- ---- there is one list of descendants

record IsRightInBoth (seqs one other : List ℕ) (node : NodeFields) : Type 0 where
  pub first : IsFoundRight seqs one node
  pub second : IsFoundRight seqs other node
  pub earlier : AllByRecursion (λ number. number < node.seq) node.before

-- a number that is among those found is that of a node
among_there : (nodes : List NodeFields) (found : List ℕ) (n : ℕ) → AllByRecursion (HasNode nodes) found → is_among found n ≡ true → HasNode nodes n
among_there nodes found n there has =
    one_gives found (λ one node here. subst (HasNode nodes) (eqb-true one n here) node) there (any_passes (λ one. one == n) found has)

no_node : (b : Bool) → (b ≡ true → ⊥) → b ≡ false
no_node true none = absurd (none refl)
no_node false none = refl

module _ (nodes : List NodeFields) (seqs one other : List ℕ) (graph : IsGraph nodes) (first : AreDescendants nodes seqs one)
    (second : AreDescendants nodes seqs other) where
  both : AllByRecursion (IsRightInBoth seqs one other) nodes
  both = All-with3 nodes (λ node is right right_other. record { first = right; second = right_other; earlier = is.earlier }) graph.each first.each second.each

  at_node : (n : ℕ) → ((m : ℕ) → m < n → is_among one m ≡ is_among other m) → (node : NodeFields) → IsRightInBoth seqs one other node
      → (node.seq == n) ≡ true → is_among one n ≡ is_among other n
  at_node n below node right here =
      let is = eqb-true node.seq n here in
      subst (λ m. is_among one m ≡ is_among other m) is
      (right.first
      ∙ ap (λ b. is_among seqs node.seq || b)
      (list_any-agree (is_among one) (is_among other) node.before
      (All-weaker node.before (λ m less. below m (subst (λ k. m < k) is less)) right.earlier))
      ∙ sym right.second)

  at_number : (n : ℕ) → ((m : ℕ) → m < n → is_among one m ≡ is_among other m) → (b : Bool) → list_any (λ node. node.seq == n) nodes ≡ b
      → is_among one n ≡ is_among other n
  at_number n below true has = one_gives nodes (at_node n below) both (any_passes (λ node. node.seq == n) nodes has)
  at_number n below false none =
      no_node (is_among one n) (λ has. false≢true (sym none ∙ among_there nodes one n first.there has))
      ∙ sym (no_node (is_among other n) (λ has. false≢true (sym none ∙ among_there nodes other n second.there has)))

  agree-below : (bound n : ℕ) → n < bound → is_among one n ≡ is_among other n
  agree-below zero n less = absurd (omega arith)
  agree-below (suc bound) n less =
      at_number n (λ m lower. agree-below bound m (omega arith)) (list_any (λ node. node.seq == n) nodes) refl

  pub one-list : one ≡ other
  one-list = ascending-same one other first.ascending second.ascending (λ n. agree-below (n + 1) n (omega arith))

-- ---- a walk finds them

stands : (all nodes : List NodeFields) → ((n : ℕ) → HasNode nodes n → HasNode all n) → AllByRecursion (λ node. HasNode all node.seq) nodes
stands all [] there = tt
stands all (node ∷ nodes) there = (
  there node.seq (or_left _ _ (eq-eqb node.seq node.seq refl)),
  stands all nodes (λ n has. there n (or_right _ _ has)),
)

any-or : {T : Type 0} (f g : T → Bool) (xs : List T) → list_any (λ x. f x || g x) xs ≡ (list_any f xs || list_any g xs)
any-or f g [] = refl
any-or f g (x ∷ xs) = let rest = any-or f g xs in grind (arith, rest)

any-none : {T : Type 0} (xs : List T) → list_any (λ x. false) xs ≡ false
any-none [] = refl
any-none (x ∷ xs) = any-none xs

pub any-swap : {T U : Type 0} (f : T → U → Bool) (xs : List T) (ys : List U) → list_any (λ x. list_any (λ y. f x y) ys) xs ≡ list_any (λ y. list_any (λ x. f x y) xs) ys
any-swap f [] ys = sym (any-none ys)
any-swap f (x ∷ xs) ys = ap (λ b. list_any (λ y. f x y) ys || b) (any-swap f xs ys) ∙ sym (any-or (λ y. f x y) (λ y. list_any (λ x. f x y) xs) ys)

among-swap : (xs ys : List ℕ) → list_any (λ x. is_among ys x) xs ≡ list_any (λ y. is_among xs y) ys
among-swap xs ys =
    any-swap (λ x y. y == x) xs ys
    ∙ list_any-agree _ _ ys (All-any ys (λ y. list_any-agree (λ x. y == x) (λ x. x == y) xs (All-any xs (λ x. eq-swap y x))))

-- the prerequisites of a node, by its number
abbrev KnownBy : List NodeFields → NodeFields → Type 0
KnownBy nodes node = (from : ℕ) → names nodes from node.seq ≡ is_among node.before from

pub names-none : (from number : ℕ) (nodes : List NodeFields) → AllByRecursion (λ node. number < node.seq) nodes → names nodes from number ≡ false
names-none from number nodes above =
    list_any-false (λ node. node.seq == number && is_among node.before from) nodes
    (All-weaker nodes (λ node less. let other : (node.seq == number) ≡ false = ne_eqb node.seq number (λ e. absurd (omega (arith, less, e))) in rw other refl) above)

pub names-known : (nodes : List NodeFields) → AreAscending nodes → AllByRecursion (KnownBy nodes) nodes
names-known [] ascending = tt
names-known (node ∷ nodes) ascending = (
  (λ from. rw (eq-eqb node.seq node.seq refl, names-none from node.seq nodes ascending.0) (or-false (is_among node.before from))),
  All-with2 nodes (λ other less known from. (let apart : (node.seq == other.seq) ≡ false = ne_eqb node.seq other.seq (λ e. absurd (omega (arith, less, e))) in
      rw apart (known from))) ascending.0 (names-known nodes ascending.1),
)

all-among : (P : ℕ → Type 0) (xs : List ℕ) → ((n : ℕ) → is_among xs n ≡ true → P n) → AllByRecursion P xs
all-among P [] each = tt
all-among P (x ∷ xs) each = (each x (or_left _ _ (eq-eqb x x refl)), all-among P xs (λ n has. each n (or_right _ _ has)))

module _ (nodes : List NodeFields) (edges : BTreeSet Edge) (starts : BTreeSet ℕ) (seqs found : List ℕ) (graph : IsGraph nodes)
    (are : AreEdgesOf nodes edges) (begins : BeginsAt nodes seqs starts) (walk : IsWalk edges starts found) where
  after-node : (node : NodeFields) → KnownBy nodes node → comes_after edges found node.seq ≡ list_any (is_among found) node.before
  after-node node known =
      list_any-agree (λ from. has_edge edges from node.seq) (λ from. is_among node.before from) found
      (All-any found (λ from. are from node.seq ∙ known from))
      ∙ among-swap found node.before

  and-true : (b c : Bool) → c ≡ true → (b && c) ≡ b
  and-true true c is = is
  and-true false c is = refl

  right : (node : NodeFields) → HasNode nodes node.seq → KnownBy nodes node → IsFoundRight seqs found node
  right node there known =
      walk.each node.seq
      ∙ ap (λ b. b || comes_after edges found node.seq) (begins node.seq ∙ and-true (is_among seqs node.seq) _ there)
      ∙ ap (λ b. is_among seqs node.seq || b) (after-node node known)

  node_there : AllByRecursion (λ node. HasNode nodes node.seq) nodes
  node_there = stands nodes nodes (λ n has. has)

  named_there : (from n : ℕ) → names nodes from n ≡ true → HasNode nodes n
  named_there from n named =
      list_any-one (λ node. node.seq == n) nodes
      (HasOne-weaker nodes (λ node is. (and_parts (node.seq == n) (is_among node.before from) is).0)
      (any_passes (λ node. node.seq == n && is_among node.before from) nodes named))

  found_there : (n : ℕ) → is_among found n ≡ true → HasNode nodes n
  found_there n has = elim (or_cases (has_number starts n) (comes_after edges found n) (sym (walk.each n) ∙ has)) as (λ _. HasNode nodes n) [
    | inl start ↦ (and_parts (is_among seqs n) (list_any (λ node. node.seq == n) nodes) (sym (begins n) ∙ start)).1
    | inr next ↦ one_gives found (λ from any is. named_there from n (sym (are from n) ∙ is)) (All-any {P = λ from. Unit {0}} found (λ from. tt))
        (any_passes (λ from. has_edge edges from n) found next)
  ]

  walk-descendants : AreDescendants nodes seqs found
  walk-descendants = record {
    ascending = walk.ascending;
    there = all-among (HasNode nodes) found found_there;
    each = All-with2 nodes right node_there (names-known nodes graph.ascending);
  }

  -- the list of a walk is that of the definition
  pub walk-is : found ≡ reverse (descendants seqs (reverse nodes))
  walk-is = one-list nodes seqs found (reverse (descendants seqs (reverse nodes))) graph walk-descendants (descendants-are seqs nodes graph)
