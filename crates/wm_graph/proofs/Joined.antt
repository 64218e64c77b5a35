-- Edges that are added one after another, and taken away.
use Rattle.std.proofs.Common.{◌≡◌, ℕ, ◌+◌, ◌<◌, ◌==◌, ◌||◌, ◌&&◌, Bool, true, false, not, cond, List, [], ◌∷◌, ◌++◌, length, take, drop, get_or, refl, sym, ap, ◌∙◌, arith}
use Rattle.std.proofs.lemmas.Bool.Decides.{nat_tests}
use Rattle.std.proofs.lemmas.List.{take-append-drop, take_more}
use Rattle.std.specs.List.{list_any}
use Rattle.std.specs.BTreeMap.{is_at}
use Rattle.std.proofs.lemmas.List.Folds.{list_any-append}
use Rattle.std.specs.Ordering.{is_eq}
use Rattle.std.specs.BTreeSet.{BTreeSet, Updates}
use Rattle.wm_collections.specs.Lists.{is_among}
use Rattle.wm_graph.specs.Edges.{edge_cmp, has_edge, AreJoined, AreParted, KeepsOthers, Edge}

pub same-edge : (number seq from to : ℕ) → is_eq (edge_cmp (number, seq) (from, to)) ≡ (to == seq && number == from)
same-edge number seq from to = grind (arith, nat_tests)

join-case : (o t a n new : Bool) → new ≡ cond (t && n) true (o || (t && a)) → new ≡ (o || (t && (a || (n || false))))
join-case true true a true new is = is
join-case true true a false new is = is
join-case true false a n new is = is
join-case false true true true new is = is
join-case false true true false new is = is
join-case false true false true new is = is
join-case false true false false new is = is
join-case false false a n new is = is

part-case : (o t a n new : Bool) → new ≡ cond (t && n) false (o && not (t && a)) → new ≡ (o && not (t && (a || (n || false))))
part-case true true true true new is = is
part-case true true true false new is = is
part-case true true false true new is = is
part-case true true false false new is = is
part-case true false a n new is = is
part-case false true true true new is = is
part-case false true true false new is = is
part-case false true false true new is = is
part-case false true false false new is = is
part-case false false a n new is = is

module _ (before : List ℕ) (i : ℕ) (within : i < length before) (seq : ℕ) (first old new : BTreeSet Edge) where
  abbrev number : ℕ
  number = get_or before i 0

  taken : take (i + 1) before ≡ take i before ++ number ∷ []
  taken = take_more before i 0 within

  pub joined-more : AreJoined (take i before) seq first old → Updates edge_cmp old new (number, seq) true → AreJoined (take (i + 1) before) seq first new
  joined-more joined updates from to =
      rw (taken, list_any-append)
      (join-case (has_edge first from to) (to == seq) (is_among (take i before) from) (number == from) (has_edge new from to)
      (updates.0 (from, to) ∙ ap (λ b. cond b true (has_edge old from to)) (same-edge number seq from to)
      ∙ ap (λ b. cond (to == seq && number == from) true b) (joined from to)))

  pub parted-more : AreParted (take i before) seq first old → Updates edge_cmp old new (number, seq) false → AreParted (take (i + 1) before) seq first new
  parted-more parted updates from to =
      rw (taken, list_any-append)
      (part-case (has_edge first from to) (to == seq) (is_among (take i before) from) (number == from) (has_edge new from to)
      (updates.0 (from, to) ∙ ap (λ b. cond b false (has_edge old from to)) (same-edge number seq from to)
      ∙ ap (λ b. cond (to == seq && number == from) false b) (parted from to)))

-- ---- where memory is refused half way

front-among : (before : List ℕ) (i from : ℕ) → is_among before from ≡ (is_among (take i before) from || is_among (drop i before) from)
front-among before i from = ap (λ list. is_among list from) (sym (take-append-drop i before)) ∙ list_any-append (λ one. one == from) (take i before) (drop i before)

other-case : (o t a d : Bool) → (t && (a || d)) ≡ false → (o || (t && a)) ≡ o
other-case true t a d none = refl
other-case false true true d none = none
other-case false true false d none = refl
other-case false false a d none = refl

pub joined-others : (before : List ℕ) (i seq : ℕ) (first old new : BTreeSet Edge) → AreJoined (take i before) seq first old → new.keys ≡ old.keys
    → KeepsOthers before seq first new
joined-others before i seq first old new joined same from to other =
    ap (λ keys. list_any (is_at (edge_cmp (from, to))) keys) same ∙ joined from to
    ∙ other-case (has_edge first from to) (to == seq) (is_among (take i before) from) (is_among (drop i before) from)
    (sym (ap (λ b. to == seq && b) (front-among before i from)) ∙ other)
