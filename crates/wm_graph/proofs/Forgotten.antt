-- How a node is taken out of the prerequisites of those right after it, one after another.
use Rattle.std.proofs.Common.{◌≡◌, ℕ, ◌==◌, ◌&&◌, Bool, true, false, not, cond, List, [], ◌∷◌, map, refl, sym, ap, subst, ◌∙◌, if◌then◌else◌, inl, inr}
use Rattle.std.proofs.lemmas.Bool.{cases_Bool, eqb-true}
use Rattle.std.specs.BTreeSet.{BTreeSet, Updates}
use Rattle.wm_collections.proofs.Lists.{All-any, map-same, map-twice}
use Rattle.wm_graph.proofs.Joined.{same-edge}
use Rattle.wm_graph.proofs.Tests.{both-is, both-not, eq-swap}
use Rattle.wm_graph.proofs.Walking.{stood}
use Rattle.wm_graph.specs.Edges.{edge_cmp, has_edge, AreNumbered, Edge, IsCutFrom, NoneAfter}
use Rattle.wm_graph.specs.Kept.{changed_at, changed_where, forgotten, forgotten_after, Kept}

-- an edge from the node that was taken away
abbrev pub gone : ℕ → BTreeSet Edge → BTreeSet Edge → ℕ → Bool
gone seq first edges number = has_edge first seq number && not (has_edge edges seq number)

-- half way: the edges from a node that are gone, and the nodes at their ends that have it as a prerequisite no more
pub record IsForgetting (seq : ℕ) (was_done : Bool) (first edges : BTreeSet Edge) (begun entries : List (ℕ × Kept)) : Type 0 where
  pub low : AreNumbered edges
  pub others : (from to : ℕ) → (from == seq) ≡ false → has_edge edges from to ≡ has_edge first from to
  pub fewer : (to : ℕ) → has_edge edges seq to ≡ true → has_edge first seq to ≡ true
  pub entries_are : entries ≡ map (changed_where (forgotten seq was_done) (gone seq first edges)) begun

unchanged : (change : Kept → Kept) (test : ℕ → Bool) → ((n : ℕ) → test n ≡ false) → (entries : List (ℕ × Kept)) → entries ≡ map (changed_where change test) entries
unchanged change test none [] = refl
unchanged change test none (entry ∷ entries) = rw (none entry.0) (ap (λ rest. entry ∷ rest) (unchanged change test none entries))

both-never : (b : Bool) → (b && not b) ≡ false
both-never true = refl
both-never false = refl

pub forgotten-none : (seq : ℕ) (was_done : Bool) (edges : BTreeSet Edge) (entries : List (ℕ × Kept)) → AreNumbered edges
    → IsForgetting seq was_done edges edges entries entries
forgotten-none seq was_done edges entries low = record {
  low = low;
  others = λ from to other. refl;
  fewer = λ to there. there;
  entries_are = unchanged (forgotten seq was_done) (gone seq edges edges) (λ n. both-never (has_edge edges seq n)) entries;
}

-- ---- one more

miss-first : (t q x : Bool) → t ≡ false → cond (t && q) false x ≡ x
miss-first true q x miss = absurd cc
miss-first false q x miss = refl

miss-second : (t q x : Bool) → q ≡ false → cond (t && q) false x ≡ x
miss-second true true x miss = absurd cc
miss-second false true x miss = absurd cc
miss-second true false x miss = refl
miss-second false false x miss = refl

one-entry : (change : Kept → Kept) (number : ℕ) (entry : ℕ × Kept) (b c later : Bool) → (entry.0 == number) ≡ c → (c ≡ true → b ≡ false) → (c ≡ true → later ≡ true)
    → (c ≡ false → later ≡ b)
    → (let changed : ℕ × Kept = if b then (entry.0, change entry.1) else entry in (if changed.0 == number then (changed.0, change changed.1) else changed))
    ≡ (if later then (entry.0, change entry.1) else entry)
one-entry change number entry true true later is apart will same = absurd (let h = apart refl in cc)
one-entry change number entry true false later is apart will same = rw (is, same refl) refl
one-entry change number entry false true later is apart will same = rw (is, will refl) refl
one-entry change number entry false false later is apart will same = rw (is, same refl) refl

and-both : (x y : Bool) → x ≡ true → y ≡ false → (x && not y) ≡ true
and-both true false one other = refl
and-both true true one other = absurd cc
and-both false y one other = absurd cc

module _ (seq : ℕ) (was_done : Bool) (first old new : BTreeSet Edge) (begun entries now : List (ℕ × Kept)) (number : ℕ)
    (so_far : IsForgetting seq was_done first old begun entries) (there : has_edge old seq number ≡ true) (updates : Updates edge_cmp old new (seq, number) false)
    (changed : now ≡ changed_at (forgotten seq was_done) number entries) where
  new-edge : (from to : ℕ) → has_edge new from to ≡ cond (to == number && seq == from) false (has_edge old from to)
  new-edge from to = updates.0 (from, to) ∙ ap (λ b. cond b false (has_edge old from to)) (same-edge seq number from to)

  was-there : (from to : ℕ) → has_edge new from to ≡ true → has_edge old from to ≡ true
  was-there from to has = stood (to == number && seq == from) (has_edge old from to) (sym (new-edge from to) ∙ has)

  each : (entry : ℕ × Kept)
      → (let changed : ℕ × Kept = changed_where (forgotten seq was_done) (gone seq first old) entry in
      (if changed.0 == number then (changed.0, forgotten seq was_done changed.1) else changed))
      ≡ changed_where (forgotten seq was_done) (gone seq first new) entry
  each entry =
      one-entry (forgotten seq was_done) number entry (gone seq first old entry.0) (entry.0 == number) (gone seq first new entry.0) refl
      (λ here. subst (λ n. gone seq first old n ≡ false) (sym (eqb-true entry.0 number here)) (both-not (has_edge old seq number) (has_edge first seq number) there))
      (λ here. subst (λ n. gone seq first new n ≡ true) (sym (eqb-true entry.0 number here))
      (and-both (has_edge first seq number) (has_edge new seq number) (so_far.fewer number there) updates.1))
      (λ other. ap (λ b. has_edge first seq entry.0 && not b)
      (new-edge seq entry.0 ∙ miss-first (entry.0 == number) (seq == seq) (has_edge old seq entry.0) other))

  pub forgotten-more : IsForgetting seq was_done first new begun now
  forgotten-more = record {
    low = λ from to has. so_far.low from to (was-there from to has);
    others = λ from to other. new-edge from to
        ∙ miss-second (to == number) (seq == from) (has_edge old from to) (eq-swap seq from ∙ other) ∙ so_far.others from to other;
    fewer = λ to has. so_far.fewer to (was-there seq to has);
    entries_are = changed ∙ ap (λ list. changed_at (forgotten seq was_done) number list) so_far.entries_are
        ∙ map-twice (changed_where (forgotten seq was_done) (gone seq first old)) (λ entry. if entry.0 == number then (entry.0, forgotten seq was_done entry.1) else entry) begun
        ∙ map-same _ _ begun (All-any begun each);
  }

-- ---- all of them

pub forgotten-all : (seq : ℕ) (was_done : Bool) (first edges : BTreeSet Edge) (begun entries : List (ℕ × Kept))
    → IsForgetting seq was_done first edges begun entries → NoneAfter edges seq → entries ≡ forgotten_after first seq was_done begun
forgotten-all seq was_done first edges begun entries is none =
    is.entries_are ∙ map-same _ _ begun (All-any begun (λ entry.
    ap (λ b. if b then (entry.0, forgotten seq was_done entry.1) else entry)
    (both-is (has_edge edges seq entry.0) (has_edge first seq entry.0) (none entry.0))))

pub cut-all : (seq : ℕ) (was_done : Bool) (first edges : BTreeSet Edge) (begun entries : List (ℕ × Kept))
    → IsForgetting seq was_done first edges begun entries → NoneAfter edges seq → IsCutFrom seq first edges
cut-all seq was_done first edges begun entries is none from to =
    elim (cases_Bool (from == seq)) as (λ _. has_edge edges from to ≡ (has_edge first from to && not (from == seq))) [
      | inl here ↦ subst (λ n. has_edge edges n to ≡ false) (sym (eqb-true from seq here)) (none to) ∙ sym (both-not (from == seq) (has_edge first from to) here)
      | inr other ↦ is.others from to other ∙ sym (both-is (from == seq) (has_edge first from to) other)
    ]
