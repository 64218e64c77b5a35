-- Works without a fault are a batch.
use Rattle.std.proofs.Common.{◌≡◌, ◌≢◌, ℕ, ◌≤◌, ◌==◌, Bool, true, false, not, ◌||◌, ◌&&◌, cond, eqb, List, [], ◌∷◌, ◌++◌, length, find, Option, Some, None, refl, sym, ap, ◌∙◌, arith}
use Rattle.std.specs.List.{AllByRecursion}
use Rattle.std.specs.Str.{bytes_eq}
use Rattle.std.proofs.lemmas.Bool.{cond_both, false≢true, ne_eqb, or_parts}
use Rattle.std.proofs.lemmas.Cmp.{nat_list_eq_equiv}
use Rattle.std.proofs.lemmas.List.Folds.{list_any-append}
use Rattle.wm_collections.proofs.Lists.{find-none, option_map-none}
use Rattle.wm_chain.specs.Walk.{after_periodic, again, fault_from, fault_in, fault_of, first_fault, id_twice, named_twice, periodic_after}
use Rattle.wm_chain.specs.declared.fault.ChainFault.{ChainFault}
use Rattle.wm_chain.specs.declared.fault.ChainFault.TheVariants as fault
use Rattle.wm_request.specs.Batches.{AreDifferent, has_id, ids_of, IsBatch, IsChained, is_periodic, periodic_ids}
use Rattle.wm_request.specs.declared.request.Node.{Node}

-- ---- ids that don't stand twice

apart : (one other : List ℕ) → bytes_eq one other ≡ false → one ≢ other
apart one other e same = false≢true (sym e ∙ ap (bytes_eq one) (sym same) ∙ nat_list_eq_equiv.refl one)

-- no id of these is among those
abbrev NoneOf : List (List ℕ) → List (List ℕ) → Type 0
NoneOf seen ids = AllByRecursion (λ id. has_id seen id ≡ false) ids

-- ids that aren't among some and one more differ from that one, and aren't among the others
apart-each : (seen : List (List ℕ)) (id : List ℕ) (ids : List (List ℕ)) → NoneOf (seen ++ id ∷ []) ids
    → AllByRecursion (λ later. id ≢ later) ids × NoneOf seen ids
apart-each seen id [] none = (tt, tt)
apart-each seen id (later ∷ ids) none =
    let rest = apart-each seen id ids none.1 in
    let parts = or_parts (has_id seen later) (bytes_eq id later || false) (sym (list_any-append (λ one. bytes_eq one later) seen (id ∷ [])) ∙ none.0) in
    let other = or_parts (bytes_eq id later) false parts.1 in
    ((apart id later other.0, rest.0), (parts.0, rest.1))

abbrev AreNew : List (List ℕ) → List (List ℕ) → Type 0
AreNew seen ids = AreDifferent ids × NoneOf seen ids

pub again-none : (seen ids : List (List ℕ)) → again seen ids ≡ None → AreNew seen ids
again-none seen [] none = (tt, tt)
again-none seen (id ∷ ids) none =
    cond_both (has_id seen id) (Some id) (again (seen ++ id ∷ []) ids) (λ (found : Option (List ℕ)). found ≡ None → AreNew seen (id ∷ ids))
    (λ e is. absurd (cc)) (λ e is.
    let rest = again-none (seen ++ id ∷ []) ids is in
    let each = apart-each seen id ids rest.1 in
    ((each.0, rest.0), (e, each.1))) none

-- ---- a work without a fault

first-none : (found : Option ChainFault) (later : List (Option ChainFault)) → first_fault (found ∷ later) ≡ None → (found ≡ None) × (first_fault later ≡ None)
first-none (Some fault) later none = absurd (cc)
first-none None later none = (refl, none)

if-none : {T : Type 0} (b : Bool) (x : T) → cond b (Some x) None ≡ None → b ≡ false
if-none true x none = absurd (cc)
if-none false x none = refl

no_length : {T : Type 0} (xs : List T) → not (length xs == 0) ≡ false → xs ≡ []
no_length [] e = refl
no_length (x ∷ xs) e =
    let some : eqb (length (x ∷ xs)) 0 ≡ false = ne_eqb (length (x ∷ xs)) 0 (λ is. omega arith) in
    absurd (false≢true (sym e ∙ ap not some))

and-second : (a b : Bool) → (a && b) ≡ false → a ≡ true → b ≡ false
and-second true b e h = e
and-second false b e h = absurd (cc)

fault_of-none : (works : List Node) (before : List (List ℕ)) (work : Node) → fault_of (periodic_ids works) before work ≡ None
    → (has_id before work.request.id ≡ false) × IsChained works work
fault_of-none works before work none =
    let own = first-none (id_twice before work) (named_twice work ∷ periodic_after work ∷ after_periodic (periodic_ids works) work ∷ []) none in
    let named = first-none (named_twice work) (periodic_after work ∷ after_periodic (periodic_ids works) work ∷ []) own.1 in
    let after = first-none (periodic_after work) (after_periodic (periodic_ids works) work ∷ []) named.1 in
    let one = first-none (after_periodic (periodic_ids works) work) [] after.1 in (
      if-none (has_id before work.request.id) (fault.IdTwice work.request.id) own.0,
      record {
        different = (again-none [] work.after (option_map-none fault.IdTwice (again [] work.after) named.0)).0;
        of_one_time = find-none (has_id (periodic_ids works)) work.after (option_map-none fault.PeriodicInChain (find (has_id (periodic_ids works)) work.after)
            one.0);
        alone = λ periodic. no_length work.after (and-second (is_periodic work) (not (length work.after == 0))
            (if-none (is_periodic work && not (length work.after == 0)) (fault.PeriodicInChain work.request.id) after.0) periodic);
      },
    )

-- ---- works without a fault

fault_from-none : (all : List Node) (before : List (List ℕ)) (works : List Node) → fault_from (periodic_ids all) before works ≡ None
    → (again before (ids_of works) ≡ None) × AllByRecursion (IsChained all) works
fault_from-none all before [] none = (refl, tt)
fault_from-none all before (work ∷ works) none =
    let here = first-none (fault_of (periodic_ids all) before work) (fault_from (periodic_ids all) (before ++ work.request.id ∷ []) works ∷ []) none in
    let later = first-none (fault_from (periodic_ids all) (before ++ work.request.id ∷ []) works) [] here.1 in
    let rest = fault_from-none all (before ++ work.request.id ∷ []) works later.0 in
    let own = fault_of-none all before work here.0 in
    (rw (own.0) rest.0, (own.1, rest.1))

pub IsBatch-sound : (works : List Node) → 1 ≤ length works → fault_in works ≡ None → IsBatch works
IsBatch-sound works some none =
    let parts = fault_from-none works [] works none in
    record {
      not_empty = some;
      different = (again-none [] (ids_of works) parts.0).0;
      each = parts.1;
    }
