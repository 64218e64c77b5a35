-- How many works have no id, and what finds those that have one, after each change.
use Rattle.std.proofs.Common.{◌≡◌, ℕ, ◌+◌, ◌-◌, ◌<◌, ◌≤◌, ◌||◌, Bool, true, false, cond, List, [], length, is_none, refl, sym, ap, subst, ◌∙◌, arith, Option, Some, None, option_map, is_some, IfSome, Result, Ok, Err, IsOk, IfOk}
use Rattle.std.proofs.lemmas.Cmp.{nat_cmp_total}
use Rattle.std.proofs.lemmas.Map.{length-set_value}
use Rattle.std.proofs.lemmas.Map.Entries.{sum_by-insert_entry, sum_by-remove_entry, sum_by-set_value}
use Rattle.std.specs.BTreeMap.{insert_entry, is_at}
use Rattle.std.specs.List.Sorted.{IsStrictlySortedBy}
use Rattle.std.specs.Map.{keys_of, remove_entry, set_value}
use Rattle.std.specs.Option.{option_map_or, unwrap_or}
use Rattle.std.specs.Ordering.{nat_cmp}
use Rattle.std.specs.Prelude.{if◌then◌else◌}
use Rattle.std.specs.Str.{bytes_eq}
use Rattle.wm_index.specs.Entries.{has_unidentified, is_id}
use Rattle.wm_index.specs.Groups.{Ids, IsJoined, IsParted, Table}
use Rattle.wm_index.specs.Works.{at, entries_of, unidentified, with_id, AreAscending, AreFound, AreKnown, IsChanged, IsSetAt, Kept}
use Rattle.wm_index.proofs.Bools.{and-not, bytes-refl}
use Rattle.wm_index.proofs.Founds.{found-joined, found-parted, found-same}
use Rattle.wm_index.proofs.Lists.{at-any}
use Rattle.wm_index.proofs.Tables.{joined-none}

abbrev pub id_is : List ℕ → Kept → Bool
id_is id kept = is_id id kept.id

-- one where a work has no id
abbrev lack : Kept → ℕ
lack kept = cond (is_none kept.id) 1 0

one-lacks : (kept : Kept) → kept.id ≡ None → lack kept ≡ 1
one-lacks kept none = ap (λ id. cond (is_none id) 1 0) none

lack-or-known : (b : Bool) → cond b 1 0 + (if b then 0 else 1) ≡ 1
lack-or-known true = refl
lack-or-known false = refl

none-is : (own : Option (List ℕ)) → is_none own ≡ true → own ≡ None
none-is None is = refl
none-is (Some id) is = absurd cc

module _ (seq : ℕ) (works : List (ℕ × Kept)) where
  count-added : (kept : Kept) → IsStrictlySortedBy nat_cmp (keys_of works) → at works seq ≡ None
      → unidentified (insert_entry nat_cmp works seq kept) ≡ unidentified works + lack kept
  count-added kept sorted none =
      let sum = sum_by-insert_entry lack nat_cmp_total works seq kept sorted in
      let before : unwrap_or (option_map lack (at works seq)) 0 ≡ 0 = ap (λ found. unwrap_or (option_map lack found) 0) none in
      omega (arith, sum, before)

  module _ (kept : Kept) (found : at works seq ≡ Some kept) where
    count-set : (new : Kept) → unidentified (set_value (is_at (nat_cmp seq)) works new) + lack kept ≡ unidentified works + lack new
    count-set new = sum_by-set_value lack (is_at (nat_cmp seq)) works kept new found

    count-removed : unidentified (remove_entry (is_at (nat_cmp seq)) works) + lack kept ≡ unidentified works
    count-removed =
        let sum = sum_by-remove_entry lack (is_at (nat_cmp seq)) works in
        let before : unwrap_or (option_map lack (at works seq)) 0 ≡ lack kept = ap (λ found. unwrap_or (option_map lack found) 0) found in
        omega (arith, sum, before)

    -- one that has none by the list has none
    pub has-none : AreAscending (entries_of works) → has_unidentified (entries_of works) seq ≡ true → kept.id ≡ None
    has-none up there =
        let is : is_none kept.id ≡ true = ap (λ one. option_map_or (λ (kept : Kept). is_none kept.id) one false) (sym found)
        ∙ at-any (λ entry. is_none entry.id) seq works up ∙ there in
        none-is kept.id is

-- what finds a work by its id has it
pub own-known : (own : Option (List ℕ)) (table : Table) (seq : ℕ) → ((id : List ℕ) → table id seq ≡ is_id id own) → IfSome own (λ id. table id seq ≡ true)
own-known None table seq has = tt
own-known (Some id) table seq has = has id ∙ bytes-refl id

module _ (seq : ℕ) (kept : Kept) (old new : List (ℕ × Kept)) (ids : Ids) (known : AreKnown old ids) where
  -- ---- a work that isn't there yet

  pub known-added : (more : Ids) → at old seq ≡ None → kept.id ≡ None → IsSetAt seq (Some kept) old new → IsStrictlySortedBy nat_cmp (keys_of old)
      → new ≡ insert_entry nat_cmp old seq kept → length new ≡ length old + 1 → more.has ≡ ids.has → more.known ≡ ids.known → length old + 1 ≤ ids.known + more.room
      → AreKnown new more
  known-added more none lacks set sorted is longer same_has same_known room =
      let count = ap unidentified is ∙ count-added seq old kept sorted none in
      record {
        found = found-joined id_is seq (Some kept) old new ids.has more.has known.found set None (λ id. is_id id kept.id) none (λ text. refl)
            (subst (λ table. IsJoined (λ id. is_id id kept.id) seq ids.has table) (sym same_has) (joined-none (λ id. is_id id kept.id) seq ids.has (λ text. ap (is_id text) lacks)));
        counted = omega (arith, known.counted, count, one-lacks kept lacks, longer, same_known);
        room = omega (arith, known.counted, count, one-lacks kept lacks, room);
      }

  -- ---- a work that is there

  module _ (found : at old seq ≡ Some kept) where
    pub known-kept : (change : Kept → Kept) → IsChanged change seq old new → (change kept).id ≡ kept.id → AreKnown new ids
    known-kept change changed same =
        let is = changed.list kept found in
        let count = ap (λ works. unidentified works + lack kept) is ∙ count-set seq old kept found (change kept) in
        let alike : lack (change kept) ≡ lack kept = ap (λ id. cond (is_none id) 1 0) same in
        let long = ap length is ∙ length-set_value (is_at (nat_cmp seq)) old (change kept) in
        record {
          found = found-same id_is seq kept (change kept) old new ids.has known.found (changed.each kept found) found (λ text. ap (is_id text) same);
          counted = omega (arith, known.counted, count, alike, long);
          room = omega (arith, known.room, count, alike);
        }

    -- a work without an id has room
    pub has-room : kept.id ≡ None → 0 < ids.room
    has-room lacks = omega (arith, known.room, count-set seq old kept found (with_id [] kept), one-lacks kept lacks)

    pub known-identified : (id : List ℕ) (more : Ids) → kept.id ≡ None → IsChanged (with_id id) seq old new → IsJoined (bytes_eq id) seq ids.has more.has
        → more.known ≡ ids.known + 1 → ids.room ≤ more.room + 1 → AreKnown new more
    known-identified id more lacks changed joined one_more room =
        let is = changed.list kept found in
        let count = ap (λ works. unidentified works + lack kept) is ∙ count-set seq old kept found (with_id id kept) in
        let long = ap length is ∙ length-set_value (is_at (nat_cmp seq)) old (with_id id kept) in
        record {
          found = found-joined id_is seq (Some (with_id id kept)) old new ids.has more.has known.found (changed.each kept found) (Some kept) (bytes_eq id) found
              (λ text. sym (ap (λ own. is_id text own || bytes_eq id text) lacks)) joined;
          counted = omega (arith, known.counted, count, one-lacks kept lacks, long, one_more);
          room = omega (arith, known.room, count, one-lacks kept lacks, room);
        }

    pub known-removed : (less : Ids) → IsSetAt seq None old new → new ≡ remove_entry (is_at (nat_cmp seq)) old → length new + 1 ≡ length old
        → IsParted (λ id. is_id id kept.id) seq ids.has less.has → less.known + (if is_none kept.id then 0 else 1) ≡ ids.known → ids.room ≤ less.room → AreKnown new less
    known-removed less set is shorter parted fewer room =
        let count = ap (λ works. unidentified works + lack kept) is ∙ count-removed seq old kept found in
        record {
          found = found-parted id_is seq None old new ids.has less.has known.found set (Some kept) (λ id. is_id id kept.id) found (λ text. sym (and-not (is_id text kept.id))) parted;
          counted = omega (arith, known.counted, count, shorter, fewer, lack-or-known (is_none kept.id));
          room = omega (arith, known.room, count, room);
        }

-- more room changes nothing
pub known-roomier : (works : List (ℕ × Kept)) (ids more : Ids) → AreKnown works ids → more.has ≡ ids.has → more.known ≡ ids.known → ids.room ≤ more.room → AreKnown works more
known-roomier works ids more known same_has same_known room = record {
  found = subst (λ table. AreFound id_is works table) (sym same_has) known.found;
  counted = omega (arith, known.counted, same_known);
  room = omega (arith, known.room, room);
}

-- an insertion of what wasn't there makes the map longer by one
pub longer-by-one : {V E : Type 0} (r : Result (Option V) E) (found : Option V) (old new : ℕ) → found ≡ None → IsOk r → IfOk r (λ before. before ≡ found)
    → IfOk r (λ before. new ≡ old + (if is_some before then 0 else 1)) → new ≡ old + 1
longer-by-one (Ok before) found old new none fine was len = len ∙ ap (λ one. old + (if is_some one then 0 else 1)) (was ∙ none)
longer-by-one (Err e) found old new none fine was len = absurd cc

pub known-few : (works : List (ℕ × Kept)) (ids : Ids) → AreKnown works ids → ids.known ≤ length works
known-few works ids known = omega (arith, known.counted)

pub enough : (works known room : ℕ) → known ≤ works → works - known + 1 ≤ room → works + 1 ≤ known + room
enough works known room few reserved = omega (arith, few, reserved)
