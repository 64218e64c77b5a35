-- What is kept, with its tables, after each change.
use Rattle.std.proofs.Common.{◌≡◌, ◌≤◌, ℕ, ◌&&◌, Bool, true, false, not, cond, List, refl, sym, ap, ◌∙◌, Some, None}
use Rattle.std.proofs.lemmas.List.Folds.{list_any-append}
use Rattle.std.specs.BTreeMap.{is_at, BTreeMap, WritesThrough}
use Rattle.std.specs.List.Sorted.{IsStrictlySortedBy}
use Rattle.std.specs.Map.{keys_of, set_value}
use Rattle.std.specs.Option.{option_map_or}
use Rattle.std.specs.Ordering.{is_eq, nat_cmp}
use Rattle.std.specs.Str.{bytes_eq}
use Rattle.wm_index.specs.Entries.{changed_at, has_tag, is_name, Entry}
use Rattle.wm_index.specs.Groups.{Ids, IsJoined, IsParted, KeepsOthers, Table}
use Rattle.wm_index.specs.Works.{at, entries_of, entry_of, keeping, nameless, with_id, with_tags, AreAscending, AreKnown, IsChanged, IsKept, IsSetAt, Kept}
use Rattle.wm_index.proofs.Founds.{found-joined, found-parted, found-restored, found-same, taken-back, tags-kept}
use Rattle.wm_index.proofs.Known.{known-kept, known-roomier}
use Rattle.wm_index.proofs.Lists.{set-changed, sorted-ascends}
use Rattle.wm_index.proofs.Bools.{and-not}

abbrev pub name_is : List ℕ → Kept → Bool
name_is name kept = is_name name kept.name

abbrev pub tag_is : List ℕ → Kept → Bool
tag_is tag kept = has_tag kept.tags tag

-- the list after a change of one work
pub changed-list : (change : Kept → Kept) (seq : ℕ) (kept : Kept) (old new : List (ℕ × Kept)) (then_is : Entry → Entry)
    → entry_of (seq, change kept) ≡ then_is (entry_of (seq, kept)) → AreAscending (entries_of old) → at old seq ≡ Some kept → IsChanged change seq old new
    → entries_of new ≡ changed_at then_is seq (entries_of old)
changed-list change seq kept old new then_is is up found changed =
    ap entries_of (changed.list kept found) ∙ set-changed seq then_is kept (change kept) is old up found

module _ (seq : ℕ) (old new : List (ℕ × Kept)) (ids : Ids) (names tags : Table) (is : IsKept old ids names tags) where
  -- ---- a work that is there

  module _ (kept : Kept) (found : at old seq ≡ Some kept) where
    pub unnamed-kept : (left : Table) → IsChanged nameless seq old new → IsParted (λ name. is_name name kept.name) seq names left → IsKept new ids left tags
    unnamed-kept left changed parted =
        let set = changed.each kept found in
        record {
          ascending = changed.ascending;
          ids_are = known-kept seq kept old new ids is.ids_are found nameless changed refl;
          names_are = found-parted name_is seq (Some (nameless kept)) old new names left is.names_are set (Some kept) (λ name. is_name name kept.name) found
              (λ text. sym (and-not (is_name text kept.name))) parted;
          tags_are = found-same tag_is seq kept (nameless kept) old new tags is.tags_are set found (λ text. refl);
        }

    pub tagged-kept : (more : List (List ℕ)) (joined : Table) → IsChanged (with_tags more) seq old new → IsJoined (has_tag more) seq tags joined → IsKept new ids names joined
    tagged-kept more joined changed is_joined =
        let set = changed.each kept found in
        record {
          ascending = changed.ascending;
          ids_are = known-kept seq kept old new ids is.ids_are found (with_tags more) changed refl;
          names_are = found-same name_is seq kept (with_tags more kept) old new names is.names_are set found (λ text. refl);
          tags_are = found-joined tag_is seq (Some (with_tags more kept)) old new tags joined is.tags_are set (Some kept) (has_tag more) found
              (λ text. list_any-append (λ own. bytes_eq own text) kept.tags more) is_joined;
        }

    pub untagged-kept : (others : List (List ℕ)) (left : Table) → IsChanged (keeping others) seq old new
        → IsParted (λ tag. has_tag kept.tags tag && not (has_tag others tag)) seq tags left → IsKept new ids names left
    untagged-kept others left changed parted =
        let set = changed.each kept found in
        record {
          ascending = changed.ascending;
          ids_are = known-kept seq kept old new ids is.ids_are found (keeping others) changed refl;
          names_are = found-same name_is seq kept (keeping others kept) old new names is.names_are set found (λ text. refl);
          tags_are = found-parted tag_is seq (Some (keeping others kept)) old new tags left is.tags_are set (Some kept)
              (λ tag. has_tag kept.tags tag && not (has_tag others tag)) found (λ text. tags-kept others kept.tags text) parted;
        }

    -- tags that had begun to come are taken back
    pub untouched-kept : (more : List (List ℕ)) (mid left : Table) → ((text : List ℕ) → has_tag more text ≡ true → has_tag kept.tags text ≡ false)
        → KeepsOthers (has_tag more) seq tags mid → IsParted (has_tag more) seq mid left → IsKept old ids names left
    untouched-kept more mid left others keeps parted = record {
      ascending = is.ascending;
      ids_are = is.ids_are;
      names_are = is.names_are;
      tags_are = found-restored tag_is old tags left is.tags_are (taken-back (has_tag more) seq tags mid left keeps parted
          (λ text has. is.tags_are text seq ∙ ap (λ found. option_map_or (tag_is text) found false) found ∙ others text has));
    }

    -- an id comes
    pub identified-kept : (id : List ℕ) (more : Ids) → IsChanged (with_id id) seq old new → AreKnown new more → IsKept new more names tags
    identified-kept id more changed known =
        let set = changed.each kept found in
        record {
          ascending = changed.ascending;
          ids_are = known;
          names_are = found-same name_is seq kept (with_id id kept) old new names is.names_are set found (λ text. refl);
          tags_are = found-same tag_is seq kept (with_id id kept) old new tags is.tags_are set found (λ text. refl);
        }

    pub removed-kept : (some_ids : Ids) (some_names some_tags : Table) → AreAscending (entries_of new) → IsSetAt seq None old new
        → AreKnown new some_ids → IsParted (λ name. is_name name kept.name) seq names some_names → IsParted (has_tag kept.tags) seq tags some_tags
        → IsKept new some_ids some_names some_tags
    removed-kept some_ids some_names some_tags up set known parted_names parted_tags = record {
      ascending = up;
      ids_are = known;
      names_are = found-parted name_is seq None old new names some_names is.names_are set (Some kept) (λ name. is_name name kept.name) found
          (λ text. sym (and-not (is_name text kept.name))) parted_names;
      tags_are = found-parted tag_is seq None old new tags some_tags is.tags_are set (Some kept) (has_tag kept.tags) found
          (λ text. sym (and-not (has_tag kept.tags text))) parted_tags;
    }

  -- ---- a work that isn't there

  module _ (kept : Kept) (none : at old seq ≡ None) where
    pub added-kept : (more_ids : Ids) (more_names more_tags : Table) → AreAscending (entries_of new) → IsSetAt seq (Some kept) old new
        → AreKnown new more_ids → IsJoined (λ name. is_name name kept.name) seq names more_names → IsJoined (has_tag kept.tags) seq tags more_tags
        → IsKept new more_ids more_names more_tags
    added-kept more_ids more_names more_tags up set known joined_names joined_tags = record {
      ascending = up;
      ids_are = known;
      names_are = found-joined name_is seq (Some kept) old new names more_names is.names_are set None (λ name. is_name name kept.name) none (λ text. refl) joined_names;
      tags_are = found-joined tag_is seq (Some kept) old new tags more_tags is.tags_are set None (has_tag kept.tags) none (λ text. refl) joined_tags;
    }

    -- what had begun to come is taken back
    pub undone : (more : Ids) (mid_names left_names mid_tags left_tags : Table) → AreKnown old more → KeepsOthers (λ name. is_name name kept.name) seq names mid_names
        → IsParted (λ name. is_name name kept.name) seq mid_names left_names → KeepsOthers (has_tag kept.tags) seq tags mid_tags
        → IsParted (has_tag kept.tags) seq mid_tags left_tags → IsKept old more left_names left_tags
    undone more mid_names left_names mid_tags left_tags known keeps_names parted_names keeps_tags parted_tags = record {
      ascending = is.ascending;
      ids_are = known;
      names_are = found-restored name_is old names left_names is.names_are (taken-back (λ name. is_name name kept.name) seq names mid_names left_names keeps_names parted_names
          (λ text has. is.names_are text seq ∙ ap (λ found. option_map_or (name_is text) found false) none));
      tags_are = found-restored tag_is old tags left_tags is.tags_are (taken-back (has_tag kept.tags) seq tags mid_tags left_tags keeps_tags parted_tags
          (λ text has. is.tags_are text seq ∙ ap (λ found. option_map_or (tag_is text) found false) none));
    }

-- more room for ids changes nothing
pub with-ids : (works : List (ℕ × Kept)) (ids more : Ids) (names tags : Table) → IsKept works ids names tags → more.has ≡ ids.has → more.known ≡ ids.known
    → ids.room ≤ more.room → IsKept works more names tags
with-ids works ids more names tags is same_has same_known room = record {
  ascending = is.ascending;
  ids_are = known-roomier works ids more is.ids_are same_has same_known room;
  names_are = is.names_are;
  tags_are = is.tags_are;
}

-- ---- what a write through a reference leaves

some-same : (one other : Kept) → Some one ≡ Some other → one ≡ other
some-same one other same = cc

none-some : (kept : Kept) → None ≡ Some kept → ⊥
none-some kept same = absurd cc

pub changed-from : (change : Kept → Kept) (seq : ℕ) (kept value : Kept) (old new : BTreeMap ℕ Kept) → at old.entries seq ≡ Some kept → value ≡ change kept
    → WritesThrough nat_cmp (nat_cmp seq) old value new → IsChanged change seq old.entries new.entries
changed-from change seq kept value old new found is writes =
    let same : (other : Kept) → at old.entries seq ≡ Some other → value ≡ change other =
    λ other also. is ∙ ap change (some-same kept other (sym found ∙ also)) in
    record {
      ascending = sorted-ascends new.entries writes.4;
      list = λ other also. writes.0 ∙ ap (λ value. set_value (is_at (nat_cmp seq)) old.entries value) (same other also);
      each = λ other also q. (writes.3 (rw found refl)).0 q ∙ ap (λ value. cond (is_eq (nat_cmp seq q)) (Some value) (at old.entries q)) (same other also);
    }

pub none-changes : (change : Kept → Kept) (seq : ℕ) (works : BTreeMap ℕ Kept) → at works.entries seq ≡ None → IsStrictlySortedBy nat_cmp (keys_of works.entries)
    → IsChanged change seq works.entries works.entries
none-changes change seq works none sorted = record {
  ascending = sorted-ascends works.entries sorted;
  list = λ kept also. absurd (none-some kept (sym none ∙ also));
  each = λ kept also q. absurd (none-some kept (sym none ∙ also));
}
