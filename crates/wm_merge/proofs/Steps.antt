-- What one entry more does to what has grown, as the definitions say it.
use Rattle.std.proofs.Common.{◌≡◌, ℕ, Bool, true, false, ◌||◌, List, [], ◌∷◌, ◌++◌, map, filter, find, Option, None, Some, is_some, option_map, nat_cmp, is_eq, refl, sym, ap, ◌∙◌, subst, append-nil, true≢false}
use Rattle.std.proofs.lemmas.Cmp.{nat_list_cmp_total, tied_itself}
use Rattle.std.proofs.lemmas.List.{map-append}
use Rattle.std.proofs.lemmas.List.Elements.{filter-append}
use Rattle.std.proofs.lemmas.List.Sums.{fold_push}
use Rattle.std.specs.Cmp.Lexicographic.{slice_cmp}
use Rattle.std.specs.List.{AllByRecursion}
use Rattle.wm_collections.proofs.Lists.{All-unmap, find-fails}
use Rattle.wm_collections.specs.Lists.{AscendByBytes}
use Rattle.wm_data.specs.Entries.{is_at, with_entry}
use Rattle.wm_data.specs.declared.data.DataEntry.{DataEntry}
use Rattle.wm_data.specs.declared.merger.Merger.{Merger}
use Rattle.wm_data.specs.declared.value.Value.{Value}
use Rattle.wm_data.proofs.Places.{keys}
use Rattle.wm_data.proofs.Puts.{ascend_with_entry}
use Rattle.wm_merge.specs.Growing.{differs, first_value, grown_beside, grown_with, next_value, noted, nothing_grown, Grown}
use Rattle.wm_merge.specs.Inputs.{entry_of, keys_of, values_of, with_key}
use Rattle.wm_merge.proofs.KeyOrder.{find-with_entry, find-with_key, key_at, keys-with_entry, IsChanged}
use Rattle.wm_merge.proofs.Values.{conflict, conflict-few, conflict-next, merged_value, merged_value-first, merged_value-next, merged_value-none, merged_value-nothing}

-- ---- the values of a key

values_of-same : (key : List ℕ) (done : List DataEntry) (entry : DataEntry) → is_at key entry ≡ true
    → values_of key (done ++ entry ∷ []) ≡ values_of key done ++ entry.value ∷ []
values_of-same key done entry e =
    ap (map (λ x. x.value)) (filter-append (is_at key) done (entry ∷ []) ∙ rw e refl) ∙ map-append (λ x. x.value) (filter (is_at key) done) (entry ∷ [])

values_of-other : (key : List ℕ) (done : List DataEntry) (entry : DataEntry) → is_at key entry ≡ false → values_of key (done ++ entry ∷ []) ≡ values_of key done
values_of-other key done entry e = ap (map (λ x. x.value)) (filter-append (is_at key) done (entry ∷ []) ∙ rw e (append-nil (filter (is_at key) done)))

entry_of-none : (key : List ℕ) (o : Option Value) → entry_of key o ≡ None → o ≡ None
entry_of-none key None e = refl
entry_of-none key (Some v) e = absurd (true≢false (ap is_some e))

entry_of-some : (key : List ℕ) (o : Option Value) (entry : DataEntry) → entry_of key o ≡ Some entry → o ≡ Some entry.value
entry_of-some key None entry e = absurd (true≢false (sym (ap is_some e)))
entry_of-some key (Some v) entry e = ap (option_map (λ x. x.value)) e

-- ---- what has grown

-- the least key whose values are a conflict
abbrev pub first_conflict : Merger → List DataEntry → Option (List ℕ)
first_conflict how done = find (λ key. conflict how (values_of key done)) (keys_of done)

-- the entries stand in order, under each key is what its values become, and the least conflict is noted
pub record IsMerging (how : Merger) (done : List DataEntry) (grown : Grown) : Type 0 where
  pub ascending : AscendByBytes (keys grown.entries)
  pub keys_are : keys grown.entries ≡ keys_of done
  pub found : (key : List ℕ) → find (is_at key) grown.entries ≡ entry_of key (merged_value how (values_of key done))
  pub noted : grown.conflict ≡ first_conflict how done

-- an entry under the key of one more, and what is found then
found_more : (how : Merger) (done : List DataEntry) (grown : Grown) (entry : DataEntry) (v : Value) → IsMerging how done grown
    → merged_value how (values_of entry.key (done ++ entry ∷ [])) ≡ Some v → (key : List ℕ) (b : Bool) → is_at key entry ≡ b
    → find (is_at key) (with_entry (record { key = entry.key; value = v }) grown.entries) ≡ entry_of key (merged_value how (values_of key (done ++ entry ∷ [])))
found_more how done grown entry v is value key true e =
    find-with_entry key (record { key = entry.key; value = v }) grown.entries
    ∙ rw e (subst (λ k. Some (record { key = entry.key; value = v }) ≡ entry_of k (merged_value how (values_of k (done ++ entry ∷ [])))) (key_at key entry e)
    (sym (ap (entry_of entry.key) value)))
found_more how done grown entry v is value key false e =
    find-with_entry key (record { key = entry.key; value = v }) grown.entries ∙ rw e (is.found key)
    ∙ ap (λ values. entry_of key (merged_value how values)) (sym (values_of-other key done entry e))

keys_of-more : (done : List DataEntry) (entry : DataEntry) → keys_of (done ++ entry ∷ []) ≡ with_key entry.key (keys_of done)
keys_of-more done entry = fold_push (λ ks e. with_key e.key ks) [] done entry

-- one more, where its conflict is told
more : (how : Merger) (done : List DataEntry) (grown : Grown) (entry : DataEntry) (v : Value) (mixed : Bool) → IsMerging how done grown
    → merged_value how (values_of entry.key (done ++ entry ∷ [])) ≡ Some v
    → conflict how (values_of entry.key (done ++ entry ∷ [])) ≡ (conflict how (values_of entry.key done) || mixed)
    → (AllByRecursion (λ k. is_eq (slice_cmp nat_cmp k entry.key) ≡ false) (keys_of done) → conflict how (values_of entry.key done) ≡ false)
    → IsMerging how (done ++ entry ∷ [])
    (record { entries = with_entry (record { key = entry.key; value = v }) grown.entries; conflict = noted mixed entry.key grown.conflict })
more how done grown entry v mixed is value at there =
    let changed : IsChanged entry.key (λ k. conflict how (values_of k done)) (λ k. conflict how (values_of k (done ++ entry ∷ []))) mixed =
    record { at = at; off = λ k e. ap (conflict how) (values_of-other k done entry e) } in
    record {
      ascending = ascend_with_entry (record { key = entry.key; value = v }) grown.entries is.ascending;
      keys_are = keys-with_entry (record { key = entry.key; value = v }) grown.entries ∙ ap (with_key entry.key) is.keys_are ∙ sym (keys_of-more done entry);
      found = λ key. found_more how done grown entry v is value key (is_at key entry) refl;
      noted =
          ap (noted mixed entry.key) is.noted ∙ sym (ap (find (λ k. conflict how (values_of k (done ++ entry ∷ [])))) (keys_of-more done entry)
          ∙ find-with_key entry.key _ _ mixed (keys_of done) changed (subst AscendByBytes is.keys_are is.ascending) there);
    }

tied_at : (entry : DataEntry) → is_at entry.key entry ≡ true
tied_at entry = ap is_eq (tied_itself nat_list_cmp_total entry.key)

step_beside : (how : Merger) (done : List DataEntry) (grown : Grown) (entry : DataEntry) (there : Option DataEntry) → IsMerging how done grown
    → find (is_at entry.key) grown.entries ≡ there → IsMerging how (done ++ entry ∷ []) (grown_beside how grown entry there)
step_beside how done grown entry None is e =
    let none = merged_value-none how (values_of entry.key done) (entry_of-none entry.key _ (sym (is.found entry.key) ∙ e)) in
    let now = values_of-same entry.key done entry (tied_at entry) ∙ ap (λ values. values ++ entry.value ∷ []) none in
    let before = ap (conflict how) none ∙ (conflict-few how entry.value).0 in
    more how done grown entry (first_value how entry.value) false is (ap (merged_value how) now ∙ merged_value-first how entry.value)
    (ap (conflict how) now ∙ (conflict-few how entry.value).1 ∙ rw before refl) (λ all. before)
step_beside how done grown entry (Some there) is e =
    let value = entry_of-some entry.key _ there (sym (is.found entry.key) ∙ e) in
    let now = values_of-same entry.key done entry (tied_at entry) in
    more how done grown entry (next_value how there.value entry.value) (differs how there.value entry.value) is
    (ap (merged_value how) now ∙ merged_value-next how (values_of entry.key done) there.value entry.value value)
    (ap (conflict how) now ∙ conflict-next how (values_of entry.key done) there.value entry.value value)
    (λ all. absurd (true≢false (ap is_some (sym e ∙ find-fails (is_at entry.key) grown.entries (All-unmap _ (λ x. x.key) grown.entries
    (subst (AllByRecursion (λ k. is_eq (slice_cmp nat_cmp k entry.key) ≡ false)) (sym is.keys_are) all))))))

pub step : (how : Merger) (done : List DataEntry) (grown : Grown) (entry : DataEntry) → IsMerging how done grown
    → IsMerging how (done ++ entry ∷ []) (grown_with how grown entry)
step how done grown entry is = step_beside how done grown entry (find (is_at entry.key) grown.entries) is refl

pub nothing : (how : Merger) → IsMerging how [] nothing_grown
nothing how = record { ascending = tt; keys_are = refl; found = λ key. sym (ap (entry_of key) (merged_value-nothing how)); noted = refl }
