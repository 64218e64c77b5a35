-- Entries as the members of an object.
use Rattle.std.proofs.Common.{◌≡◌, ℕ, zero, suc, ◌+◌, ◌<◌, List, [], ◌∷◌, ◌++◌, length, take, get_or, Greater, nat_cmp, refl, ap, ◌∙◌, arith}
use Rattle.std.proofs.lemmas.Cmp.{nat_list_cmp_total}
use Rattle.std.proofs.lemmas.List.{take_more}
use Rattle.std.specs.Cmp.Lexicographic.{slice_cmp}
use Rattle.std.specs.Ordering.{ordering_reverse}
use Rattle.serde_json.specs.Data as json
use Rattle.wm_collections.specs.Lists.{AscendByBytes}
use Rattle.wm_data.specs.DataJson.{entries_json, value_json}
use Rattle.wm_data.specs.declared.data.DataEntry.{DataEntry}
use Rattle.wm_data.proofs.Places.{keys, first_before, AllBefore}

-- a member whose key is above the others goes last
put_last : (front : List DataEntry) (entry : DataEntry) → AllBefore entry.key front
    → json.put entry.key (value_json entry.value) (entries_json front) ≡ entries_json (front ++ entry ∷ [])
put_last [] entry before = refl
put_last (first ∷ front) entry before =
    let above : slice_cmp nat_cmp entry.key first.key ≡ Greater = nat_list_cmp_total.antisymm entry.key first.key ∙ ap ordering_reverse before.0 in
    rw above (ap (json.member first.key (value_json first.value)) (put_last front entry before.1))

-- the entries before a place come before its key
pub before_place : (entries : List DataEntry) (i : ℕ) (d : DataEntry) → AscendByBytes (keys entries) → i < length entries
    → AllBefore (get_or entries i d).key (take i entries)
before_place [] i d up h = absurd (omega arith)
before_place (entry ∷ entries) zero d up h = tt
before_place (entry ∷ entries) (suc i) d up h = (first_before entry entries i d up (omega arith), before_place entries i d up.1 (omega arith))

-- one entry more
pub put_more : (entries : List DataEntry) (i : ℕ) (d : DataEntry) → AscendByBytes (keys entries) → i < length entries
    → json.put (get_or entries i d).key (value_json (get_or entries i d).value) (entries_json (take i entries)) ≡ entries_json (take (i + 1) entries)
put_more entries i d up h = rw (take_more entries i d h) (put_last (take i entries) (get_or entries i d) (before_place entries i d up h))
