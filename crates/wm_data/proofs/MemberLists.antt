-- Members that are read one by one.
use Rattle.std.proofs.Common.{◌≡◌, ℕ, ◌<◌, ◌==◌, Bool, true, false, ◌||◌, cond, List, [], ◌∷◌, ◌++◌, length, map, slice_get, filter_map, find, is_none, is_some, Option, Some, None, ok_or, option_map, Result, Ok, Err, String, Global, string_bytes, nat_cmp, is_eq, is_ok, unwrap_or, refl, sym, ap, ◌∙◌, true≢false, ne_eqb, arith}
use Rattle.std.proofs.lemmas.Bool.Decides.{nat_tests}
use Rattle.std.proofs.lemmas.List.{map-append}
use Rattle.std.proofs.lemmas.List.Elements.{filter_map-append}
use Rattle.std.proofs.lemmas.List.Folds.{find-append}
use Rattle.std.proofs.lemmas.List.Sums.{fold-append}
use Rattle.std.specs.BTreeMap.{is_at as ties}
use Rattle.std.specs.Cmp.Lexicographic.{slice_cmp}
use Rattle.std.specs.List.{list_any}
use Rattle.std.specs.Map.{lookup}
use Rattle.std.specs.Result.{result_err, result_unwrap_or}
use Rattle.serde_json.specs.Data as json
use Rattle.serde_json.specs.Find.{as_object}
use Rattle.serde_json.specs.View.{members_view, view}
use Rattle.serde_json.specs.declared.value.Value.{Value}
use Rattle.wm_data.specs.DataRead.{and_built, entries_of, member_list, only_member, read_data, put_all, read_entry, unless_bad}
use Rattle.wm_data.specs.Entries.{with_entry, IsFaultOf}
use Rattle.wm_data.specs.declared.data.DataEntry.{DataEntry}
use Rattle.wm_data.specs.declared.fault.DataFault.{DataFault}
use Rattle.wm_data.specs.declared.fault.DataFault.TheVariants as fault

-- the members that entries of a map are
abbrev pub as_member : String Global × Value → List ℕ × json.Data
as_member e = (string_bytes e.0, view e.1)

abbrev pub members_in : List (String Global × Value) → List (List ℕ × json.Data)
members_in es = map as_member es

pub member_list-members_view : (es : List (String Global × Value)) → member_list (members_view es) ≡ members_in es
member_list-members_view [] = refl
member_list-members_view (e ∷ es) = ap (λ rest. (string_bytes e.0, view e.1) ∷ rest) (member_list-members_view es)

-- ---- the one member of an object

pub only_member-one : (d : json.Data) (es : List (String Global × Value)) (e : String Global × Value) → as_object d ≡ Some (members_view es) → length es ≡ 1
    → slice_get es 0 ≡ Some e → only_member d ≡ Some (string_bytes e.0, view e.1)
only_member-one d [] e object one first = absurd (omega (arith, one))
only_member-one d (x ∷ []) e object one first = rw object (ap (option_map as_member) first)
only_member-one d (x ∷ y ∷ es) e object one first = absurd (omega (arith, one))

pub only_member-none : (d : json.Data) (es : List (String Global × Value)) → as_object d ≡ Some (members_view es) → (length es ≡ 1 → ⊥) → None ≡ only_member d
only_member-none d [] object other = rw object refl
only_member-none d (x ∷ []) object other = absurd (other refl)
only_member-none d (x ∷ y ∷ es) object other = rw object refl

-- ---- members that are all in the form

abbrev is_bad : List ℕ × json.Data → Bool
is_bad m = is_none (read_entry m)

good_parts : (o : Option (List ℕ × json.Data)) (entries es : List DataEntry) → unless_bad o entries ≡ Ok es → (o ≡ None) × (entries ≡ es)
good_parts None entries es e = (refl, ap (λ r. result_unwrap_or r entries) e)
good_parts (Some m) entries es e = absurd (true≢false (sym (ap is_ok e)))

-- one more that is in the form
pub entries_of-good : (ms : List (List ℕ × json.Data)) (m : List ℕ × json.Data) (es : List DataEntry) (e : DataEntry) → entries_of ms ≡ Ok es
    → read_entry m ≡ Some e → entries_of (ms ++ m ∷ []) ≡ Ok (with_entry e es)
entries_of-good ms m es e good is =
    let parts = good_parts (find is_bad ms) (put_all [] (filter_map read_entry ms)) es good in
    rw (
      find-append is_bad ms (m ∷ []),
      filter_map-append read_entry ms (m ∷ []),
      fold-append (λ built entry. with_entry entry built) [] (filter_map read_entry ms) (filter_map read_entry (m ∷ [])),
      parts.0,
      parts.1,
      is,
    ) refl

-- one more that isn't
pub entries_of-bad : (ms rest : List (List ℕ × json.Data)) (m : List ℕ × json.Data) (es : List DataEntry) → entries_of ms ≡ Ok es → read_entry m ≡ None
    → entries_of (ms ++ m ∷ rest) ≡ Err (fault.BadData m.0)
entries_of-bad ms rest m es good none =
    let parts = good_parts (find is_bad ms) (put_all [] (filter_map read_entry ms)) es good in
    rw (find-append is_bad ms (m ∷ rest), parts.0, none) refl

-- ---- keys that are empty

is_eq_empty : (key : List ℕ) → is_eq (slice_cmp nat_cmp [] key) ≡ (length key == 0)
is_eq_empty [] = refl
is_eq_empty (x ∷ key) = sym (ne_eqb (length (x ∷ key)) 0 (λ e. omega (arith, e)))

is_some_or : (b : Bool) (v : Value) (o : Option Value) → is_some (cond b (Some v) o) ≡ (b || is_some o)
is_some_or true v o = refl
is_some_or false v o = refl

-- the empty key is found exactly where a key is empty
pub has_empty_key : (es : List (String Global × Value))
    → is_some (lookup (ties (λ k. slice_cmp nat_cmp [] (string_bytes k))) es) ≡ list_any (λ m. length m.0 == 0) (members_in es)
has_empty_key [] = refl
has_empty_key (e ∷ es) =
    is_some_or (is_eq (slice_cmp nat_cmp [] (string_bytes e.0))) e.1 (lookup (ties (λ k. slice_cmp nat_cmp [] (string_bytes k))) es)
    ∙ rw (is_eq_empty (string_bytes e.0), has_empty_key es) refl

pub neither : (a b : Bool) → (a || b) ≡ false → (a ≡ false) × (b ≡ false)
neither true b e = absurd (true≢false e)
neither false b e = (refl, e)

pub key_not_empty : (done left : List (String Global × Value)) (e : String Global × Value)
    → list_any (λ m. length m.0 == 0) (members_in (done ++ e ∷ left)) ≡ false → 0 < length (string_bytes e.0)
key_not_empty [] left e h =
    let apart = (neither (length (string_bytes e.0) == 0) (list_any (λ m. length m.0 == 0) (members_in left)) h).0 in
    grind (arith, nat_tests)
key_not_empty (x ∷ done) left e h =
    key_not_empty done left e (neither (length (string_bytes x.0) == 0) (list_any (λ m. length m.0 == 0) (members_in (done ++ e ∷ left))) h).1

-- ---- what the code answers

-- a fault of one answer is a fault of another that has the same faults
pub same_fault : {T U : Type 0} (answer : Result T DataFault) (other : Result U DataFault) (found : DataFault)
    → ((x : DataFault) → answer ≡ Err x → other ≡ Err x) → IsFaultOf answer found → IsFaultOf other found
same_fault answer other fault.EmptyKey same h = same fault.EmptyKey h
same_fault answer other (fault.BadData key) same h = same (fault.BadData key) h
same_fault answer other (fault.TooLarge size) same h = same (fault.TooLarge size) h
same_fault answer other fault.Memory same h = tt

put_of_read : (o : Option DataEntry) (ms : List (List ℕ × json.Data)) (m : List ℕ × json.Data) (builder now : List DataEntry) → read_entry m ≡ o
    → entries_of ms ≡ Ok builder → option_map (λ entry. with_entry entry builder) o ≡ Some now → entries_of (ms ++ m ∷ []) ≡ Ok now
put_of_read None ms m builder now is good put = cc
put_of_read (Some entry) ms m builder now is good put =
    let last : with_entry entry builder ≡ now = ap (λ p. unwrap_or p now) put in
    entries_of-good ms m builder entry good is ∙ ap Ok last

-- a member that was put
pub entries_of-put : (done : List (String Global × Value)) (e : String Global × Value) (builder now : List DataEntry)
    → entries_of (members_in done) ≡ Ok builder → option_map (λ entry. with_entry entry builder) (read_entry (string_bytes e.0, view e.1)) ≡ Some now
    → entries_of (members_in (done ++ e ∷ [])) ≡ Ok now
entries_of-put done e builder now good put =
    rw (map-append as_member done (e ∷ []))
    (put_of_read (read_entry (string_bytes e.0, view e.1)) (members_in done) (string_bytes e.0, view e.1) builder now refl good put)

bad_answer : (o : Option DataEntry) (ms rest : List (List ℕ × json.Data)) (m : List ℕ × json.Data) (builder : List DataEntry) (x : DataFault) → read_entry m ≡ o
    → entries_of ms ≡ Ok builder → ok_or o (fault.BadData m.0) ≡ Err x → entries_of (ms ++ m ∷ rest) ≡ Err x
bad_answer None ms rest m builder x is good bad = entries_of-bad ms rest m builder good is ∙ ap (λ r. Err (unwrap_or (result_err r) x)) bad
bad_answer (Some entry) ms rest m builder x is good bad = absurd (true≢false (ap is_ok bad))

-- a member that wasn't
pub entries_of-fault : (done left : List (String Global × Value)) (e : String Global × Value) (builder : List DataEntry) (found : DataFault)
    → entries_of (members_in done) ≡ Ok builder → IsFaultOf (ok_or (read_entry (string_bytes e.0, view e.1)) (fault.BadData (string_bytes e.0))) found
    → IsFaultOf (entries_of (members_in (done ++ e ∷ left))) found
entries_of-fault done left e builder found good h =
    same_fault (ok_or (read_entry (string_bytes e.0, view e.1)) (fault.BadData (string_bytes e.0))) (entries_of (members_in (done ++ e ∷ left))) found
    (λ x bad. rw (map-append as_member done (e ∷ left))
    (bad_answer (read_entry (string_bytes e.0, view e.1)) (members_in done) (members_in left) (string_bytes e.0, view e.1) builder x refl good bad)) h

-- ---- whole objects

pub read_data-empty_key : (d : json.Data) (es : List (String Global × Value)) → as_object d ≡ Some (members_view es)
    → is_some (lookup (ties (λ k. slice_cmp nat_cmp [] (string_bytes k))) es) ≡ true → read_data d ≡ Err fault.EmptyKey
read_data-empty_key d es object empty = rw (object, member_list-members_view es, ← has_empty_key es, empty) refl

pub named_members : (es : List (String Global × Value)) → is_some (lookup (ties (λ k. slice_cmp nat_cmp [] (string_bytes k))) es) ≡ false
    → list_any (λ m. length m.0 == 0) (member_list (members_view es)) ≡ false
named_members es named = rw (member_list-members_view es, ← has_empty_key es) named

pub read_data-members : (d : json.Data) (es : List (String Global × Value)) → as_object d ≡ Some (members_view es)
    → is_some (lookup (ties (λ k. slice_cmp nat_cmp [] (string_bytes k))) es) ≡ false → read_data d ≡ and_built (entries_of (member_list (members_view es)))
read_data-members d es object named = rw (object, named_members es named) refl
