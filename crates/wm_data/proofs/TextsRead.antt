-- What is read from the compact text of JSON is that JSON, where it is read again; and so is the JSON of Data from its canonical text.
use Rattle.std.proofs.Common.{◌≡◌, ℕ, suc, ◌^◌, ◌<◌, ◌≤◌, ℤ, pos, negsuc, List, [], ◌∷◌, ◌++◌, append-nil, append_assoc, map, Some, option_map, option_and_then, Less, Greater, nat_cmp, FitsSigned, w8, w32, w64, refl, sym, ap, ◌∙◌, arith}
use Rattle.std.proofs.lemmas.Cmp.{nat_list_cmp_total}
use Rattle.std.specs.Cmp.Lexicographic.{slice_cmp}
use Rattle.std.specs.List.{AllByRecursion}
use Rattle.std.specs.Ordering.{ordering_reverse}
use Rattle.json.specs.Json as json
use Rattle.json.specs.Lex.{tokens}
use Rattle.json.specs.Tree as tree
use Rattle.json.proofs.Printed.Decimals.{IsNumber-decimal, IsNumber-signed_decimal}
use Rattle.json.proofs.Printed.Tokens.{tokens-print}
use Rattle.json.proofs.Printed.Trees.{ArePrintable-json_tokens, value-json_tokens}
use Rattle.serde_json.specs.Data.{Data, Items, Members, array, boolean, member, members_depth, no_members, number, put, string}
use Rattle.serde_json.specs.Read.{max_depth, of_items, of_json, of_members, read}
use Rattle.serde_json.specs.View.{items_of}
use Rattle.serde_json.specs.Written.{compact_text, items_outline, members_outline, outline}
use Rattle.serde_json.proofs.Numbers.{number_of-decimal, number_of-negative}
use Rattle.serde_json.proofs.Texts.{print-outline}
use Rattle.wm_collections.proofs.Lists.{All-any, All-weaker}
use Rattle.wm_collections.specs.Lists.{AscendByBytes}
use Rattle.wm_data.proofs.Places.{keys}
use Rattle.wm_data.specs.DataJson.{data_json, data_text, entries_json, typed, value_json, whole}
use Rattle.wm_data.specs.InType.{AreInType, IsInType}
use Rattle.wm_data.specs.Size.{IsData}
use Rattle.wm_data.specs.declared.data.DataEntry.{DataEntry}
use Rattle.wm_data.specs.declared.value.Value.{Value}
use Rattle.wm_data.specs.declared.value.Value.TheVariants as value

-- ---- what is read again

-- a value is read from what is written for it, and nests no deeper than this
pub record IsReadAgain (deep : ℕ) (d : Data) : Type 0 where
  pub same : of_json (outline d) ≡ Some d
  pub numbers : tree.HasNumbers (outline d)
  pub shallow : tree.depth (outline d) ≤ deep

-- the items of an array are, and each is plain
pub record AreReadAgain (ds : Items) : Type 0 where
  pub same : of_items (items_outline ds) ≡ Some ds
  pub numbers : tree.ItemsHaveNumbers (items_outline ds)
  pub shallow : tree.items_depth (items_outline ds) ≤ 0

pub again-whole : (n : ℤ) → FitsSigned w64 n → IsReadAgain 0 (whole n)
again-whole (pos n) fits =
    let within : n < 2 ^ 64 = omega (arith, fits.sfits) in
    record { same = ap (option_map number) (number_of-decimal n within); numbers = IsNumber-decimal n within; shallow = omega arith }
again-whole (negsuc n) fits = record {
  same = ap (option_map number) (number_of-negative n fits.sfits);
  numbers = IsNumber-signed_decimal (negsuc n) fits.sfits;
  shallow = omega arith;
}

pub again-boolean : (b : _) → IsReadAgain 0 (boolean b)
again-boolean b = record { same = refl; numbers = tt; shallow = omega arith }

pub again-string : (text : List ℕ) → IsReadAgain 0 (string text)
again-string text = record { same = refl; numbers = tt; shallow = omega arith }

pub again-items : {T : Type 0} (form : T → Data) (xs : List T) → AllByRecursion (λ x. IsReadAgain 0 (form x)) xs → AreReadAgain (items_of (map form xs))
again-items form [] all = record { same = refl; numbers = tt; shallow = omega arith }
again-items form (x ∷ xs) all =
    let rest = again-items form xs all.1 in
    record {
      same = rw (all.0.same, rest.same) refl;
      numbers = (all.0.numbers, rest.numbers);
      shallow = omega (arith, all.0.shallow, rest.shallow);
    }

pub again-list : {T : Type 0} (form : T → Data) (xs : List T) → AllByRecursion (λ x. IsReadAgain 0 (form x)) xs → IsReadAgain 1 (array (items_of (map form xs)))
again-list form xs all =
    let items = again-items form xs all in
    record { same = ap (option_map array) items.same; numbers = items.numbers; shallow = omega (arith, items.shallow) }

pub again-typed : (name : List ℕ) (deep : ℕ) (content : Data) → IsReadAgain deep content → IsReadAgain (suc deep) (typed name content)
again-typed name deep content is = record { same = rw (is.same) refl; numbers = (is.numbers, tt); shallow = omega (arith, is.shallow) }

pub deeper : (d : Data) → IsReadAgain 1 d → IsReadAgain 2 d
deeper d is = record { same = is.same; numbers = is.numbers; shallow = omega (arith, is.shallow) }

pub again-byte : (n : ℤ) → FitsSigned w8 n → IsReadAgain 0 (whole n)
again-byte (pos n) fits = again-whole (pos n) (record { sfits = omega (arith, fits.sfits) })
again-byte (negsuc n) fits = again-whole (negsuc n) (record { sfits = omega (arith, fits.sfits) })

pub again-int : (n : ℤ) → FitsSigned w32 n → IsReadAgain 0 (whole n)
again-int (pos n) fits = again-whole (pos n) (record { sfits = omega (arith, fits.sfits) })
again-int (negsuc n) fits = again-whole (negsuc n) (record { sfits = omega (arith, fits.sfits) })

pub again-value : (v : Value) → IsInType v → IsReadAgain 2 (value_json v)
again-value (value.Bool b) is = deeper _ (again-typed _ 0 _ (again-boolean b))
again-value (value.Byte n) is = deeper _ (again-typed _ 0 _ (again-byte n is))
again-value (value.Int n) is = deeper _ (again-typed _ 0 _ (again-int n is))
again-value (value.Long n) is = deeper _ (again-typed _ 0 _ (again-whole n is))
again-value (value.Text text) is = deeper _ (again-typed _ 0 _ (again-string text))
again-value (value.Bools bs) is = again-typed _ 1 _ (again-list boolean bs (All-any bs again-boolean))
again-value (value.Bytes ns) is = again-typed _ 1 _ (again-list whole ns (All-weaker ns again-byte is))
again-value (value.Ints ns) is = again-typed _ 1 _ (again-list whole ns (All-weaker ns again-int is))
again-value (value.Longs ns) is = again-typed _ 1 _ (again-list whole ns (All-weaker ns again-whole is))
again-value (value.Texts texts) is = again-typed _ 1 _ (again-list string texts (All-any texts again-string))

-- ---- the entries, put one after another

-- a key above the others goes last
put-last : (entry : DataEntry) (done more : List DataEntry) → AscendByBytes (keys (done ++ entry ∷ more))
    → put entry.key (value_json entry.value) (entries_json done) ≡ entries_json (done ++ entry ∷ [])
put-last entry [] more up = refl
put-last entry (first ∷ done) more up =
    let after : slice_cmp nat_cmp entry.key first.key ≡ Greater = nat_list_cmp_total.antisymm entry.key first.key ∙ ap ordering_reverse (above done up.0) in
    rw after (ap (member first.key (value_json first.value)) (put-last entry done more up.1)) where
      above : (rest : List DataEntry) → AllByRecursion (λ later. slice_cmp nat_cmp first.key later ≡ Less) (keys (rest ++ entry ∷ more))
          → slice_cmp nat_cmp first.key entry.key ≡ Less
      above [] all = all.0
      above (other ∷ rest) all = above rest all.1

pub again-entries : (done more : List DataEntry) → AscendByBytes (keys (done ++ more)) → AreInType more
    → of_members (members_outline (entries_json more)) (entries_json done) ≡ Some (entries_json (done ++ more))
again-entries done [] up are = ap (λ l. Some (entries_json l)) (sym (append-nil done))
again-entries done (entry ∷ more) up are =
    let whole_list = append_assoc done (entry ∷ []) more in
    rw ((again-value entry.value are.0).same, put-last entry done more up)
    (again-entries (done ++ entry ∷ []) more (rw whole_list up) are.1 ∙ ap (λ l. Some (entries_json l)) whole_list)

numbers-entries : (entries : List DataEntry) → AreInType entries → tree.MembersHaveNumbers (members_outline (entries_json entries))
numbers-entries [] are = tt
numbers-entries (entry ∷ entries) are = ((again-value entry.value are.0).numbers, numbers-entries entries are.1)

shallow-entries : (entries : List DataEntry) → AreInType entries → tree.members_depth (members_outline (entries_json entries)) ≤ 2
shallow-entries [] are = omega arith
shallow-entries (entry ∷ entries) are = omega (arith, (again-value entry.value are.0).shallow, shallow-entries entries are.1)

-- ---- the text

-- what a value that is read again is read as from its compact text
pub read-again : (d : Data) (deep : ℕ) → IsReadAgain deep d → deep ≤ 127 → read (compact_text d) ≡ Some d
read-again d deep is within =
    let ts = tree.json_tokens (outline d) in
    let text : tokens (compact_text d) ≡ ts ++ [] =
    ap tokens (sym (print-outline d)) ∙ tokens-print ts (ArePrintable-json_tokens (outline d) is.numbers) ∙ sym (append-nil ts) in
    let value_is = ap (json.value max_depth) text ∙ value-json_tokens (outline d) max_depth [] (omega (arith, is.shallow)) in
    ap (λ o. option_and_then of_json (option_and_then (λ p. json.if_last p.0 p.1) o)) value_is ∙ is.same

pub again-data : (entries : List DataEntry) → IsData entries → IsReadAgain 3 (data_json entries)
again-data entries is = record {
  same = ap (option_map Rattle.serde_json.specs.Data.object) (again-entries [] entries is.ascending is.in_type);
  numbers = numbers-entries entries is.in_type;
  shallow = omega (arith, shallow-entries entries is.in_type);
}

-- the JSON of Data is read from its canonical text
pub read-data_text : (entries : List DataEntry) → IsData entries → read (data_text entries) ≡ Some (data_json entries)
read-data_text entries is = read-again (data_json entries) 3 (again-data entries is) (omega arith)
