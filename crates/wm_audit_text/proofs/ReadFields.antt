-- What stands under a key is read as what it was written for.
use Rattle.std.proofs.Common.{◌≡◌, ℕ, ℤ, pos, negsuc, ◌^◌, ◌<◌, List, [], ◌∷◌, map, filter_map, Some, FitsSigned, w64, refl, lt-ltb}
use Rattle.std.specs.List.{AllByRecursion}
use Rattle.serde_json.specs.Data as json
use Rattle.serde_json.specs.Find.{as_str, get}
use Rattle.wm_audit_text.specs.Fields.{data_at, data_of, items_at, number_at, small_at, text_at, text_in, texts_at, whole_at, wholes_at}
use Rattle.wm_data.proofs.ItemLists.{item_list-items_of}
use Rattle.wm_data.proofs.ReadBack.{read_data-data_json}
use Rattle.wm_data.specs.DataJson.{data_json, list_of, whole}
use Rattle.wm_data.specs.DataRead.{integer_of}
use Rattle.wm_data.specs.Size.{IsData}
use Rattle.wm_data.specs.declared.data.DataEntry.{DataEntry}
use Rattle.wm_spelling.specs.Works.{count, texts_json}

-- each of these, where it stands under the key
pub number-read : (key : List ℕ) (d : json.Data) (n : ℕ) → get key d ≡ Some (count n) → number_at key d ≡ n
unfolding number_at
number-read key d n is = rw is refl

pub small-read : (key : List ℕ) (d : json.Data) (n : ℕ) → n < 2 ^ 32 → get key d ≡ Some (count n) → small_at key d ≡ n
unfolding small_at
small-read key d n below is = rw (number-read key d n is, lt-ltb n (2 ^ 32) below) refl

pub text-read : (key : List ℕ) (d : json.Data) (text : List ℕ) → get key d ≡ Some (json.string text) → text_at key d ≡ text
unfolding text_at text_in
text-read key d text is = rw is refl

data_of-read : (entries : List DataEntry) → IsData entries → data_of (data_json entries) ≡ entries
data_of-read entries is = rw (read_data-data_json entries is) refl

pub data-read : (key : List ℕ) (d : json.Data) (entries : List DataEntry) → IsData entries → get key d ≡ Some (data_json entries) → data_at key d ≡ entries
unfolding data_at
data-read key d entries is stands = rw (stands, data_of-read entries is) refl

integer-read : (n : ℤ) → FitsSigned w64 n → integer_of (whole n) ≡ Some n
integer-read (pos n) fits = rw (lt-ltb n (2 ^ 63) fits.sfits) refl
integer-read (negsuc n) fits = refl

pub whole-read : (key : List ℕ) (d : json.Data) (n : ℤ) → FitsSigned w64 n → get key d ≡ Some (whole n) → whole_at key d ≡ n
unfolding whole_at
whole-read key d n fits is = rw (is, integer-read n fits) refl

all_wholes : (ns : List ℤ) → AllByRecursion (FitsSigned w64) ns → filter_map integer_of (map whole ns) ≡ ns
all_wholes [] fit = refl
all_wholes (n ∷ ns) fit = rw (integer-read n fit.0, all_wholes ns fit.1) refl

pub wholes-read : (key : List ℕ) (d : json.Data) (ns : List ℤ) → AllByRecursion (FitsSigned w64) ns → get key d ≡ Some (list_of whole ns) → wholes_at key d ≡ ns
unfolding wholes_at items_at
wholes-read key d ns fit is = rw (is, item_list-items_of (map whole ns)) (all_wholes ns fit)

all_texts : (texts : List (List ℕ)) → filter_map as_str (map json.string texts) ≡ texts
all_texts [] = refl
all_texts (text ∷ texts) = rw (all_texts texts) refl

pub texts-read : (key : List ℕ) (d : json.Data) (texts : List (List ℕ)) → get key d ≡ Some (texts_json texts) → texts_at key d ≡ texts
unfolding texts_at items_at
texts-read key d texts is = rw (is, item_list-items_of (map json.string texts)) (all_texts texts)
