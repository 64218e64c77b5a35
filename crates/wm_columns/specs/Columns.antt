-- What the columns say that hold lists.
use Rattle.serde_json.specs.Data.{Data, Items, item, no_items}
use Rattle.serde_json.specs.Find.{as_array, as_str}
use Rattle.serde_json.specs.Read.{read}
use Rattle.std.specs.Int.{cast_signed, from_be_bytes, w64}
use Rattle.std.specs.Prelude.{◌==◌, ◌%◌, ◌/◌, ℕ, ℤ, List, [], ◌∷◌, length, map, Option, Some, None, if◌then◌else◌, option_map, option_and_then}
use Rattle.std.specs.Simd.{first_chunks}

-- a number in two's complement, from its eight bytes, the most significant first
abbrev pub number_of : List ℕ → ℤ
number_of bytes = cast_signed w64 (from_be_bytes w64 bytes)

-- the numbers of a column `prior`; none where its bytes aren't whole groups of eight
abbrev pub prior_in : List ℕ → Option (List ℤ)
prior_in bytes = if length bytes % 8 == 0 then Some (map number_of (first_chunks 8 (length bytes / 8) bytes)) else None

-- the texts that items are; none where one isn't a text
abbrev pub texts_of : Items → Option (List (List ℕ))
texts_of no_items = Some []
texts_of (item d ds) = option_and_then (λ text. option_map (λ texts. text ∷ texts) (texts_of ds)) (as_str d)

-- the texts that JSON is a list of; none where it isn't a list of texts
abbrev pub texts_in : Data → Option (List (List ℕ))
texts_in d = option_and_then texts_of (as_array d)

-- the tags of a column `tags`, in whatever spelling; none where its text isn't a JSON list of texts
abbrev pub tags_in : List ℕ → Option (List (List ℕ))
tags_in text = option_and_then texts_in (read text)
