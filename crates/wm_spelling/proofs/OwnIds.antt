-- An id that a text names is read again from how it prints.
use Rattle.std.proofs.Common.{◌≡◌, ℕ, ◌+◌, ◌*◌, ◌<◌, true, false, Bool, ◌&&◌, ◌==◌, List, length, drop, get_or, slice_index, take, Some, None, IfSome, inl, refl, sym, ◌∙◌, arith}
use Rattle.std.specs.List.{list_all}
use Rattle.std.proofs.lemmas.Bool.{and_parts, eqb-true}
use Rattle.std.proofs.lemmas.Bool.Decides.{nat_tests}
use Rattle.std.proofs.lemmas.List.Folds.{list_all_at}
use Rattle.serde_json.specs.Data as json
use Rattle.serde_json.specs.Find.{as_str}
use Rattle.uuid.specs.Text.{by_index, byte_of_digits, close_brace, digits_of, has_hyphens, has_urn_prefix, hyphenated_text, is_hex_digit, lower, open_brace, parsed, parsed_braced, parsed_hyphenated, parsed_simple, parsed_urn, value_of}
use Rattle.uuid.proofs.RoundTrips.{parses_hyphenated}
use Rattle.uuid.proofs.TextLemmas.{all_fit, by_index_at, by_index_length}
use Rattle.wm_collections.proofs.Options.{either, tested, then_any}
use Rattle.wm_script.specs.Values.{id_in}

unfoldable pub IsOwnId : List ℕ → Type 0
IsOwnId id = parsed (hyphenated_text lower id) ≡ Some id

digit_small : (c : ℕ) → is_hex_digit c ≡ true → value_of c < 16
digit_small c is = grind (arith, nat_tests)

digit_at : (hex : List ℕ) (k : ℕ) → list_all is_hex_digit hex ≡ true → k < length hex → value_of (slice_index hex k) < 16
digit_at hex k all within = digit_small (slice_index hex k) (by_test (is_hex_digit (get_or hex k 0)) refl) where
  by_test : (b : Bool) → is_hex_digit (get_or hex k 0) ≡ b → b ≡ true
  by_test true e = refl
  by_test false e = sym (list_all_at is_hex_digit hex k 0 within e) ∙ all

byte_small : (hex : List ℕ) (i : ℕ) → length hex ≡ 32 → list_all is_hex_digit hex ≡ true → i < 16 → byte_of_digits hex i < 256
byte_small hex i long all within =
    let high = digit_at hex (2 * i) all (omega arith) in
    let low = digit_at hex (2 * i + 1) all (omega arith) in
    omega arith

IsOwnId-bytes : (hex : List ℕ) → length hex ≡ 32 → list_all is_hex_digit hex ≡ true → IsOwnId (by_index 16 (byte_of_digits hex))
unfolding IsOwnId
IsOwnId-bytes hex long all =
    let id = by_index 16 (byte_of_digits hex) in
    let sixteen : length id ≡ 16 = by_index_length 16 (byte_of_digits hex) in
    let small = all_fit id (λ i within. let here : i < 16 = omega arith in rw (by_index_at 16 (byte_of_digits hex) i 0 here) (byte_small hex i long all here)) in
    sym (parses_hyphenated lower id (inl refl) sixteen small)

IsOwnId-simple : (hex : List ℕ) → IfSome (parsed_simple hex) IsOwnId
IsOwnId-simple hex =
    tested IsOwnId ((length hex == 32) && list_all is_hex_digit hex) (by_index 16 (byte_of_digits hex)) (λ is.
    let parts = and_parts (length hex == 32) (list_all is_hex_digit hex) is in
    IsOwnId-bytes hex (eqb-true (length hex) 32 parts.0) parts.1)

IsOwnId-hyphenated : (text : List ℕ) → IfSome (parsed_hyphenated text) IsOwnId
IsOwnId-hyphenated text =
    either IsOwnId ((length text == 36) && has_hyphens text) (parsed_simple (digits_of text)) None (IsOwnId-simple (digits_of text)) tt

IsOwnId-parsed : (text : List ℕ) → IfSome (parsed text) IsOwnId
IsOwnId-parsed text =
    let braced = either IsOwnId ((length text == 38) && (slice_index text 0 == open_brace) && (slice_index text 37 == close_brace)) (parsed_hyphenated (take 36 (drop 1 text))) None (IsOwnId-hyphenated (take 36 (drop 1 text))) tt in
    let urn = either IsOwnId ((length text == 45) && has_urn_prefix text) (parsed_hyphenated (drop 9 text)) None (IsOwnId-hyphenated (drop 9 text)) tt in
    either IsOwnId (length text == 32) (parsed_simple text) _ (IsOwnId-simple text)
    (either IsOwnId (length text == 36) (parsed_hyphenated text) _ (IsOwnId-hyphenated text)
    (either IsOwnId (length text == 38) (parsed_braced text) _ braced
    (either IsOwnId (length text == 45) (parsed_urn text) None urn tt)))

pub IsOwnId-id_in : (d : json.Data) → IfSome (id_in d) IsOwnId
unfolding id_in
IsOwnId-id_in d = then_any IsOwnId parsed (as_str d) IsOwnId-parsed
