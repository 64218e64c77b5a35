-- How bytes are cut, and that no line that is written has an LF in it.
use Rattle.std.proofs.Common.{◌≡◌, ℕ, zero, suc, ◌+◌, ◌/◌, ◌%◌, ◌==◌, ◌≤◌, Bool, true, false, cond, not, List, [], ◌∷◌, ◌++◌, length, take, drop, decimal, pos, negsuc, Option, Some, None, option_map, position, refl, ap, ◌∙◌, arith, one-add, add-one}
use Rattle.std.specs.Prelude.{◌||◌, nat_lt}
use Rattle.std.specs.Char.{digit_char}
use Rattle.std.specs.Fmt.{digit_glyph, digits, digits_onto}
use Rattle.std.specs.List.{AllByRecursion, position_or_len}
use Rattle.std.proofs.lemmas.Bool.{eqb-true, ne_eqb}
use Rattle.std.proofs.lemmas.Bool.Decides.{nat_tests}
use Rattle.std.proofs.lemmas.List.{take_rest}
use Rattle.json.specs.Print.{escape, escape_byte, escape_letter, quoted}
use Rattle.serde_json.specs.Data as json
use Rattle.serde_json.specs.Written.{comma_if, compact_text, items_text, members_text}
use Rattle.wm_audit_text.specs.Audits.{next_line, with_lf}
use Rattle.wm_collections.proofs.Lists.{All-append}

-- ---- the cut

abbrev is_lf : ℕ → Bool
is_lf byte = byte == 10

abbrev Cut : Type 0
Cut = Option (List ℕ × List ℕ)

-- what is cut where the first LF stands at this index, if it stands within
abbrev cut_by : Bool → ℕ → List ℕ → Cut
cut_by within end bytes = cond within (Some (take end bytes, drop (end + 1) bytes)) None

abbrev onto_cut : ℕ → Cut → Cut
onto_cut byte rest = option_map (λ cut. (byte ∷ cut.0, cut.1)) rest

one_more : (within : Bool) (byte end : ℕ) (bytes : List ℕ) → onto_cut byte (cut_by within end bytes) ≡ cut_by within (1 + end) (byte ∷ bytes)
one_more true byte end bytes = simp (one-add, add-one) refl
one_more false byte end bytes = refl

cut_step : (here : Bool) (byte end : ℕ) (bytes : List ℕ) (rest : Cut) → rest ≡ cut_by (nat_lt end (length bytes)) end bytes
    → cond here (Some ([], bytes)) (onto_cut byte rest)
    ≡ cut_by (nat_lt (cond (not here) (1 + end) 0) (length (byte ∷ bytes))) (cond (not here) (1 + end) 0) (byte ∷ bytes)
cut_step true byte end bytes rest is =
    let more : nat_lt 0 (length (byte ∷ bytes)) ≡ true = grind (arith, nat_tests) in
    rw more refl
cut_step false byte end bytes rest is =
    let same : nat_lt (1 + end) (length (byte ∷ bytes)) ≡ nat_lt end (length bytes) = grind (arith, nat_tests) in
    rw same (ap (onto_cut byte) is ∙ one_more (nat_lt end (length bytes)) byte end bytes)

cut-first : (bytes : List ℕ) → next_line bytes ≡ cut_by (nat_lt (position_or_len is_lf bytes) (length bytes)) (position_or_len is_lf bytes) bytes
cut-first [] = refl
cut-first (byte ∷ bytes) = cut_step (is_lf byte) byte (position_or_len is_lf bytes) bytes (next_line bytes) (cut-first bytes)

found_by : (within : Bool) (place end : ℕ) (bytes : List ℕ) → cond within (Some place) None ≡ Some end
    → cut_by within place bytes ≡ Some (take end bytes, drop (end + 1) bytes)
found_by true place end bytes e =
    let same : place ≡ end = cc in
    rw same refl
found_by false place end bytes e = absurd (cc)

missing_by : (within : Bool) (place : ℕ) (bytes : List ℕ) → cond within (Some place) None ≡ None → cut_by within place bytes ≡ None
missing_by true place bytes e = absurd (cc)
missing_by false place bytes e = refl

-- where the first LF stands at an index, the line ends there
pub cut_at : (bytes : List ℕ) (end : ℕ) → position is_lf bytes ≡ Some end → next_line bytes ≡ Some (take end bytes, drop (end + 1) bytes)
cut_at bytes end e = rw (cut-first bytes) (found_by (nat_lt (position_or_len is_lf bytes) (length bytes)) (position_or_len is_lf bytes) end bytes e)

-- where there is no LF, there is no line
pub cut_none : (bytes : List ℕ) → position is_lf bytes ≡ None → next_line bytes ≡ None
cut_none bytes e = rw (cut-first bytes) (missing_by (nat_lt (position_or_len is_lf bytes) (length bytes)) (position_or_len is_lf bytes) bytes e)

pub ruleset line_ends = (cut_at, cut_none, take_rest)

-- ---- no LF

NoLf : List ℕ → Type 0
NoLf text = AllByRecursion (λ byte. (byte == 10) ≡ false) text

large : (byte : ℕ) → 11 ≤ byte → (byte == 10) ≡ false
large byte h = ne_eqb byte 10 (λ e. omega arith)

glyph-large : (d : ℕ) → 11 ≤ digit_glyph false d
glyph-large d = grind (arith, nat_tests)

char-large : (d : ℕ) → 11 ≤ digit_char d
char-large d = grind (arith, nat_tests)

either : (b : Bool) (xs ys : List ℕ) → NoLf xs → NoLf ys → NoLf (cond b xs ys)
either true xs ys one other = one
either false xs ys one other = other

no-digits_onto : (k n : ℕ) (acc : List ℕ) → NoLf acc → NoLf (digits_onto k 10 false n acc)
unfolding NoLf
no-digits_onto zero n acc none = none
no-digits_onto (suc k) n acc none =
    let one = large (digit_glyph false (n % 10)) (glyph-large (n % 10)) in
    either (n / 10 == 0) (digit_glyph false (n % 10) ∷ acc) (digits_onto k 10 false (n / 10) (digit_glyph false (n % 10) ∷ acc)) (one, none)
    (no-digits_onto k (n / 10) (digit_glyph false (n % 10) ∷ acc) (one, none))

no-decimal : (n : ℕ) → NoLf (decimal n)
unfolding digits NoLf
no-decimal n = no-digits_onto 64 n [] tt

no-number : (n : json.Num) → NoLf (compact_text (json.number n))
unfolding NoLf
no-number (json.unsigned n) = no-decimal n
no-number (json.negative (pos n)) = no-decimal n
no-number (json.negative (negsuc n)) = (refl, no-decimal (suc n))
no-number (json.float x) = tt

no-append : (xs ys : List ℕ) → NoLf xs → NoLf ys → NoLf (xs ++ ys)
unfolding NoLf
no-append xs ys one other = All-append (λ byte. (byte == 10) ≡ false) xs ys one other

-- the letter of a short escape
no-letter : (byte : ℕ) → (byte == 10) ≡ false → (escape_letter byte == 10) ≡ false
no-letter byte none = by_tests ((byte == 34) || (byte == 92)) (byte == 8) (byte == 12) (byte == 13) (byte == 9) where
  by_tests : (quote back page return tab : Bool)
      → (cond quote byte (cond back 98 (cond page 102 (cond (byte == 10) 110 (cond return 114 (cond tab 116 0))))) == 10) ≡ false
  by_tests true back page return tab = none
  by_tests false true page return tab = refl
  by_tests false false true return tab = refl
  by_tests false false false true tab = rw none refl
  by_tests false false false false true = rw none refl
  by_tests false false false false false = rw none refl

no-escape_by : (byte : ℕ) (here : Bool) → (byte == 10) ≡ here → NoLf (escape_byte byte)
unfolding escape_byte NoLf
no-escape_by byte true here =
    let same : byte ≡ 10 = eqb-true byte 10 here in
    rw same (refl, (refl, tt))
no-escape_by byte false here =
    let high = large (digit_char (byte / 16)) (char-large (byte / 16)) in
    let low = large (digit_char (byte % 16)) (char-large (byte % 16)) in
    either (nat_lt 0 (escape_letter byte)) _ _ (refl, (no-letter byte here, tt))
    (either (nat_lt byte 32) _ _ (refl, (refl, (refl, (refl, (high, (low, tt)))))) (here, tt))

no-escape : (text : List ℕ) → NoLf (escape text)
unfolding NoLf
no-escape [] = tt
no-escape (byte ∷ text) = no-append (escape_byte byte) (escape text) (no-escape_by byte (byte == 10) refl) (no-escape text)

no-quoted : (text : List ℕ) → NoLf (quoted text)
unfolding NoLf
no-quoted text = (refl, no-append (escape text) (34 ∷ []) (no-escape text) (refl, tt))

no-comma : (later : Bool) → NoLf (comma_if later)
unfolding NoLf
no-comma true = (refl, tt)
no-comma false = tt

mutual
  unfolding NoLf

  no-text : (d : json.Data) → NoLf (compact_text d)
  no-text json.null = (refl, (refl, (refl, (refl, tt))))
  no-text (json.boolean true) = (refl, (refl, (refl, (refl, tt))))
  no-text (json.boolean false) = (refl, (refl, (refl, (refl, (refl, tt)))))
  no-text (json.number n) = no-number n
  no-text (json.string text) = no-quoted text
  no-text (json.array ds) = (refl, no-items false ds)
  no-text (json.object ms) = (refl, no-members false ms)

  no-items : (later : Bool) (ds : json.Items) → NoLf (items_text later ds)
  no-items later json.no_items = (refl, tt)
  no-items later (json.item d ds) =
      no-append (comma_if later) (compact_text d ++ items_text true ds) (no-comma later)
      (no-append (compact_text d) (items_text true ds) (no-text d) (no-items true ds))

  no-members : (later : Bool) (ms : json.Members) → NoLf (members_text later ms)
  no-members later json.no_members = (refl, tt)
  no-members later (json.member key d ms) =
      no-append (comma_if later) (quoted key ++ 58 ∷ (compact_text d ++ members_text true ms)) (no-comma later)
      (no-append (quoted key) (58 ∷ (compact_text d ++ members_text true ms)) (no-quoted key)
      (refl, no-append (compact_text d) (members_text true ms) (no-text d) (no-members true ms)))

cut-line : (line rest : List ℕ) → NoLf line → next_line ((line ++ 10 ∷ []) ++ rest) ≡ Some (line, rest)
unfolding NoLf
cut-line [] rest none = refl
cut-line (byte ∷ line) rest none = rw (none.0, cut-line line rest none.1) refl

pub cut-written : (d : json.Data) (rest : List ℕ) → next_line (with_lf (compact_text d) ++ rest) ≡ Some (compact_text d, rest)
cut-written d rest = cut-line (compact_text d) rest (no-text d)
