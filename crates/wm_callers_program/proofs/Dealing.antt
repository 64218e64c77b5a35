-- Lines that are dealt to callers, one after another.
use Rattle.std.proofs.Common.{◌≡◌, ℕ, zero, suc, ◌+◌, ◌-◌, ◌<◌, ◌==◌, cond, false, List, [], ◌∷◌, ◌++◌, map, length, get_or, set, refl, sym, ap, ap₂, ◌∙◌, arith, eq-eqb, ne_eqb}
use Rattle.std.proofs.lemmas.List.{append-nil, length-map, map-append}
use Rattle.std.proofs.lemmas.List.Elements.{filter-append}
use Rattle.wm_callers_program.specs.Lines.{caller_of, dealt, lines_for, numbers_from, with_line, AskedLine}

-- ---- the numbers

-- the last of them
pub numbers-push : (first count : ℕ) → numbers_from first (suc count) ≡ numbers_from first count ++ (first + count) ∷ []
numbers-push first zero = let at : first ≡ first + 0 = omega arith in ap (λ n. n ∷ []) at
numbers-push first (suc count) =
    let at : suc first + count ≡ first + suc count = omega arith in
    ap (λ rest. first ∷ rest) (numbers-push (suc first) count ∙ ap (λ n. numbers_from (suc first) count ++ n ∷ []) at)

pub numbers-length : (first count : ℕ) → length (numbers_from first count) ≡ count
numbers-length first zero = refl
numbers-length first (suc count) = ap suc (numbers-length (suc first) count)

-- one lot more, without lines
pub dealt-none : (callers count : ℕ) → map (λ number. lines_for callers number []) (numbers_from 0 (count + 1))
    ≡ map (λ number. lines_for callers number []) (numbers_from 0 count) ++ [] ∷ []
dealt-none callers count =
    let next : count + 1 ≡ suc count = omega arith in
    ap (λ n. map (λ number. lines_for callers number []) (numbers_from 0 n)) next
    ∙ ap (map (λ number. lines_for callers number [])) (numbers-push 0 count)
    ∙ map-append (λ number. lines_for callers number []) (numbers_from 0 count) ((0 + count) ∷ [])

-- ---- a line more

module _ (callers : ℕ) (lines : List AskedLine) (line : AskedLine) where
  abbrev more : List AskedLine
  more = lines ++ line ∷ []

  -- it goes to its caller
  hit : (number : ℕ) → caller_of callers line ≡ number → lines_for callers number more ≡ lines_for callers number lines ++ line ∷ []
  hit number is =
      filter-append (λ (l : AskedLine). caller_of callers l == number) lines (line ∷ [])
      ∙ ap (λ test. lines_for callers number lines ++ cond test (line ∷ []) []) (eq-eqb (caller_of callers line) number is)

  -- and to no other
  miss : (number : ℕ) → ((caller_of callers line == number) ≡ false) → lines_for callers number more ≡ lines_for callers number lines
  miss number isnt =
      filter-append (λ (l : AskedLine). caller_of callers l == number) lines (line ∷ [])
      ∙ ap (λ test. lines_for callers number lines ++ cond test (line ∷ []) []) isnt
      ∙ append-nil (lines_for callers number lines)

  others : (first count : ℕ) → caller_of callers line < first
      → map (λ number. lines_for callers number more) (numbers_from first count) ≡ map (λ number. lines_for callers number lines) (numbers_from first count)
  others first zero below = refl
  others first (suc count) below =
      ap₂ ◌∷◌ (miss first (ne_eqb (caller_of callers line) first (λ is. absurd (omega (arith, below, is))))) (others (suc first) count (omega (arith, below)))

  deals : (first count place : ℕ) → first + place ≡ caller_of callers line → place < count
      → with_line place line (map (λ number. lines_for callers number lines) (numbers_from first count))
      ≡ map (λ number. lines_for callers number more) (numbers_from first count)
  deals first zero place at below = absurd (omega (arith, below))
  deals first (suc count) zero at below =
      let here : caller_of callers line ≡ first = omega (arith, at) in
      sym (ap₂ ◌∷◌ (hit first here) (others (suc first) count (omega (arith, here))))
  deals first (suc count) (suc place) at below =
      let before_it = miss first (ne_eqb (caller_of callers line) first (λ is. absurd (omega (arith, at, is)))) in
      ap₂ ◌∷◌ (sym before_it) (deals (suc first) count place (omega (arith, at)) (omega (arith, below)))

-- a line that is dealt to its caller
pub dealt-more : (callers place : ℕ) (lines : List AskedLine) (line : AskedLine) → place ≡ caller_of callers line → place < callers
    → with_line place line (dealt callers lines) ≡ dealt callers (lines ++ line ∷ [])
dealt-more callers place lines line at below = deals callers lines line 0 callers place (omega (arith, at)) below

-- ---- a place that is set

-- a lot that is replaced by one with a line more
pub set-line : (line : AskedLine) (place : ℕ) (lots : List (List AskedLine)) (d : List AskedLine) → place < length lots
    → set lots place (get_or lots place d ++ line ∷ []) ≡ with_line place line lots
set-line line place [] d below = absurd (omega (arith, below))
set-line line zero (lot ∷ lots) d below = refl
set-line line (suc place) (lot ∷ lots) d below = ap (λ rest. lot ∷ rest) (set-line line place lots d (omega (arith, below)))

pub dealt-length : (callers : ℕ) (lines : List AskedLine) → length (dealt callers lines) ≡ callers
dealt-length callers lines = length-map (numbers_from 0 callers) (λ number. lines_for callers number lines) ∙ numbers-length 0 callers
