-- Texts that are given to a sink one after another, or in pieces.
use Rattle.std.proofs.Common.{◌≡◌, ℕ, ◌-◌, ◌+◌, List, [], ◌++◌, length, take, drop, Option, Some, None, option_map, refl, sym, ◌∙◌, ap, arith, append_assoc, length-drop}
use Rattle.std.proofs.lemmas.List.{append-nil, take_all}
use Rattle.std.proofs.Math.Seq.{take-add}
use Rattle.wm_io.specs.Writing.{IsAppended}

-- a text after a text is one text
pub IsAppended-append : (before between now : Option (List ℕ)) (first second : List ℕ) → IsAppended before between first → IsAppended between now second
    → IsAppended before now (first ++ second)
IsAppended-append None between now first second given more = more ∙ ap (option_map (λ l. l ++ second)) given
IsAppended-append (Some bytes) between now first second given more =
    more ∙ ap (option_map (λ l. l ++ second)) given ∙ ap (λ (l : List ℕ). Some l) (append_assoc bytes first second)

-- nothing is given
pub IsAppended-nothing : (before : Option (List ℕ)) → IsAppended before before []
IsAppended-nothing None = refl
IsAppended-nothing (Some bytes) = ap (λ (l : List ℕ). Some l) (sym (append-nil bytes))

-- a front of the text, and then a piece of its rest
pub IsAppended-piece : (before between now : Option (List ℕ)) (text : List ℕ) (taken count : ℕ) → IsAppended before between (take taken text)
    → IsAppended between now (take count (take (length text - taken) (drop taken text))) → IsAppended before now (take (taken + count) text)
IsAppended-piece before between now text taken count given more =
    let tail : take (length text - taken) (drop taken text) ≡ drop taken text =
    take_all (length text - taken) (drop taken text) (omega (arith, length-drop taken text)) in
    IsAppended-append before between now (take taken text) (take count (take (length text - taken) (drop taken text))) given more
    ∙ ap (λ (l : List ℕ). option_map (λ given. given ++ l) before) (ap (λ (l : List ℕ). take taken text ++ take count l) tail ∙ sym (take-add taken count text))
