-- The bytes that are taken from a source.
use Rattle.std.proofs.Common.{ℕ, List, ◌++◌, Option, Some, None, option_map, sym, ◌∙◌, ap, append_assoc}
use Rattle.wm_beginning.specs.Script.{IsTakenFrom}

-- what is taken after something was taken
pub IsTakenFrom-append : (before between now : Option (List ℕ)) (first second : List ℕ) → IsTakenFrom before between first → IsTakenFrom between now second
    → IsTakenFrom before now (first ++ second)
IsTakenFrom-append before between None first second taken more = taken ∙ ap (option_map (λ l. first ++ l)) more
IsTakenFrom-append before between (Some rest) first second taken more =
    taken ∙ ap (option_map (λ l. first ++ l)) more ∙ ap (λ (l : List ℕ). Some l) (sym (append_assoc first second rest))
