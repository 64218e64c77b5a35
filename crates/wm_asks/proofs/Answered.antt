-- How many answers a clock has given.
use Rattle.std.proofs.Common.{◌≡◌, ℕ, zero, suc, ◌+◌, List, [], ◌∷◌, ◌++◌, length, refl, ap, ◌∙◌, arith}
use Rattle.std.proofs.lemmas.List.{length-append}
use Rattle.wm_asks.specs.Clocks.{answers_of, stepped}

pub length-answers : (step count : ℕ) → length (answers_of step count) ≡ count
length-answers step zero = refl
length-answers step (suc count) =
    length-append (answers_of step count) (stepped step (suc count) ∷ []) ∙ ap (λ n. n + 1) (length-answers step count) ∙ omega arith
