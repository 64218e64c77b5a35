use Rattle.std.proofs.Common.{◌≡◌, ℕ, suc, ◌<◌, List, [], ◌∷◌, length, map, slice_index_or, refl, ap₂, arith, rules}
use Rattle.wm_callers.specs.PassState.{PassState}
use Rattle.run_tests.proofs.enqueuing.enqueue_all.Goals as goal

-- passes that keep their numbers, place by place
numbers-each : (olds news : List PassState) → length news ≡ length olds
    → ((k : ℕ) (d : PassState) → k < length olds → (slice_index_or news k d).number ≡ (slice_index_or olds k d).number)
    → map (λ (pass : PassState). pass.number) news ≡ map (λ (pass : PassState). pass.number) olds
numbers-each [] [] len each = refl
numbers-each [] (new ∷ news) len each = absurd (omega (arith, len))
numbers-each (old ∷ olds) [] len each = absurd (omega (arith, len))
numbers-each (old ∷ olds) (new ∷ news) len each =
    ap₂ (λ (n : ℕ) (l : List ℕ). n ∷ l) (each 0 old (omega arith))
    (numbers-each olds news (omega (arith, len)) (λ k d below. each (suc k) d (omega (arith, below))))

pub returns : goal.returns
returns g c = numbers-each _ _ (search rules) (λ k d below. let same = (c.for_each_mut.ensures k d below).1 in search rules)
