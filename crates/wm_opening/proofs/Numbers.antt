-- The number of a record among records in order: whether it is there, and which is the next.
use Rattle.std.proofs.Common.{◌≡◌, ℕ, suc, ◌+◌, ◌-◌, ◌||◌, eqb, List, [], ◌∷◌, length, slice_get, Some, is_some, refl, ap, ◌∙◌, arith}
use Rattle.std.proofs.lemmas.Bool.{cond_both}
use Rattle.wm_machine.proofs.Runnings.{WorksAscend}
use Rattle.wm_machine.specs.Input.{work_numbered}
use Rattle.wm_machine.specs.Opened.{next_number}
use Rattle.wm_machine.specs.declared.record.Record.{Record}
use Rattle.wm_changes.specs.Nodes.{is_there}

-- a record of a number is found where one is there
pub numbered-there : (number : ℕ) (works : List Record) → is_some (work_numbered number works) ≡ is_there works number
numbered-there number [] = refl
numbered-there number (work ∷ works) =
    cond_both (eqb work.seq number) (Some work) (work_numbered number works) (λ o. is_some o ≡ (eqb work.seq number || is_there works number))
    (λ e. rw e refl) (λ e. rw e (numbered-there number works))

-- the next number comes after that of the last of records in order
pub next-last : (works : List Record) (last : Record) → WorksAscend works → Some last ≡ slice_get works (length works - 1) → last.seq + 1 ≡ next_number works
next-last [] last ascend is = absurd (cc)
next-last (one ∷ []) last ascend is = let same : last ≡ one = cc in ap (λ (w : Record). w.seq + 1) same ∙ omega arith
next-last (one ∷ next ∷ works) last ascend is =
    let at_end : suc (suc (length works)) - 1 ≡ suc (suc (length works) - 1) = omega arith in
    let rest = next-last (next ∷ works) last ascend.1 (is ∙ ap (slice_get (one ∷ next ∷ works)) at_end) in
    let less = ascend.0.0 in
    omega (arith, rest, less)
