-- Whether two infos are the same: an answer that is tied to `≡`, whatever computes it.
use Rattle.std.proofs.Common.{◌≡◌, ℕ, Bool, true, List, Option, Some, None, Decides, refl, eqb, ap, sym, ◌∙◌}
use Rattle.std.specs.Cmp.{unsigned_Decides}
use Rattle.std.specs.Cmp.Lexicographic.{bytes_decides, pointwise_decides}
use Rattle.std.specs.Option.{option_eq}
use Rattle.std.specs.Str.{bytes_eq}
use Rattle.std.proofs.lemmas.Bool.{and_parts, false≢true}
use Rattle.wm_data.proofs.Equal.{data_decides}
use Rattle.wm_machine.specs.contracts.record.ShownPartialEq.TheImpl as states
use Rattle.wm_machine.specs.contracts.reply.WorkInfoEq.TheImpl.Laws.{laws-law}
use Rattle.wm_machine.specs.contracts.reply.WorkInfoPartialEq.TheImpl as infos
use Rattle.wm_machine.specs.declared.record.Shown.{Shown}
use Rattle.wm_machine.specs.declared.record.Shown.TheVariants as shown
use Rattle.wm_machine.specs.declared.reply.WorkInfo.{WorkInfo}

-- whether it holds, which is known
pub record Decided (P : Type 0) : Type 0 where
  pub holds : Bool
  pub decides : Decides holds P

same_name : (one other : Option (List ℕ)) → option_eq bytes_eq one other ≡ true → one ≡ other
same_name None None e = refl
same_name None (Some other) e = absurd (false≢true e)
same_name (Some one) None e = absurd (false≢true e)
same_name (Some one) (Some other) e = ap Some ((bytes_decides one other).0 e)

same_due : (one other : Option ℕ) → option_eq eqb one other ≡ true → one ≡ other
same_due None None e = refl
same_due None (Some other) e = absurd (false≢true e)
same_due (Some one) None e = absurd (false≢true e)
same_due (Some one) (Some other) e = ap Some ((unsigned_Decides one other).0 e)

same_state : (one other : Shown) → states.eq-value.it one other ≡ true → one ≡ other
same_state shown.Enqueued shown.Enqueued e = refl
same_state shown.Running shown.Running e = refl
same_state shown.Succeeded shown.Succeeded e = refl
same_state shown.Failed shown.Failed e = refl
same_state shown.Blocked shown.Blocked e = refl
same_state shown.Cancelled shown.Cancelled e = refl
same_state one other e = absurd (false≢true e)

-- each step parts a field from the fields after it
same : (one other : WorkInfo) → infos.eq-value.it one other ≡ true → one ≡ other
same one other e i =
    let seq = and_parts _ _ e in
    let id = and_parts _ _ seq.1 in
    let name = and_parts _ _ id.1 in
    let state = and_parts _ _ name.1 in
    let attempt = and_parts _ _ state.1 in
    let due = and_parts _ _ attempt.1 in
    let generation = and_parts _ _ due.1 in
    let output = and_parts _ _ generation.1 in
    let progress = and_parts _ _ output.1 in
    record {
      seq = (unsigned_Decides one.seq other.seq).0 seq.0 i;
      id = (bytes_decides one.id other.id).0 id.0 i;
      name = same_name one.name other.name name.0 i;
      state = same_state one.state other.state state.0 i;
      attempt = (unsigned_Decides one.attempt other.attempt).0 attempt.0 i;
      due = same_due one.due other.due due.0 i;
      generation = (unsigned_Decides one.generation other.generation).0 generation.0 i;
      output = (data_decides one.output other.output).0 output.0 i;
      progress = (data_decides one.progress other.progress).0 progress.0 i;
      tags = (pointwise_decides bytes_decides one.tags other.tags).0 progress.1 i;
    }

pub eq_decides : (one other : WorkInfo) → Decides (infos.eq-value.it one other) (one ≡ other)
eq_decides one other = (same one other, λ e. sym (ap (λ x. infos.eq-value.it one x) e) ∙ laws-law.refl one)

-- whether two infos are the same
unfoldable pub decided : (one other : WorkInfo) → Decided (one ≡ other)
decided one other = record { holds = infos.eq-value.it one other; decides = eq_decides one other }
