-- What `==` tells of two rows: whether they are the same.
use Rattle.std.proofs.Common.{◌≡◌, ℕ, true, List, Option, Some, None, Decides, refl, ap, sym, ◌∙◌}
use Rattle.std.specs.Cmp.{signed_Decides, unsigned_Decides}
use Rattle.std.specs.Cmp.Lexicographic.{pointwise_decides, bytes_decides}
use Rattle.std.specs.Option.{option_eq}
use Rattle.std.specs.Str.{bytes_eq}
use Rattle.std.proofs.lemmas.Bool.{and_parts, false≢true}
use Rattle.wm_keeper.specs.contracts.row.RowEq.TheImpl.Laws.{laws-law}
use Rattle.wm_keeper.specs.contracts.row.RowPartialEq.TheImpl as rows
use Rattle.wm_keeper.specs.declared.row.Row.{Row}

same_name : (one other : Option (List ℕ)) → option_eq bytes_eq one other ≡ true → one ≡ other
same_name None None e = refl
same_name None (Some other) e = absurd (false≢true e)
same_name (Some one) None e = absurd (false≢true e)
same_name (Some one) (Some other) e = ap Some ((bytes_decides one other).0 e)

-- each step parts a field from the fields after it
same_row : (one other : Row) → rows.eq-value.it one other ≡ true → one ≡ other
same_row one other e i =
    let version = and_parts _ _ e in
    let seq = and_parts _ _ version.1 in
    let id = and_parts _ _ seq.1 in
    let name = and_parts _ _ id.1 in
    let class = and_parts _ _ name.1 in
    let kind = and_parts _ _ class.1 in
    let period = and_parts _ _ kind.1 in
    let flex = and_parts _ _ period.1 in
    let delay = and_parts _ _ flex.1 in
    let policy = and_parts _ _ delay.1 in
    let wait = and_parts _ _ policy.1 in
    let merger = and_parts _ _ wait.1 in
    let network = and_parts _ _ merger.1 in
    let flags = and_parts _ _ network.1 in
    let phase = and_parts _ _ flags.1 in
    let attempt = and_parts _ _ phase.1 in
    let backoff_n = and_parts _ _ attempt.1 in
    let runs = and_parts _ _ backoff_n.1 in
    let generation = and_parts _ _ runs.1 in
    let enqueued_at = and_parts _ _ generation.1 in
    let input = and_parts _ _ enqueued_at.1 in
    let output = and_parts _ _ input.1 in
    let prior = and_parts _ _ output.1 in
    let tags = and_parts _ _ prior.1 in
    let next_at = and_parts _ _ tags.1 in
    let keep_for = and_parts _ _ next_at.1 in
    record {
      version = (signed_Decides one.version other.version).0 version.0 i;
      seq = (signed_Decides one.seq other.seq).0 seq.0 i;
      id = (pointwise_decides unsigned_Decides one.id other.id).0 id.0 i;
      name = same_name one.name other.name name.0 i;
      class = (bytes_decides one.class other.class).0 class.0 i;
      kind = (signed_Decides one.kind other.kind).0 kind.0 i;
      period = (signed_Decides one.period other.period).0 period.0 i;
      flex = (signed_Decides one.flex other.flex).0 flex.0 i;
      delay = (signed_Decides one.delay other.delay).0 delay.0 i;
      policy = (signed_Decides one.policy other.policy).0 policy.0 i;
      wait = (signed_Decides one.wait other.wait).0 wait.0 i;
      merger = (signed_Decides one.merger other.merger).0 merger.0 i;
      network = (signed_Decides one.network other.network).0 network.0 i;
      flags = (signed_Decides one.flags other.flags).0 flags.0 i;
      phase = (signed_Decides one.phase other.phase).0 phase.0 i;
      attempt = (signed_Decides one.attempt other.attempt).0 attempt.0 i;
      backoff_n = (signed_Decides one.backoff_n other.backoff_n).0 backoff_n.0 i;
      runs = (signed_Decides one.runs other.runs).0 runs.0 i;
      generation = (signed_Decides one.generation other.generation).0 generation.0 i;
      enqueued_at = (signed_Decides one.enqueued_at other.enqueued_at).0 enqueued_at.0 i;
      input = (bytes_decides one.input other.input).0 input.0 i;
      output = (bytes_decides one.output other.output).0 output.0 i;
      prior = (pointwise_decides signed_Decides one.prior other.prior).0 prior.0 i;
      tags = (pointwise_decides bytes_decides one.tags other.tags).0 tags.0 i;
      next_at = (signed_Decides one.next_at other.next_at).0 next_at.0 i;
      keep_for = (signed_Decides one.keep_for other.keep_for).0 keep_for.0 i;
      finished_at = (signed_Decides one.finished_at other.finished_at).0 keep_for.1 i;
    }

pub row_decides : (one other : Row) → Decides (rows.eq-value.it one other) (one ≡ other)
row_decides one other = (same_row one other, λ e. sym (ap (λ x. rows.eq-value.it one x) e) ∙ laws-law.refl one)
