-- Works that wait and are numbered from 1 on, each with its number as its id, stand in order.
use Rattle.std.proofs.Common.{◌≡◌, ◌≢◌, ℕ, ◌+◌, ◌^◌, ◌<◌, ◌≤◌, List, [], ◌∷◌, ◌++◌, length, length-append, Option, Some, None, sym, ◌∙◌, ap, arith}
use Rattle.std.specs.Int.{from_be_bytes, to_be_bytes, w128}
use Rattle.std.proofs.lemmas.List.Elements.{All-from_recursion}
use Rattle.uuid.proofs.OrderLemmas.{from_be_bytes-to_be_bytes_16}
use Rattle.wm_collections.proofs.Lists.{All-push, All-weaker, All-with2, AllLater-push}
use Rattle.wm_machine.proofs.Records.{no_override}
use Rattle.wm_machine.specs.Valid.{IsBefore, IsOfKind}
use Rattle.wm_machine.specs.declared.record.Phase.TheVariants as phase
use Rattle.wm_machine.specs.declared.record.Record.{Record}
use Rattle.wm_schedule.specs.declared.schedule.Period.{Period}
use Rattle.command_tests.specs.Waiting.{AreWaiting, IsNumbered, IsPlain, IsWaiting}

-- ---- one work

-- a work that waits may be of either kind
of_kind : (period : Option Period) (work : Record) → IsPlain phase.Waiting [] work → IsOfKind period work
of_kind None work plain = plain.runs
of_kind (Some period) work plain = record { phase_is = rw plain.phase_is tt; no_output = plain.output; no_prerequisite = plain.prior }

-- it is within the limits of a record
numbered_waits : (seq : ℕ) (work : Record) → 1 ≤ seq → seq < 2 ^ 53 → IsNumbered seq work → IsWaiting work
numbered_waits seq work first fits numbered =
    let is = numbered.number in
    let plain = numbered.plain in
    let attempt = plain.attempt in
    let backoff_n = plain.backoff_n in
    let runs = plain.runs in
    let generation = plain.generation in
    let enqueued_at = plain.enqueued_at in
    let finished_at = plain.finished_at in
    record {
      within = record {
        number = omega (arith, is, first);
        fits = record {
          seq = omega (arith, is, fits);
          prior = rw plain.prior (All-from_recursion (λ number. number < 2 ^ 53) [] tt);
          generation = omega (arith, generation);
          enqueued_at = omega (arith, enqueued_at);
          override_at = rw plain.override_at tt;
          finished_at = omega (arith, finished_at);
        };
        name = numbered.short;
        request = numbered.request;
        prior = rw plain.prior (record { few = omega arith; different = tt; earlier = tt });
        attempt = omega (arith, attempt);
        started = rw plain.phase_is tt;
        backoff_n = omega (arith, attempt, backoff_n);
        runs = omega (arith, runs);
        kind = of_kind work.request.period work plain;
        leaves = numbered.leaves;
        override_at = rw plain.override_at (no_override work.request.period);
        finished_at = rw plain.phase_is finished_at;
        output = rw plain.phase_is plain.output;
        progress = rw plain.phase_is plain.progress;
      };
      id = numbered.id ∙ ap (to_be_bytes w128) (sym is);
      waits = plain.phase_is;
      after_none = plain.prior;
    }

-- ---- many

-- so many works that are numbered from 1 on
pub record AreNumberedTo (last : ℕ) (works : List Record) : Type 0 where
  pub count : length works ≡ last
  pub waiting : AreWaiting works

-- numbers that differ are different ids
differ : (one other : ℕ) → one < other → other < 2 ^ 128 → to_be_bytes w128 one ≢ to_be_bytes w128 other
differ one other below fits same =
    let small : one < 2 ^ 128 = omega (arith, below, fits) in
    let equal : one ≡ other = sym (from_be_bytes-to_be_bytes_16 one small) ∙ ap (from_be_bytes w128) same ∙ from_be_bytes-to_be_bytes_16 other fits in
    absurd (omega (arith, equal, below))

-- the next work stands after each that is there
before_next : (last : ℕ) (work next : Record) → last ≤ 100000 → IsNumbered (last + 1) next → work.seq ≤ last → IsWaiting work → IsBefore work next
before_next last work next few numbered up waiting =
    let is = numbered.number in
    let first = waiting.within.number in
    let below : work.seq < next.seq = omega (arith, is, up) in
    let small : next.seq < 2 ^ 128 = omega (arith, is, few) in
    let own : next.request.id ≡ to_be_bytes w128 next.seq = numbered.id ∙ ap (to_be_bytes w128) (sym is) in
    record {
      number = below;
      id = λ same. differ work.seq next.seq below small (sym waiting.id ∙ same ∙ own);
      name = λ name is also. let none = numbered.name (omega (arith, first, up)) in absurd (cc);
    }

-- one work more
pub one_more : (last : ℕ) (works : List Record) (work : Record) → last < 100000 → IsNumbered (last + 1) work → AreNumberedTo last works
    → AreNumberedTo (last + 1) (works ++ work ∷ [])
one_more last works work few numbered before =
    let is = numbered.number in
    let count = before.count in
    let more : length (works ++ work ∷ []) ≡ last + 1 = omega (arith, count, length-append works (work ∷ [])) in
    record {
      count = more;
      waiting = record {
        numbers = All-push _ works work (All-weaker works (λ other up. omega (arith, up, count, more)) before.waiting.numbers) (omega (arith, is, more));
        each = All-push _ works work before.waiting.each (numbered_waits (last + 1) work (omega arith) (omega (arith, few)) numbered);
        in_order =
            AllLater-push _ works work before.waiting.in_order
            (All-with2 works (λ other one waits. let up = one in before_next last other work (omega (arith, few)) numbered (omega (arith, up, count)) waits)
            before.waiting.numbers before.waiting.each);
      };
    }
