-- What is read from a row has that row.
use Rattle.std.proofs.Common.{◌≡◌, ℕ, ◌^◌, ◌<◌, ◌≤◌, ◌==◌, pos, Bool, true, false, not, ◌&&◌, ◌||◌, List, [], ◌∷◌, length, map, nat_le, Option, Some, None, option_map, IfSome, IfOk, Result, Ok, Err, refl, sym, ap, ◌∙◌, subst, inl, inr, arith}
use Rattle.std.proofs.lemmas.Bool.{and_parts, eqb-true, leb-true}
use Rattle.std.proofs.lemmas.List.Elements.{All-from_recursion}
use Rattle.std.specs.List.{list_all}
use Rattle.std.specs.Result.{result_ok}
use Rattle.std.specs.Str.{bytes_eq}
use Rattle.serde_json.specs.Read.{read}
use Rattle.wm_collections.proofs.Lists.{all_pass, All-weaker}
use Rattle.wm_data.proofs.ReadData.{IsData-read_data}
use Rattle.wm_data.specs.DataJson.{data_text}
use Rattle.wm_data.specs.DataRead.{read_data}
use Rattle.wm_data.specs.Size.{IsData}
use Rattle.wm_data.specs.declared.data.DataEntry.{DataEntry}
use Rattle.wm_data.specs.declared.fault.DataFault.{DataFault}
use Rattle.wm_keeper.specs.declared.row.Row.{Row}
use Rattle.wm_machine.proofs.Placings.{bytes_eq-same}
use Rattle.wm_machine.specs.Rows.{flags_code, flex_code, kind_code, merger_code, network_code, period_code, phase_code, policy_code, row_of, FitsFirstForm, IsRowOf}
use Rattle.wm_machine.specs.Valid.{IsAttemptIn, IsFinishedIn, IsOfKind, IsOutputIn, IsOverrideOf, IsPeriodicPhase}
use Rattle.wm_machine.specs.declared.record.How.TheVariants as how
use Rattle.wm_machine.specs.declared.record.Phase.{Phase}
use Rattle.wm_machine.specs.declared.record.Phase.TheVariants as phase
use Rattle.wm_machine.specs.declared.record.Record.{Record}
use Rattle.wm_request.proofs.Limits.{IsShortText-is_short}
use Rattle.wm_request.specs.Building.{is_short}
use Rattle.wm_request.specs.Requests.{AreTags, IsRequest, IsShortText, RequestFields}
use Rattle.wm_rows.proofs.FieldCodes.{ArePriorIn, bound, constraints_in-read, form_in-read, IsMomentIn, IsNumberIn, may_be_in, merger-read, moment_in-read, number_in-read, version_of, of_some, passed, period_in-read, phase_in-read, policy-read, prior_in-read, row_in}
use Rattle.wm_rows.proofs.Tags.{AscendByBytes-ascend}
use Rattle.wm_rows.specs.Fields.{are_tags, ascend, coded, constraints_in, data_in, form_in, greatest, has_given, id_in, last_finish, least_attempt, may_override, mergers, moment_in, most_keep, most_prior, most_runs, name_in, number_in, output_in, period_in, phase_in, policies, prior_in, short_in, tags_in, where_it_is}
use Rattle.wm_rows.specs.Grammar.{asked_of, AreTerms, IsStored, read_row, record_of, request_in, standing_in, terms_in}
use Rattle.wm_rows.specs.declared.fields.Form.{Form}
use Rattle.wm_rows.specs.declared.fields.Form.TheVariants.{First, Second}
use Rattle.wm_rows.specs.declared.reading.Standing.{Standing}
use Rattle.wm_rows.specs.declared.reading.Terms.{Terms}
use Rattle.wm_schedule.specs.declared.schedule.Period.{Period}

-- ---- texts

ok_of : (answer : Result (List DataEntry) DataFault) (entries : List DataEntry) → IfOk answer IsData → result_ok answer ≡ Some entries → IsData entries
ok_of (Ok read) entries is same = let e : read ≡ entries = cc in subst IsData e is
ok_of (Err fault) entries is same = absurd (cc)

data_in-read : (text : List ℕ) (entries : List DataEntry) → data_in text ≡ Some entries → (data_text entries ≡ text) × IsData entries
unfolding data_in
data_in-read text entries is =
    let json = bound (read text) _ entries is in
    let read_as = bound (result_ok (read_data json.0)) _ entries json.2 in
    let both = passed (bytes_eq (data_text read_as.0) text) read_as.0 entries read_as.2 in
    subst (λ (es : List DataEntry). (data_text es ≡ text) × IsData es) both.1
    (bytes_eq-same (data_text read_as.0) text both.0, ok_of (read_data json.0) read_as.0 (IsData-read_data json.0) read_as.1)

empty_of : (entries : List DataEntry) → (length entries == 0) ≡ true → entries ≡ []
empty_of [] is = refl
empty_of (entry ∷ entries) is = absurd (omega (arith, eqb-true (length (entry ∷ entries)) 0 is))

given : (p : Phase) (output : List DataEntry) → IsData output → (has_given p || (length output == 0)) ≡ true → IsOutputIn p output
given phase.Waiting output is may = empty_of output may
given phase.Running output is may = empty_of output may
given (phase.Done how.Succeeded) output is may = is
given (phase.Done how.Failed) output is may = is
given (phase.Done how.Cancelled) output is may = empty_of output may

output_in-read : (p : Phase) (text : List ℕ) (output : List DataEntry) → output_in p text ≡ Some output → (data_text output ≡ text) × IsOutputIn p output
unfolding output_in
output_in-read p text output is =
    let data_is = bound (data_in text) _ output is in
    let both = passed (has_given p || (length data_is.0 == 0)) data_is.0 output data_is.2 in
    let of_text = data_in-read text data_is.0 data_is.1 in
    subst (λ (es : List DataEntry). (data_text es ≡ text) × IsOutputIn p es) both.1 (of_text.0, given p data_is.0 of_text.1 both.0)

name_in-read : (name read_as : Option (List ℕ)) → name_in name ≡ Some read_as → (read_as ≡ name) × IfSome read_as IsShortText
name_in-read None read_as is = let same : None ≡ read_as = cc in subst (λ (o : Option (List ℕ)). (o ≡ None) × IfSome o IsShortText) same (refl, tt)
name_in-read (Some name) read_as is = by_test (is_short name) refl is where
  by_test : (b : Bool) → is_short name ≡ b → option_map Some (where_it_is b name) ≡ Some read_as → (read_as ≡ Some name) × IfSome read_as IsShortText
  by_test true short same =
      let e : Some name ≡ read_as = cc in
      subst (λ (o : Option (List ℕ)). (o ≡ Some name) × IfSome o IsShortText) e (refl, IsShortText-is_short name short)
  by_test false short same = absurd (cc)

AreTags-are_tags : (tags : List (List ℕ)) → are_tags tags ≡ true → AreTags tags
AreTags-are_tags tags are =
    let parts = and_parts (nat_le (length tags) 32) (list_all is_short tags && ascend tags) are in
    let sorted = and_parts (list_all is_short tags) (ascend tags) parts.1 in
    record {
      few = leb-true (length tags) 32 parts.0;
      sorted = record {
        short = All-weaker tags (λ tag short. IsShortText-is_short tag short) (all_pass is_short tags sorted.0);
        ascending = AscendByBytes-ascend tags sorted.1;
      };
    }

-- ---- what was asked for

-- terms that are read have these codes, and are within their limits
record AreTermsOf (form : Form) (row : Row) (terms : Terms) : Type 0 where
  kind : kind_code terms.period ≡ row.kind
  period : period_code terms.period ≡ row.period
  flex : flex_code terms.period ≡ row.flex
  delay : pos terms.initial_delay ≡ row.delay
  policy : policy_code terms.backoff.policy ≡ row.policy
  wait : pos terms.backoff.delay ≡ row.wait
  merger : merger_code terms.merger ≡ row.merger
  network : network_code terms.constraints.network ≡ row.network
  flags : flags_code terms.constraints ≡ row.flags
  keep : IsNumberIn 0 (most_keep form) row.keep_for terms.keep
  within : AreTerms terms

kept_most : (form : Form) → most_keep form ≤ 315360000000
kept_most First = omega arith
kept_most Second = omega arith

terms_in-read : (form : Form) (row : Row) (terms : Terms) → terms_in form row ≡ Some terms → AreTermsOf form row terms
unfolding terms_in
terms_in-read form row terms is =
    let period = bound (period_in row.kind row.period row.flex) _ terms is in
    let delay = bound (number_in 0 315360000000 row.delay) _ terms period.2 in
    let policy = bound (coded policies row.policy) _ terms delay.2 in
    let wait = bound (number_in 10000 18000000 row.wait) _ terms policy.2 in
    let merger = bound (coded mergers row.merger) _ terms wait.2 in
    let constraints = bound (constraints_in row.network row.flags) _ terms merger.2 in
    let p = period_in-read row.kind row.period row.flex period.0 period.1 in
    let d = number_in-read 0 315360000000 row.delay delay.0 delay.1 in
    let w = number_in-read 10000 18000000 row.wait wait.0 wait.1 in
    let keep = bound (number_in 0 (most_keep form) row.keep_for) _ terms constraints.2 in
    let c = constraints_in-read row.network row.flags constraints.0 constraints.1 in
    let k = number_in-read 0 (most_keep form) row.keep_for keep.0 keep.1 in
    subst (AreTermsOf form row) (of_some keep.2) (record {
      kind = p.kind_is;
      period = p.value_is;
      flex = p.flex_is;
      delay = d.is;
      policy = policy-read row.policy policy.0 policy.1;
      wait = w.is;
      merger = merger-read row.merger merger.0 merger.1;
      network = c.0;
      flags = c.1;
      keep = k;
      within = record {
        backoff = record { least = w.above; most = w.below };
        delay = d.below;
        period = p.within;
        keep = omega (arith, k.below, kept_most form);
      };
    })

-- ---- how far it has come

record IsStandingOf (form : Form) (period : Option Period) (row : Row) (standing : Standing) : Type 0 where
  seq : IsNumberIn 1 greatest row.seq standing.seq
  phase : phase_code standing.phase ≡ row.phase
  may : may_be_in period standing.phase ≡ true
  attempt : IsNumberIn (least_attempt standing.phase) 1000000 row.attempt standing.attempt
  backoff_n : IsNumberIn 0 standing.attempt row.backoff_n standing.backoff_n
  runs : IsNumberIn 0 (most_runs period) row.runs standing.runs
  generation : IsNumberIn 0 greatest row.generation standing.generation
  enqueued_at : IsNumberIn 0 greatest row.enqueued_at standing.enqueued_at
  override_at : IsMomentIn (may_override form period) row.next_at standing.override_at
  finished_at : IsNumberIn 0 (last_finish form standing.phase) row.finished_at standing.finished_at

standing_in-read : (form : Form) (terms : Terms) (row : Row) (standing : Standing) → standing_in form terms row ≡ Some standing
    → IsStandingOf form terms.period row standing
unfolding standing_in
standing_in-read form terms row standing is =
    let seq = bound (number_in 1 greatest row.seq) _ standing is in
    let phase = bound (phase_in terms.period row.phase) _ standing seq.2 in
    let attempt = bound (number_in (least_attempt phase.0) 1000000 row.attempt) _ standing phase.2 in
    let backoff_n = bound (number_in 0 attempt.0 row.backoff_n) _ standing attempt.2 in
    let runs = bound (number_in 0 (most_runs terms.period) row.runs) _ standing backoff_n.2 in
    let generation = bound (number_in 0 greatest row.generation) _ standing runs.2 in
    let enqueued_at = bound (number_in 0 greatest row.enqueued_at) _ standing generation.2 in
    let override_at = bound (moment_in (may_override form terms.period) row.next_at) _ standing enqueued_at.2 in
    let finished_at = bound (number_in 0 (last_finish form phase.0) row.finished_at) _ standing override_at.2 in
    let p = phase_in-read terms.period row.phase phase.0 phase.1 in
    subst (IsStandingOf form terms.period row) (of_some finished_at.2) (record {
      seq = number_in-read 1 greatest row.seq seq.0 seq.1;
      phase = p.0;
      may = p.1;
      attempt = number_in-read (least_attempt phase.0) 1000000 row.attempt attempt.0 attempt.1;
      backoff_n = number_in-read 0 attempt.0 row.backoff_n backoff_n.0 backoff_n.1;
      runs = number_in-read 0 (most_runs terms.period) row.runs runs.0 runs.1;
      generation = number_in-read 0 greatest row.generation generation.0 generation.1;
      enqueued_at = number_in-read 0 greatest row.enqueued_at enqueued_at.0 enqueued_at.1;
      override_at = moment_in-read (may_override form terms.period) row.next_at override_at.0 override_at.1;
      finished_at = number_in-read 0 (last_finish form phase.0) row.finished_at finished_at.0 finished_at.1;
    })

-- ---- the request

record IsRequestOf (terms : Terms) (row : Row) (request : RequestFields) : Type 0 where
  id : request.id ≡ row.id
  class : request.class ≡ row.class
  tags : request.tags ≡ row.tags
  input : data_text request.input ≡ row.input
  asked : request ≡ asked_of terms request.id request.class request.tags request.input
  within : IsRequest request

request_in-read : (terms : Terms) (row : Row) (request : RequestFields) → AreTerms terms → request_in terms row ≡ Some request → IsRequestOf terms row request
unfolding request_in
request_in-read terms row request are is =
    let id = bound (id_in row.id) _ request is in
    let class = bound (short_in row.class) _ request id.2 in
    let tags = bound (tags_in row.tags) _ request class.2 in
    let input = bound (data_in row.input) _ request tags.2 in
    let id_is = passed (length row.id == 16) row.id id.0 id.1 in
    let class_is = passed (is_short row.class) row.class class.0 class.1 in
    let tags_are = passed (are_tags row.tags) row.tags tags.0 tags.1 in
    let input_is = data_in-read row.input input.0 input.1 in
    subst (IsRequestOf terms row) (of_some input.2) (record {
      id = sym id_is.1;
      class = sym class_is.1;
      tags = sym tags_are.1;
      input = input_is.0;
      asked = refl;
      within = record {
        id = ap length (sym id_is.1) ∙ eqb-true (length row.id) 16 id_is.0;
        input = input_is.1;
        within = record {
          class_is = subst IsShortText class_is.1 (IsShortText-is_short row.class class_is.0);
          tags_are = subst AreTags tags_are.1 (AreTags-are_tags row.tags tags_are.0);
          backoff_is = are.backoff;
          delay_is = are.delay;
          period_is = are.period;
          keep_is = are.keep;
          next_is = tt;
        };
      };
    })

-- ---- the record

started : (p : Phase) (attempt : ℕ) → least_attempt p ≤ attempt → IsAttemptIn p attempt
started phase.Waiting attempt is = tt
started phase.Running attempt is = is
started (phase.Done how.Succeeded) attempt is = is
started (phase.Done how.Failed) attempt is = tt
started (phase.Done how.Cancelled) attempt is = tt

periodic_phase : (p : Phase) → not (has_given p) ≡ true → IsPeriodicPhase p
periodic_phase phase.Waiting may = tt
periodic_phase phase.Running may = tt
periodic_phase (phase.Done how.Succeeded) may = absurd (cc)
periodic_phase (phase.Done how.Failed) may = absurd (cc)
periodic_phase (phase.Done how.Cancelled) may = tt

not_given : (p : Phase) (output : List DataEntry) → IsPeriodicPhase p → IsOutputIn p output → output ≡ []
not_given phase.Waiting output may is = is
not_given phase.Running output may is = is
not_given (phase.Done how.Succeeded) output may is = absurd may
not_given (phase.Done how.Failed) output may is = absurd may
not_given (phase.Done how.Cancelled) output may is = is

none_prior : (prior : List ℕ) → length prior ≤ 0 → prior ≡ []
none_prior [] few = refl
none_prior (number ∷ numbers) few = absurd (omega (arith, few))

kind_of : (period : Option Period) (work : Record) → may_be_in period work.phase ≡ true → work.runs ≤ most_runs period → length work.prior ≤ most_prior period
    → IsOutputIn work.phase work.output → IsOfKind period work
kind_of None work may runs few output = omega (arith, runs)
kind_of (Some period) work may runs few output =
    let phase_is = periodic_phase work.phase may in
    record { phase_is = phase_is; no_output = not_given work.phase work.output phase_is output; no_prerequisite = none_prior work.prior few }

few_runs : (period : Option Period) (runs : ℕ) → runs ≤ most_runs period → runs ≤ 1000000
few_runs None runs few = omega (arith, few)
few_runs (Some period) runs few = few

few_prior : (period : Option Period) (count : ℕ) → count ≤ most_prior period → count ≤ 100
few_prior None count few = few
few_prior (Some period) count few = omega (arith, few)

-- only a row of the second form, of periodic work, may tell of a moment for the next run
override_none : (form : Form) (period : Option Period) (moment : Option ℕ) → (may_override form period ≡ false → moment ≡ None) → IsOverrideOf period moment
override_none First None moment none = none refl
override_none Second None moment none = none refl
override_none form (Some period) moment none = tt

finish_none : (form : Form) (p : Phase) (finished_at : ℕ) → finished_at ≤ last_finish form p → IsFinishedIn p finished_at
finish_none First phase.Waiting finished_at within = omega (arith, within)
finish_none First phase.Running finished_at within = omega (arith, within)
finish_none First (phase.Done how) finished_at within = tt
finish_none Second phase.Waiting finished_at within = omega (arith, within)
finish_none Second phase.Running finished_at within = omega (arith, within)
finish_none Second (phase.Done how) finished_at within = tt

finish_below : (form : Form) (p : Phase) → last_finish form p ≤ greatest
finish_below First p = omega arith
finish_below Second phase.Waiting = omega arith
finish_below Second phase.Running = omega arith
finish_below Second (phase.Done how) = omega arith

moment_below : (moment : Option ℕ) → IfSome moment (λ m. m ≤ greatest) → IfSome moment (λ m. m < 2 ^ 53)
moment_below None within = tt
moment_below (Some moment) within = omega (arith, within)

module _ (form : Form) (row : Row) (terms : Terms) (standing : Standing) (name : Option (List ℕ)) (request : RequestFields) (prior : List ℕ)
    (output : List DataEntry) (version : version_of form ≡ row.version) (t : AreTermsOf form row terms) (s : IsStandingOf form terms.period row standing)
    (r : IsRequestOf terms row request) where
  period_is : request.period ≡ terms.period
  period_is = ap (λ (q : RequestFields). q.period) r.asked

  -- the row of what is read, field by field
  row-same : name ≡ row.name → map pos prior ≡ row.prior → data_text output ≡ row.output
      → row_in form (record_of standing name request prior output) ≡ row
  row-same name_is prior_is output_is =
      let seq = s.seq.is in
      let id = r.id in
      let class = r.class in
      let kind : kind_code request.period ≡ row.kind = ap kind_code period_is ∙ t.kind in
      let period : period_code request.period ≡ row.period = ap period_code period_is ∙ t.period in
      let flex : flex_code request.period ≡ row.flex = ap flex_code period_is ∙ t.flex in
      let delay : pos request.initial_delay ≡ row.delay = ap (λ (q : RequestFields). pos q.initial_delay) r.asked ∙ t.delay in
      let policy : policy_code request.backoff.policy ≡ row.policy = ap (λ (q : RequestFields). policy_code q.backoff.policy) r.asked ∙ t.policy in
      let wait : pos request.backoff.delay ≡ row.wait = ap (λ (q : RequestFields). pos q.backoff.delay) r.asked ∙ t.wait in
      let merger : merger_code request.merger ≡ row.merger = ap (λ (q : RequestFields). merger_code q.merger) r.asked ∙ t.merger in
      let network : network_code request.constraints.network ≡ row.network =
      ap (λ (q : RequestFields). network_code q.constraints.network) r.asked ∙ t.network in
      let flags : flags_code request.constraints ≡ row.flags = ap (λ (q : RequestFields). flags_code q.constraints) r.asked ∙ t.flags in
      let phase = s.phase in
      let attempt = s.attempt.is in
      let backoff_n = s.backoff_n.is in
      let runs = s.runs.is in
      let generation = s.generation.is in
      let enqueued_at = s.enqueued_at.is in
      let input = r.input in
      let tags = r.tags in
      let next_at = s.override_at.is in
      let keep_for : pos request.keep ≡ row.keep_for = ap (λ (q : RequestFields). pos q.keep) r.asked ∙ t.keep.is in
      let finished_at = s.finished_at.is in
      let whole : row_in form (record_of standing name request prior output) ≡ record {
        version = row.version;
        seq = row.seq;
        id = row.id;
        name = row.name;
        class = row.class;
        kind = row.kind;
        period = row.period;
        flex = row.flex;
        delay = row.delay;
        policy = row.policy;
        wait = row.wait;
        merger = row.merger;
        network = row.network;
        flags = row.flags;
        phase = row.phase;
        attempt = row.attempt;
        backoff_n = row.backoff_n;
        runs = row.runs;
        generation = row.generation;
        enqueued_at = row.enqueued_at;
        input = row.input;
        output = row.output;
        prior = row.prior;
        tags = row.tags;
        next_at = row.next_at;
        keep_for = row.keep_for;
        finished_at = row.finished_at;
      } = cc in
      whole

  -- what a row of the first form doesn't tell
  fits-first : most_keep form ≡ 0 → last_finish form standing.phase ≡ 0 → may_override form terms.period ≡ false
      → FitsFirstForm (record_of standing name request prior output)
  fits-first keep finish none = record {
    no_override = s.override_at.none none;
    not_kept = ap (λ (q : RequestFields). q.keep) r.asked ∙ omega (arith, t.keep.below, keep);
    no_moment = omega (arith, s.finished_at.below, finish);
  }

-- the row of a record in a form is one of its rows
row-of_form : (form : Form) (row : Row) (work : Record) → row_in form work ≡ row → (form ≡ First → FitsFirstForm work) → IsRowOf row work
row-of_form First row work same fits = inr (sym same, fits refl)
row-of_form Second row work same fits = inl (sym same)

-- what is read has just that row, and is within its limits
pub record IsRecordOf (row : Row) (work : Record) : Type 0 where
  pub same : IsRowOf row work
  pub stored : IsStored work

module _ (form : Form) (row : Row) (terms : Terms) (standing : Standing) (name : Option (List ℕ)) (request : RequestFields) (prior : List ℕ)
    (output : List DataEntry) where
  gives : version_of form ≡ row.version → AreTermsOf form row terms → IsStandingOf form terms.period row standing
      → (name ≡ row.name) × IfSome name IsShortText → ArePriorIn terms.period row.prior prior
      → (data_text output ≡ row.output) × IsOutputIn standing.phase output → IsRequestOf terms row request
      → IsRecordOf row (record_of standing name request prior output)
  gives v t s n p o r = record {
    same = row-of_form form row (record_of standing name request prior output)
        (row-same form row terms standing name request prior output v t s r n.0 p.are o.0)
        (λ first. fits-first form row terms standing name request prior output v t s r (ap most_keep first)
        (ap (λ f. last_finish f standing.phase) first) (ap (λ f. may_override f terms.period) first));
    stored = record {
      number = s.seq.above;
      fits = record {
        seq = omega (arith, s.seq.below);
        prior = All-from_recursion (λ number. number < 2 ^ 53) prior (All-weaker prior (λ number is. omega (arith, is.1)) p.each);
        generation = omega (arith, s.generation.below);
        enqueued_at = omega (arith, s.enqueued_at.below);
        override_at = moment_below standing.override_at s.override_at.within;
        finished_at = omega (arith, s.finished_at.below, finish_below form standing.phase);
      };
      name = n.1;
      request = r.within;
      few = few_prior terms.period (length prior) p.few;
      numbers = All-weaker prior (λ number is. is.0) p.each;
      attempt = s.attempt.below;
      started = started standing.phase standing.attempt s.attempt.above;
      backoff_n = s.backoff_n.below;
      runs = few_runs terms.period standing.runs s.runs.below;
      kind = subst (λ (q : Option Period). IsOfKind q (record_of standing name request prior output)) (sym (ap (λ (q : RequestFields). q.period) r.asked))
          (kind_of terms.period (record_of standing name request prior output) s.may s.runs.below p.few o.1);
      leaves = ap (λ (q : RequestFields). q.next) r.asked;
      override_at = subst (λ (q : Option Period). IsOverrideOf q standing.override_at) (sym (ap (λ (q : RequestFields). q.period) r.asked))
          (override_none form terms.period standing.override_at s.override_at.none);
      finished_at = finish_none form standing.phase standing.finished_at s.finished_at.below;
      output = o.1;
      progress = refl;
    };
  }

pub read_row-gives : (row : Row) (work : Record) → read_row row ≡ Some work → IsRecordOf row work
unfolding read_row
read_row-gives row work is =
    let form = bound (form_in row.version) _ work is in
    let terms = bound (terms_in form.0 row) _ work form.2 in
    let standing = bound (standing_in form.0 terms.0 row) _ work terms.2 in
    let name = bound (name_in row.name) _ work standing.2 in
    let prior = bound (prior_in terms.0.period row.prior) _ work name.2 in
    let output = bound (output_in standing.0.phase row.output) _ work prior.2 in
    let request = bound (request_in terms.0 row) _ work output.2 in
    let t = terms_in-read form.0 row terms.0 terms.1 in
    subst (IsRecordOf row) (of_some request.2) (gives form.0 row terms.0 standing.0 name.0 request.0 prior.0 output.0
    (form_in-read row.version form.0 form.1)
    t
    (standing_in-read form.0 terms.0 row standing.0 standing.1)
    (name_in-read row.name name.0 name.1)
    (prior_in-read terms.0.period row.prior prior.0 prior.1)
    (output_in-read standing.0.phase row.output output.0 output.1)
    (request_in-read terms.0 row request.0 t.within request.1))
