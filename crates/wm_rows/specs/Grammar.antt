-- Which rows are records. The grammar is this project's own choice.
use Rattle.std.specs.Prelude.{◌≡◌, ◌≤◌, ℕ, List, [], length, Option, Some, IfSome}
use Rattle.std.specs.List.{AllByRecursion}
use Rattle.wm_data.specs.declared.data.DataEntry.{DataEntry}
use Rattle.wm_keeper.specs.declared.row.Row.{Row}
use Rattle.wm_machine.specs.Limits.{FitsRow}
use Rattle.wm_machine.specs.Valid.{IsAttemptIn, IsFinishedIn, IsOfKind, IsOutputIn, IsOverrideOf}
use Rattle.wm_machine.specs.declared.record.Record.{Record}
use Rattle.wm_request.specs.Requests.{IsRequest, IsShortText, RequestFields}
use Rattle.wm_request.specs.declared.request.NextRun.TheVariants.{Leave}
use Rattle.wm_schedule.specs.Clamped.{IsBackoffDelay, IsPeriod}
use Rattle.wm_schedule.specs.Moments.{IsDelay}
use Rattle.wm_rows.specs.Fields.{◌>>=◌, coded, constraints_in, data_in, form_in, greatest, id_in, last_finish, least_attempt, may_override, mergers, moment_in, most_keep, most_runs, name_in, number_in, output_in, period_in, phase_in, policies, prior_in, short_in, tags_in}
use Rattle.wm_rows.specs.declared.fields.Form.{Form}
use Rattle.wm_rows.specs.declared.reading.Standing.{Standing}
use Rattle.wm_rows.specs.declared.reading.Terms.{Terms}

-- ---- reading a row

-- the plain values of what was asked for
unfoldable pub terms_in : Form → Row → Option Terms
terms_in form row = do
  period ← period_in row.kind row.period row.flex
  delay ← number_in 0 315360000000 row.delay
  policy ← coded policies row.policy
  wait ← number_in 10000 18000000 row.wait
  merger ← coded mergers row.merger
  constraints ← constraints_in row.network row.flags
  keep ← number_in 0 (most_keep form) row.keep_for
  Some (record {
    merger = merger;
    constraints = constraints;
    backoff = record { policy = policy; delay = wait };
    initial_delay = delay;
    period = period;
    keep = keep;
  })

-- how far work of these terms has come
unfoldable pub standing_in : Form → Terms → Row → Option Standing
standing_in form terms row = do
  seq ← number_in 1 greatest row.seq
  phase ← phase_in terms.period row.phase
  attempt ← number_in (least_attempt phase) 1000000 row.attempt
  backoff_n ← number_in 0 attempt row.backoff_n
  runs ← number_in 0 (most_runs terms.period) row.runs
  generation ← number_in 0 greatest row.generation
  enqueued_at ← number_in 0 greatest row.enqueued_at
  override_at ← moment_in (may_override form terms.period) row.next_at
  finished_at ← number_in 0 (last_finish form phase) row.finished_at
  Some (record {
    seq = seq;
    phase = phase;
    attempt = attempt;
    backoff_n = backoff_n;
    runs = runs;
    generation = generation;
    enqueued_at = enqueued_at;
    override_at = override_at;
    finished_at = finished_at;
  })

-- the request of these terms with an id, a class, tags and an input
abbrev pub asked_of : Terms → List ℕ → List ℕ → List (List ℕ) → List DataEntry → RequestFields
asked_of terms id class tags input = record {
  id = id;
  class = class;
  input = input;
  merger = terms.merger;
  tags = tags;
  constraints = terms.constraints;
  backoff = terms.backoff;
  initial_delay = terms.initial_delay;
  period = terms.period;
  keep = terms.keep;
  next = Leave;
}

unfoldable pub request_in : Terms → Row → Option RequestFields
request_in terms row = do
  id ← id_in row.id
  class ← short_in row.class
  tags ← tags_in row.tags
  input ← data_in row.input
  Some (asked_of terms id class tags input)

-- the record of what is read; it has told nothing
abbrev pub record_of : Standing → Option (List ℕ) → RequestFields → List ℕ → List DataEntry → Record
record_of standing name request prior output = record {
  seq = standing.seq;
  name = name;
  request = request;
  prior = prior;
  phase = standing.phase;
  attempt = standing.attempt;
  backoff_n = standing.backoff_n;
  runs = standing.runs;
  generation = standing.generation;
  enqueued_at = standing.enqueued_at;
  override_at = standing.override_at;
  finished_at = standing.finished_at;
  output = output;
  progress = [];
}

-- the record whose row this is
unfoldable pub read_row : Row → Option Record
read_row row = do
  form ← form_in row.version
  terms ← terms_in form row
  standing ← standing_in form terms row
  name ← name_in row.name
  prior ← prior_in terms.period row.prior
  output ← output_in standing.phase row.output
  request ← request_in terms row
  Some (record_of standing name request prior output)

-- a row is in the grammar where a record is read from it
abbrev pub IsInGrammar : Row → Type 0
IsInGrammar row = (work : Record) × (read_row row ≡ Some work)

-- ---- the records that rows hold

-- terms within the limits of a request
pub record AreTerms (terms : Terms) : Type 0 where
  pub backoff : IsBackoffDelay terms.backoff.delay
  pub delay : IsDelay terms.initial_delay
  pub period : IfSome terms.period (λ period. IsPeriod period × IsDelay period.period)
  pub keep : IsDelay terms.keep

-- a record within the limits of a row, which has told nothing: its own limits, but for what asks for the numbers of its prerequisites
pub record IsStored (work : Record) : Type 0 where
  pub number : 1 ≤ work.seq
  pub fits : FitsRow work
  pub name : IfSome work.name IsShortText
  pub request : IsRequest work.request
  pub few : length work.prior ≤ 100
  pub numbers : AllByRecursion (λ number. 1 ≤ number) work.prior
  pub attempt : work.attempt ≤ 1000000
  pub started : IsAttemptIn work.phase work.attempt
  pub backoff_n : work.backoff_n ≤ work.attempt
  pub runs : work.runs ≤ 1000000
  pub kind : IsOfKind work.request.period work
  pub leaves : work.request.next ≡ Leave
  pub override_at : IsOverrideOf work.request.period work.override_at
  pub finished_at : IsFinishedIn work.phase work.finished_at
  pub output : IsOutputIn work.phase work.output
  pub progress : work.progress ≡ []
