-- A record is read from its row.
use Rattle.std.proofs.Common.{◌≡◌, ℕ, ◌^◌, ◌<◌, ◌≤◌, ◌==◌, true, false, not, List, [], length, Option, Some, None, IfSome, refl, sym, ap, ◌∙◌, inl, inr, arith, lt-ltb, le-leb}
use Rattle.std.proofs.lemmas.Bool.{and_from, eq-eqb, true≢false}
use Rattle.std.proofs.lemmas.List.Elements.{recursion_from_All}
use Rattle.std.specs.List.{AllByRecursion}
use Rattle.wm_collections.proofs.Lists.{All-weaker, All-with2, list_all-each}
use Rattle.wm_data.specs.DataJson.{data_text}
use Rattle.wm_data.specs.Size.{IsData}
use Rattle.wm_data.specs.declared.data.DataEntry.{DataEntry}
use Rattle.wm_keeper.specs.declared.row.Row.{Row}
use Rattle.wm_machine.proofs.Records.{IsData-empty}
use Rattle.wm_machine.specs.Rows.{row_of, FitsFirstForm, IsRowOf}
use Rattle.wm_machine.specs.Valid.{IsAttemptIn, IsFinishedIn, IsOfKind, IsOutputIn, IsOverrideOf, IsPeriodicPhase}
use Rattle.wm_machine.specs.declared.record.How.TheVariants as how
use Rattle.wm_machine.specs.declared.record.Phase.{Phase}
use Rattle.wm_machine.specs.declared.record.Phase.TheVariants as phase
use Rattle.wm_machine.specs.declared.record.Record.{Record}
use Rattle.wm_request.specs.Building.{is_short}
use Rattle.wm_request.specs.Requests.{AreTags, IsShortText, RequestFields}
use Rattle.wm_rows.proofs.DataTexts.{data_in-data_text}
use Rattle.wm_rows.proofs.FieldCodes.{constraints_in-written, form_in-written, IsOfWork, may_be_in, merger-written, moment_in-written, number_in-written, period_in-written, phase_in-written, policy-written, prior_in-written, row_in}
use Rattle.wm_rows.proofs.Tags.{ascend-AscendByBytes}
use Rattle.wm_rows.specs.Fields.{are_tags, greatest, has_given, last_finish, least_attempt, may_override, most_keep, most_prior, most_runs, name_in, output_in}
use Rattle.wm_rows.specs.Grammar.{IsStored, read_row, request_in, standing_in, terms_in}
use Rattle.wm_rows.specs.declared.fields.Form.{Form}
use Rattle.wm_rows.specs.declared.fields.Form.TheVariants.{First, Second}
use Rattle.wm_rows.specs.declared.reading.Standing.{Standing}
use Rattle.wm_rows.specs.declared.reading.Terms.{Terms}
use Rattle.wm_schedule.specs.declared.schedule.Period.{Period}

-- ---- texts

is_short-written : (text : List ℕ) → IsShortText text → is_short text ≡ true
is_short-written text is = and_from _ _ (lt-ltb 0 (length text) (omega (arith, is.not_empty))) (le-leb (length text) 200 is.short)

are_tags-written : (tags : List (List ℕ)) → AreTags tags → are_tags tags ≡ true
are_tags-written tags are =
    and_from _ _ (le-leb (length tags) 32 are.few)
    (and_from _ _ (list_all-each is_short tags (All-weaker tags is_short-written are.sorted.short)) (ascend-AscendByBytes tags are.sorted.ascending))

name_in-written : (name : Option (List ℕ)) → IfSome name IsShortText → name_in name ≡ Some name
name_in-written None is = refl
name_in-written (Some name) is = rw (is_short-written name is) refl

no_output : (output : List DataEntry) → output ≡ [] → IsData output
no_output output is = rw is IsData-empty

output_in-written : (p : Phase) (output : List DataEntry) → IsOutputIn p output → output_in p (data_text output) ≡ Some output
unfolding output_in
output_in-written phase.Waiting output is = rw (data_in-data_text output (no_output output is)) (rw is refl)
output_in-written phase.Running output is = rw (data_in-data_text output (no_output output is)) (rw is refl)
output_in-written (phase.Done how.Succeeded) output is = rw (data_in-data_text output is) refl
output_in-written (phase.Done how.Failed) output is = rw (data_in-data_text output is) refl
output_in-written (phase.Done how.Cancelled) output is = rw (data_in-data_text output (no_output output is)) (rw is refl)

-- ---- what a kind and a phase ask for

least : (p : Phase) (attempt : ℕ) → IsAttemptIn p attempt → least_attempt p ≤ attempt
least phase.Waiting attempt is = omega arith
least phase.Running attempt is = is
least (phase.Done how.Succeeded) attempt is = is
least (phase.Done how.Failed) attempt is = omega arith
least (phase.Done how.Cancelled) attempt is = omega arith

not_given : (p : Phase) → IsPeriodicPhase p → not (has_given p) ≡ true
not_given phase.Waiting is = refl
not_given phase.Running is = refl
not_given (phase.Done how.Succeeded) is = absurd is
not_given (phase.Done how.Failed) is = absurd is
not_given (phase.Done how.Cancelled) is = refl

may_be : (period : Option Period) (work : Record) → IsOfKind period work → may_be_in period work.phase ≡ true
may_be None work is = refl
may_be (Some period) work is = not_given work.phase is.phase_is

few_runs : (period : Option Period) (work : Record) → IsOfKind period work → work.runs ≤ 1000000 → work.runs ≤ most_runs period
few_runs None work is few = omega (arith, is)
few_runs (Some period) work is few = few

few_prior : (period : Option Period) (work : Record) → IsOfKind period work → length work.prior ≤ 100 → length work.prior ≤ most_prior period
few_prior None work is few = few
few_prior (Some period) work is few = omega (arith, ap length is.no_prerequisite)

-- a record that a row of this form can tell of
abbrev FitsForm : Form → Record → Type 0
FitsForm First work = FitsFirstForm work
FitsForm Second work = Unit {0}

keep_within : (form : Form) (work : Record) → FitsForm form work → work.request.keep ≤ 315360000000 → work.request.keep ≤ most_keep form
keep_within First work fits short = omega (arith, fits.not_kept)
keep_within Second work fits short = short

override_within : (form : Form) (work : Record) → FitsForm form work → IsOverrideOf work.request.period work.override_at
    → may_override form work.request.period ≡ false → work.override_at ≡ None
override_within First work fits is none = fits.no_override
override_within Second work fits is none = by_kind work.request.period is none where
  by_kind : (period : Option Period) → IsOverrideOf period work.override_at → may_override Second period ≡ false → work.override_at ≡ None
  by_kind None one_time may = one_time
  by_kind (Some period) periodic may = absurd (true≢false may)

moment_within : (moment : Option ℕ) → IfSome moment (λ m. m < 2 ^ 53) → IfSome moment (λ m. m ≤ greatest)
moment_within None below = tt
moment_within (Some moment) below = omega (arith, below)

finish_within : (form : Form) (work : Record) → FitsForm form work → IsFinishedIn work.phase work.finished_at → work.finished_at < 2 ^ 53
    → work.finished_at ≤ last_finish form work.phase
finish_within First work fits is below = omega (arith, fits.no_moment)
finish_within Second work fits is below = by_phase work.phase is where
  by_phase : (p : Phase) → IsFinishedIn p work.finished_at → work.finished_at ≤ last_finish Second p
  by_phase phase.Waiting none = omega (arith, none)
  by_phase phase.Running none = omega (arith, none)
  by_phase (phase.Done how) any = omega (arith, below)

-- ---- the record

terms_of : RequestFields → Terms
terms_of request = record {
  merger = request.merger;
  constraints = request.constraints;
  backoff = request.backoff;
  initial_delay = request.initial_delay;
  period = request.period;
  keep = request.keep;
}

standing_of : Record → Standing
standing_of work = record {
  seq = work.seq;
  phase = work.phase;
  attempt = work.attempt;
  backoff_n = work.backoff_n;
  runs = work.runs;
  generation = work.generation;
  enqueued_at = work.enqueued_at;
  override_at = work.override_at;
  finished_at = work.finished_at;
}

module _ (form : Form) (work : Record) (fits : FitsForm form work) (is : IsStored work) where
  terms_in-written : terms_in form (row_in form work) ≡ Some (terms_of work.request)
  unfolding terms_in terms_of
  terms_in-written =
      let request = work.request in
      let within = is.request.within in
      rw (
        period_in-written request.period within.period_is,
        number_in-written 0 315360000000 request.initial_delay (omega arith) within.delay_is,
        policy-written request.backoff.policy,
        number_in-written 10000 18000000 request.backoff.delay within.backoff_is.least within.backoff_is.most,
        merger-written request.merger,
        constraints_in-written request.constraints,
        number_in-written 0 (most_keep form) request.keep (omega arith) (keep_within form work fits within.keep_is),
      ) refl

  standing_in-written : standing_in form (terms_of work.request) (row_in form work) ≡ Some (standing_of work)
  unfolding standing_in terms_of standing_of
  standing_in-written =
      let period = work.request.period in
      rw (
        number_in-written 1 greatest work.seq is.number (omega (arith, is.fits.seq)),
        phase_in-written period work.phase (may_be period work is.kind),
        number_in-written (least_attempt work.phase) 1000000 work.attempt (least work.phase work.attempt is.started) is.attempt,
        number_in-written 0 work.attempt work.backoff_n (omega arith) is.backoff_n,
        number_in-written 0 (most_runs period) work.runs (omega arith) (few_runs period work is.kind is.runs),
        number_in-written 0 greatest work.generation (omega arith) (omega (arith, is.fits.generation)),
        number_in-written 0 greatest work.enqueued_at (omega arith) (omega (arith, is.fits.enqueued_at)),
        moment_in-written (may_override form period) work.override_at (override_within form work fits is.override_at)
            (moment_within work.override_at is.fits.override_at),
        number_in-written 0 (last_finish form work.phase) work.finished_at (omega arith)
            (finish_within form work fits is.finished_at is.fits.finished_at),
      ) refl

  request_in-written : request_in (terms_of work.request) (row_in form work) ≡ Some work.request
  unfolding request_in terms_of
  request_in-written =
      let request = work.request in
      let id_is : (length request.id == 16) ≡ true = eq-eqb (length request.id) 16 is.request.id in
      rw (
        id_is,
        is_short-written request.class is.request.within.class_is,
        are_tags-written request.tags is.request.within.tags_are,
        data_in-data_text request.input is.request.input,
      ) (ap (λ next. Some (record request { next = next })) (sym is.leaves))

  each_prior : AllByRecursion IsOfWork work.prior
  each_prior =
      All-with2 work.prior (λ number above below. (above, omega (arith, below))) is.numbers
      (recursion_from_All (λ number. number < 2 ^ 53) work.prior is.fits.prior)

  read_row-form : read_row (row_in form work) ≡ Some work
  unfolding read_row terms_of standing_of
  read_row-form =
      let none_told : [] ≡ work.progress = sym is.progress in
      rw (
        form_in-written form,
        terms_in-written,
        standing_in-written,
        name_in-written work.name is.name,
        prior_in-written work.request.period work.prior each_prior (few_prior work.request.period work is.kind is.few),
        output_in-written work.phase work.output is.output,
        request_in-written,
      ) (ap (λ (progress : List DataEntry). Some (record work { progress = progress })) none_told)

-- a record is read from each of its rows
pub read_row-written : (row : Row) (work : Record) → IsRowOf row work → IsStored work → read_row row ≡ Some work
read_row-written row work (inl same) is = ap read_row same ∙ read_row-form Second work tt is
read_row-written row work (inr same) is = ap read_row same.0 ∙ read_row-form First work same.1 is
