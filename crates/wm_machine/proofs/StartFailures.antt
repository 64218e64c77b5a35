-- A start that fails.
use Rattle.std.proofs.Common.{◌≡◌, ℕ, ◌<◌, true, false, cond, eqb, List, map, Option, Some, None, refl, sym, ◌∙◌, ap, arith, inl, inr}
use Rattle.std.specs.List.{AllByRecursion}
use Rattle.std.proofs.lemmas.Bool.{cases_Bool, eq-eqb, eqb-false, eqb-true}
use Rattle.wm_machine.proofs.Changes.{all_open, IsChange, IsChange-one, KeepsRun, OfNumber, reached-changed, Succeeded, with_changed}
use Rattle.wm_machine.proofs.Endings.{closed_in, closing-idle, closing-left, closing-others, fits-failed, idle-done, IsChange-closing, KeepsRun-same, KeepsShape, no_prior, not_started_by, open-waiting, same_period, waiting-succeeded, works_not_started-map}
use Rattle.wm_machine.proofs.Firsts.{first_of-stored, first_of-waiting}
use Rattle.wm_collections.proofs.Lists.{All-any, All-of_one, All-weaker, All-with2, All-with3}
use Rattle.wm_machine.proofs.Owed.{IsKept}
use Rattle.wm_machine.proofs.Records.{IsData-output, IsRecord-again, IsRecord-failed}
use Rattle.wm_machine.proofs.Runnings.{changed, changed_both, IsAlone-stored, not_running}
use Rattle.wm_machine.proofs.Waitings.{IsOldLeft, left-again, left-idle, left-one, left_among-started}
use Rattle.wm_machine.specs.Closed.{is_open}
use Rattle.wm_machine.specs.Ends.{enqueued_again, period_of, with_start_failed}
use Rattle.wm_machine.specs.First.{first_of, is_waiting}
use Rattle.wm_machine.specs.Role as role
use Rattle.wm_machine.specs.Step.{after, IsStartFailure}
use Rattle.wm_machine.specs.Valid.{Valid, MaySucceedOrHas}
use Rattle.wm_machine.specs.Waiting.{is_left, left_among, left_to_drain}
use Rattle.wm_machine.specs.Types.{Cause, Period, Record, State}
use Rattle.wm_machine.specs.declared.event.Event.TheVariants as event
use Rattle.wm_machine.specs.declared.record.How.TheVariants as how
use Rattle.wm_machine.specs.declared.record.Phase.TheVariants as phase

-- the change that a failed start of a work makes of each record
abbrev pub not_started_in : State → Record → Record → Record
not_started_in s work = not_started_by s.now work.seq (period_of work.seq s.works) s.works

pub after_start_failed : (s : State) (seq : ℕ) (cause : Cause) → (legal : IsStartFailure s seq cause)
    → after s (event.StartFailed seq cause) ≡ with_changed s (not_started_in s legal.work)
after_start_failed s seq cause legal =
    ap (with_start_failed s) legal.seq_is
    ∙ ap (λ (works : List Record). record s { works = works }) (works_not_started-map s.now legal.work.seq (period_of legal.work.seq s.works) s.works)

-- ---- what it keeps

-- a change by which a first work can't start: no run begins or ends, and fewer works are left to a drain
record HasNotStarted (s : State) (work : Record) (change : Record → Record) : Type 0 where
  is_change : IsChange s.works change
  keep : AllByRecursion (λ other. KeepsRun other (change other)) s.works
  old : AllByRecursion (IsOldLeft s.now s.works change) s.works
  gone : is_left s.now (map change s.works) (change work) ≡ false

-- a waiting work that is no longer a running one keeps no run
keeps_none : (one other : Record) → is_waiting one.phase ≡ true → (other.phase ≡ phase.Running → ⊥) → KeepsRun one other
keeps_none one other waits idle = record {
  ran = λ running. absurd (idle running);
  runs = λ running. absurd (not_running one waits running);
  attempt = λ running. absurd (not_running one waits running);
}

module _ (s : State) (work : Record) (valid : Valid s) (first : first_of s ≡ Some work) where
  waits : AllByRecursion (OfNumber work.seq (λ other. is_waiting other.phase ≡ true)) s.works
  waits =
      All-weaker s.works (λ other same e. ap (λ (w : Record). is_waiting w.phase) (same e) ∙ first_of-waiting s work first)
      (IsAlone-stored work s.works valid.works.in_order (first_of-stored s work first))

  not_yet : AllByRecursion (OfNumber work.seq (λ other. Succeeded other.phase → ⊥)) s.works
  not_yet = All-weaker s.works (λ other is e succeeded. waiting-succeeded other.phase (is e) succeeded) waits

  unfinished : AllByRecursion (OfNumber work.seq (λ other. is_open other.phase ≡ true)) s.works
  unfinished = All-weaker s.works (λ other is e. open-waiting other.phase (is e)) waits

  -- a periodic work is enqueued again
  again : (period : Period) → AllByRecursion (OfNumber work.seq (λ other. other.request.period ≡ Some period)) s.works
      → HasNotStarted s work (changed (enqueued_again false s.now) work.seq)
  again period repeats =
      let back = enqueued_again false s.now in
      let change = changed back work.seq in
      let then = map change s.works in
      let open_then = All-any s.works (λ other before. changed_both (λ c. MaySucceedOrHas c.phase) back work.seq other (λ e. tt) (λ differs. before)) in
      let gone : AllByRecursion (OfNumber work.seq (λ other. is_left s.now then (back other) ≡ false)) s.works =
      All-with2 s.works (λ other kind fine e. left-again period s.now then other (kind e) (no_prior period other (kind e) fine) fine) repeats
      valid.works.records in
      let is =
      IsChange-one s.works work.seq back (λ other. record { seq = refl; name = λ text is. is; request = refl; prior = refl })
      valid.works.records valid.works.sound
      (All-with3 s.works (λ other waiting kind fine e. IsRecord-again period false s.now other valid.now (waiting e) (kind e) fine) unfinished repeats
      valid.works.records)
      (All-weaker s.works (λ other is e. (is e, all_open s.works change other.prior open_then)) unfinished) not_yet (All-any s.works (λ other e. tt)) in
      let here : change work ≡ back work = ap (λ b. cond b (back work) work) (eq-eqb work.seq work.seq refl) in
      record {
        is_change = is;
        keep = All-weaker s.works (λ other waiting. changed_both (KeepsRun other) back work.seq other
            (λ e. keeps_none other (back other) (waiting e) (λ running. let clash : phase.Waiting ≡ phase.Running = running in absurd (cc)))
            (λ differs. KeepsRun-same other other refl refl)) waits;
        old = left-one s.now work.seq back s.works is gone;
        gone = ap (is_left s.now then) here
            ∙ All-of_one (OfNumber work.seq (λ other. is_left s.now then (back other) ≡ false)) s.works work gone (first_of-stored s work first) refl;
      }

  -- a one-time work fails, and with it its unfinished descendants
  fails : AllByRecursion (OfNumber work.seq (λ other. other.request.period ≡ None)) s.works → HasNotStarted s work (closed_in how.Failed s.now work.seq s.works)
  fails one_time =
      let then = λ (w : Record). w in
      let keeps : (w : Record) → KeepsShape w w =
      λ w. record { same = record { seq = refl; name = λ text is. is; request = refl; prior = refl }; phase_is = refl; attempt = refl; due = refl } in
      let change = closed_in how.Failed s.now work.seq s.works in
      let fits =
      fits-failed s work.seq then valid one_time (λ w is kind. IsRecord-failed s.now w.output w valid.now (IsData-output w is) kind is) (λ w differs is. is) unfinished in
      let is = IsChange-closing s work.seq how.Failed then keeps valid not_yet (λ change p prior. tt) fits in
      let done = closing-idle s work.seq how.Failed then keeps valid not_yet (λ change p prior. tt) unfinished in
      record {
        is_change = is;
        keep = All-with3 s.works (λ other waits done keeps. elim (cases_Bool (eqb other.seq work.seq)) [
          | inl e ↦
              let same = eqb-true other.seq work.seq e in
              keeps_none other (change other) (waits same) (λ running. idle-done how.Failed (sym (done same) ∙ running))
          | inr e ↦ keeps (eqb-false other.seq work.seq e)
        ]) waits done (closing-others s work.seq how.Failed then keeps valid not_yet (λ change p prior. tt));
        old = closing-left s work.seq how.Failed then keeps valid not_yet (λ change p prior. tt) is;
        gone = left-idle s.now (map change s.works) (change work) (ap is_waiting
            (All-of_one (OfNumber work.seq (λ other. (change other).phase ≡ phase.Done how.Failed)) s.works work done (first_of-stored s work first) refl));
      }

  has_not_started : (period : Option Period) → AllByRecursion (OfNumber work.seq (λ other. other.request.period ≡ period)) s.works
      → HasNotStarted s work (not_started_by s.now work.seq period s.works)
  has_not_started None kind = fails kind
  has_not_started (Some period) kind = again period kind

pub start_failed-kept : (s : State) (seq : ℕ) (cause : Cause) → Valid s → IsStartFailure s seq cause
    → IsKept role.Refuses s (after s (event.StartFailed seq cause))
start_failed-kept s seq cause reached legal =
    let work = legal.work in
    let change = not_started_in s work in
    let has = has_not_started s work reached legal.is_first (period_of work.seq s.works) (same_period work.seq s.works reached.works.in_order) in
    let works : left_among s.now (map change s.works) < left_among s.now s.works =
    left_among-started s work change legal.is_first has.is_change has.old has.gone in
    let left : left_to_drain (with_changed s change) < left_to_drain s = omega (arith, works) in
    rw (after_start_failed s seq cause legal) record { reached = reached-changed s change reached has.is_change has.keep; left = left }
