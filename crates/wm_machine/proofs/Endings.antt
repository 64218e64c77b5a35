-- What the end of a run, and a start that fails, make of the records of a state.
use Rattle.std.proofs.Common.{◌≡◌, ◌≢◌, ◌&&◌, ℕ, ◌^◌, ◌<◌, Bool, true, false, cond, eqb, List, [], ◌∷◌, map, Option, Some, None, refl, sym, ◌∙◌, ap, subst, inl, inr, arith}
use mathlib.Core.List.{reverse}
use Rattle.std.specs.List.{AllByRecursion}
use Rattle.std.specs.Option.{option_and_then}
use Rattle.std.proofs.lemmas.Bool.{and_from, and_parts, cases_Bool, cond_both, eq-eqb, eqb-true, false≢true, true≢false}
use Rattle.wm_collections.specs.Lists.{AllLater, HasOne, is_among}
use Rattle.wm_data.specs.Size.{IsData}
use Rattle.wm_machine.specs.Types.{DataEntry, End, How, Period, Phase, Record, Run, State}
use Rattle.wm_machine.proofs.Changes.{all_open, IsChange, IsChange-like, IsChange-one, IsSameRequest, KeepsRun, moves-kept, MovesTo, OfNumber, running_prior, StaysOpen, Succeeded, succeeded_each}
use Rattle.wm_machine.proofs.Descendants.{descendant_after, descendant_by, descendant_self, is_descendant, IsReason, running_descendant}
use Rattle.wm_machine.proofs.EndedRuns.{IsEnding}
use Rattle.wm_collections.proofs.Lists.{All-any, All-weaker, All-with2, All-with3, map-twice}
use Rattle.wm_machine.proofs.Records.{IsData-output, IsRecord-again, IsRecord-failed, IsRecord-retried, IsRecord-freed, IsRecord-succeeded}
use Rattle.wm_machine.proofs.Runnings.{changed, changed_both}
use Rattle.wm_machine.proofs.Waitings.{blocked-left, IsOldLeft, left-again, left-gone, left-idle, left-kept, left-one, left-others, left-retried, met-then}
use Rattle.wm_machine.specs.Closed.{closed, is_open, is_reached}
use Rattle.wm_machine.specs.Due.{due_of}
use Rattle.wm_machine.specs.Ends.{enqueued_again, given_by, is_freed, period_of, retried, succeeded, with_output, works_after_end, works_not_started}
use Rattle.wm_machine.specs.First.{all_met, is_waiting}
use Rattle.wm_machine.specs.Input.{work_numbered}
use Rattle.wm_machine.specs.Runs.{changed_work}
use Rattle.wm_machine.specs.Waiting.{is_left}
use Rattle.wm_machine.specs.Valid.{ArePriorSound, IsBefore, IsOfKind, MaySucceedOrHas, IsPeriodic, IsRecord, Valid}
use Rattle.wm_machine.specs.declared.event.End.TheVariants.{Success, Failure, Retry}
use Rattle.wm_machine.specs.declared.record.How.TheVariants as how
use Rattle.wm_machine.specs.declared.record.Phase.TheVariants as phase
use Rattle.wm_worker.specs.Answers.{GivesData}

-- ---- which records are reached

-- a work, finished in this way where it is reached
abbrev pub closed_in : How → ℕ → ℕ → List Record → Record → Record
closed_in how now seq works work = cond (is_reached seq works work) (closed how now work) work

-- what holds in both cases
pub closed_both : (P : Record → Type 0) (how : How) (now seq : ℕ) (works : List Record) (work : Record)
    → (is_reached seq works work ≡ true → P (closed how now work)) → (is_reached seq works work ≡ false → P work) → P (closed_in how now seq works work)
closed_both P how now seq works work hit miss = cond_both (is_reached seq works work) (closed how now work) work P hit miss

-- what is reached is unfinished, and a descendant
pub reached_parts : (seq : ℕ) (works : List Record) (work : Record) → is_reached seq works work ≡ true
    → (is_open work.phase ≡ true) × (is_descendant seq works work.seq ≡ true)
unfolding is_reached
reached_parts seq works work is = and_parts _ _ is

-- an unfinished descendant is reached
pub reached_from : (seq : ℕ) (works : List Record) (work : Record) → is_open work.phase ≡ true → is_descendant seq works work.seq ≡ true
    → is_reached seq works work ≡ true
unfolding is_reached
reached_from seq works work unfinished is = and_from _ _ unfinished is

-- what is unfinished and isn't reached is no descendant
not_reached : (seq : ℕ) (works : List Record) (work : Record) → is_reached seq works work ≡ false → is_open work.phase ≡ true
    → is_descendant seq works work.seq ≡ true → ⊥
not_reached seq works work away unfinished is = false≢true (sym away ∙ reached_from seq works work unfinished is)

-- ---- phases

pub open-waiting : (p : Phase) → is_waiting p ≡ true → is_open p ≡ true
open-waiting phase.Waiting is = refl
open-waiting phase.Running is = refl
open-waiting (phase.Done how) is = absurd (false≢true is)

-- what has succeeded isn't unfinished
pub succeeded-open : (p : Phase) → Succeeded p → is_open p ≡ true → ⊥
succeeded-open p succeeded unfinished = false≢true (sym (ap is_open succeeded) ∙ unfinished)

-- what waits hasn't
pub waiting-succeeded : (p : Phase) → is_waiting p ≡ true → Succeeded p → ⊥
waiting-succeeded p waits succeeded = true≢false (sym waits ∙ ap is_waiting succeeded)

pub idle-done : (how : How) → phase.Done how ≡ phase.Running → ⊥
idle-done how same = absurd (cc)

-- a record that changes neither phase nor attempt keeps its run
pub KeepsRun-same : (one other : Record) → other.phase ≡ one.phase → other.attempt ≡ one.attempt → KeepsRun one other
KeepsRun-same one other phase_is attempt =
    record { ran = λ running. sym phase_is ∙ running; runs = λ running. phase_is ∙ running; attempt = λ running. attempt }

-- periodic work names no prerequisite
names_some : (period : Option Period) (work : Record) → work.request.period ≡ period → IsOfKind work.request.period work → (P : ℕ → Type 0)
    → HasOne P work.prior → work.request.period ≡ None
names_some None work kind is P one = kind
names_some (Some period) work kind is P one =
    let periodic : IsPeriodic work = subst (λ period. IsOfKind period work) kind is in
    absurd (subst (HasOne P) periodic.no_prerequisite one)

-- ---- a closing

-- a change that keeps a record's shape: what was asked for, its phase, its attempt and when it is due
pub record KeepsShape (one other : Record) : Type 0 where
  pub same : IsSameRequest one other
  pub phase_is : other.phase ≡ one.phase
  pub attempt : other.attempt ≡ one.attempt
  pub due : due_of other ≡ due_of one

-- What closes the unfinished descendants of a work that hasn't succeeded, and then keeps their shape.
module _ (s : State) (seq : ℕ) (how : How) (then : Record → Record) (keeps : (work : Record) → KeepsShape work (then work)) (valid : Valid s)
    (not_yet : AllByRecursion (OfNumber seq (λ work. Succeeded work.phase → ⊥)) s.works)
    (bad : (change : Record → Record) (p : Phase) (prior : List ℕ) → MovesTo s.works change p prior (phase.Done how)) where
  abbrev pub after_closing : Record → Record
  after_closing work = then (closed_in how s.now seq s.works work)

  closing-same : (work : Record) → IsSameRequest work (after_closing work)
  closing-same work =
      let is = (keeps (closed_in how s.now seq s.works work)).same in
      closed_both (λ w. IsSameRequest w (then w) → IsSameRequest work (then w)) how s.now seq s.works work
      (λ e is. record { seq = is.seq; name = is.name; request = is.request; prior = is.prior }) (λ e is. is) is

  -- prerequisites that aren't descendants stay open
  each_open : (prior : List ℕ) → (HasOne (λ number. is_descendant seq s.works number ≡ true) prior → ⊥) → AllByRecursion (StaysOpen s.works after_closing) prior
  each_open [] none = tt
  each_open (number ∷ prior) none = (
    All-any s.works (λ other same opens. closed_both (λ w. MaySucceedOrHas (then w).phase) how s.now seq s.works other
        (λ e. absurd (none (inl (subst (λ n. is_descendant seq s.works n ≡ true) same (reached_parts seq s.works other e).1))))
        (λ e. subst MaySucceedOrHas (sym (keeps other).phase_is) opens)),
    each_open prior (λ one. none (inr one)),
  )

  -- where a closing brings a record
  closing-moves : (work : Record) → (HasOne (λ number. is_descendant seq s.works number ≡ true) work.prior → is_descendant seq s.works work.seq ≡ true)
      → ArePriorSound s.works work.phase work.prior → MovesTo s.works after_closing work.phase work.prior (after_closing work).phase
  closing-moves work joins sound =
      closed_both (λ w. MovesTo s.works after_closing work.phase work.prior (then w).phase) how s.now seq s.works work
      (λ e. subst (MovesTo s.works after_closing work.phase work.prior) (sym (keeps (closed how s.now work)).phase_is) (bad after_closing work.phase work.prior))
      (λ e. subst (MovesTo s.works after_closing work.phase work.prior) (sym (keeps work).phase_is)
      (moves-kept s.works after_closing work.phase work.prior sound
      (λ waits. each_open work.prior (λ one. not_reached seq s.works work e (ap is_open waits) (joins one)))))

  closing-stays : (work : Record) → Succeeded work.phase → Succeeded (after_closing work).phase
  closing-stays work succeeded =
      closed_both (λ w. Succeeded (then w).phase) how s.now seq s.works work
      (λ e. absurd (succeeded-open work.phase succeeded (reached_parts seq s.works work e).0)) (λ e. (keeps work).phase_is ∙ succeeded)

  pub IsChange-closing : AllByRecursion (λ work. IsRecord (after_closing work)) s.works → IsChange s.works after_closing
  IsChange-closing fits = record {
    same = closing-same;
    fits = fits;
    moves = All-with2 s.works (λ work reached sound. closing-moves work reached sound) (descendant_after seq s.works valid.works.in_order valid.works.records)
        valid.works.sound;
    stays = All-any s.works closing-stays;
  }

  -- of other works just those run that ran before
  pub closing-others : AllByRecursion (λ work. work.seq ≢ seq → KeepsRun work (after_closing work)) s.works
  closing-others =
      All-weaker s.works (λ work alone differs. closed_both (λ w. KeepsRun work (then w)) how s.now seq s.works work (λ e. record {
        ran = λ running. absurd (idle-done how (sym (keeps (closed how s.now work)).phase_is ∙ running));
        runs = λ running. absurd (differs (alone running (reached_parts seq s.works work e).1));
        attempt = λ running. absurd (differs (alone running (reached_parts seq s.works work e).1));
      }) (λ e. KeepsRun-same work (then work) (keeps work).phase_is (keeps work).attempt))
      (running_descendant seq s.works valid.works.in_order valid.works.records valid.works.sound not_yet)

  -- where the work itself was unfinished it is finished
  pub closing-idle : AllByRecursion (OfNumber seq (λ work. is_open work.phase ≡ true)) s.works
      → AllByRecursion (OfNumber seq (λ work. (after_closing work).phase ≡ phase.Done how)) s.works
  closing-idle unfinished =
      All-with2 s.works (λ work unfinished reached same. closed_both (λ w. (then w).phase ≡ phase.Done how) how s.now seq s.works work
      (λ e. (keeps (closed how s.now work)).phase_is)
      (λ e. absurd (not_reached seq s.works work e (unfinished same) (reached same)))) unfinished (descendant_self seq s.works)

  -- a work that is left was left before
  pub closing-left : IsChange s.works after_closing → AllByRecursion (IsOldLeft s.now s.works after_closing) s.works
  closing-left is =
      All-any s.works (λ work.
      elim (cases_Bool (is_reached seq s.works work)) [
        | inl e ↦
            let closed_is : after_closing work ≡ then (closed how s.now work) = ap (λ b. then (cond b (closed how s.now work) work)) e in
            left-gone s.now s.works after_closing work (left-idle s.now (map after_closing s.works) (after_closing work)
            (ap is_waiting (ap (λ (w : Record). w.phase) closed_is ∙ (keeps (closed how s.now work)).phase_is)))
        | inr e ↦
            let kept_is : after_closing work ≡ then work = ap (λ b. then (cond b (closed how s.now work) work)) e in
            left-kept s.now s.works after_closing is work (ap (λ (w : Record). w.phase) kept_is ∙ (keeps work).phase_is) (ap due_of kept_is ∙ (keeps work).due)
      ])

-- ---- what is closed is as every record

-- a descendant of a one-time work is one-time
one_time_descendant : (seq : ℕ) (works : List Record) (work : Record) → OfNumber seq (λ w. w.request.period ≡ None) work → IsReason seq (reverse works) work
    → IsRecord work → is_reached seq works work ≡ true → work.request.period ≡ None
one_time_descendant seq works work own reason is reached =
    elim (reason (reached_parts seq works work reached).1) [
      | inl self ↦ own self
      | inr one ↦ names_some work.request.period work refl is.kind (λ number. is_descendant seq works number ≡ true) one
    ]

-- what fails with its outputs as they are, or as another change that keeps them Data makes them
pub fits-failed : (s : State) (seq : ℕ) (then : Record → Record) → Valid s → AllByRecursion (OfNumber seq (λ work. work.request.period ≡ None)) s.works
    → ((work : Record) → IsRecord work → work.request.period ≡ None → IsRecord (then (closed how.Failed s.now work)))
    → ((work : Record) → (work.seq ≡ seq → ⊥) → IsRecord work → IsRecord (then work))
    → AllByRecursion (OfNumber seq (λ work. is_open work.phase ≡ true)) s.works
    → AllByRecursion (λ work. IsRecord (then (closed_in how.Failed s.now seq s.works work))) s.works
fits-failed s seq then valid one_time failed others unfinished =
    let kind : AllByRecursion (λ work. IsRecord work → is_reached seq s.works work ≡ true → work.request.period ≡ None) s.works =
    All-with2 s.works (λ work own reason. one_time_descendant seq s.works work own reason) one_time
    (descendant_by seq s.works valid.works.in_order valid.works.records) in
    let not : AllByRecursion (λ work. is_reached seq s.works work ≡ false → work.seq ≡ seq → ⊥) s.works =
    All-with2 s.works (λ work unfinished reached e same. not_reached seq s.works work e (unfinished same) (reached same)) unfinished
    (descendant_self seq s.works) in
    All-with3 s.works (λ work fine kind not. closed_both (λ w. IsRecord (then w)) how.Failed s.now seq s.works work (λ e. failed work fine (kind fine e))
    (λ e. others work (not e) fine)) valid.works.records kind not

-- ---- a success

-- a work whose delay counts from this moment, where it is freed among these
abbrev pub freed_in : ℕ → ℕ → List Record → Record → Record
freed_in now seq works work = cond (is_freed seq works work) (record work { enqueued_at = now }) work

-- what holds in both cases
freed_both : (P : Record → Type 0) (now seq : ℕ) (works : List Record) (work : Record)
    → (is_freed seq works work ≡ true → P (record work { enqueued_at = now })) → (is_freed seq works work ≡ false → P work) → P (freed_in now seq works work)
freed_both P now seq works work hit miss = cond_both (is_freed seq works work) (record work { enqueued_at = now }) work P hit miss

-- a work that succeeds with this output, and those that are freed by it
abbrev pub success : ℕ → ℕ → List DataEntry → List Record → Record → Record
success now seq output works work = freed_in now seq (changed_work (succeeded now output) seq works) (changed (succeeded now output) seq work)

-- ---- the changes

-- the change that the end of a run makes of each record
abbrev pub end_by : Bool → ℕ → ℕ → Option Period → End → List Record → Record → Record
end_by renewed now seq period Retry works work = changed (retried renewed now) seq work
end_by renewed now seq (Some period) _ works work = changed (enqueued_again renewed now) seq work
end_by renewed now seq None (Success output) works work = success now seq output works work
end_by renewed now seq None (Failure output) works work = changed (with_output output) seq (closed_in how.Failed now seq works work)

-- the change that a failed start makes of each record
abbrev pub not_started_by : ℕ → ℕ → Option Period → List Record → Record → Record
not_started_by now seq None works work = closed_in how.Failed now seq works work
not_started_by now seq (Some period) works work = changed (enqueued_again false now) seq work

pub works_after_end-map : (renewed : Bool) (now seq : ℕ) (period : Option Period) (end : End) (works : List Record)
    → works_after_end renewed now seq period end works ≡ map (end_by renewed now seq period end works) works
works_after_end-map renewed now seq period Retry works = refl
works_after_end-map renewed now seq (Some period) (Success output) works = refl
works_after_end-map renewed now seq (Some period) (Failure output) works = refl
works_after_end-map renewed now seq None (Success output) works =
    map-twice (changed (succeeded now output) seq) (freed_in now seq (changed_work (succeeded now output) seq works)) works
works_after_end-map renewed now seq None (Failure output) works = map-twice (closed_in how.Failed now seq works) (changed (with_output output) seq) works

pub works_not_started-map : (now seq : ℕ) (period : Option Period) (works : List Record)
    → works_not_started now seq period works ≡ map (not_started_by now seq period works) works
works_not_started-map now seq None works = refl
works_not_started-map now seq (Some period) works = refl

-- ---- the record of a number

-- each record of the number has the period that is found for it
pub same_period : (seq : ℕ) (works : List Record) → AllLater IsBefore works
    → AllByRecursion (OfNumber seq (λ work. work.request.period ≡ period_of seq works)) works
same_period seq [] order = tt
same_period seq (work ∷ works) order =
    cond_both (eqb work.seq seq) (Some work) (work_numbered seq works) (λ (found : Option Record).
    AllByRecursion (OfNumber seq (λ w. w.request.period ≡ option_and_then (λ (w : Record). w.request.period) found)) (work ∷ works)) (λ e. (
      λ same. refl,
      All-weaker works (λ w before same. let here = eqb-true work.seq seq e in let above = before.number in absurd (omega (arith, here, above, same))) order.0,
    )) (λ e. (λ same. absurd (false≢true (sym e ∙ eq-eqb work.seq seq same)), same_period seq works order.1))

-- ---- what the end of a run makes of the records

-- the change ends the run, and no more works are left to a drain, but that its own may be where it was renewed
pub record HasEnded (s : State) (run : Run) (change : Record → Record) : Type 0 where
  pub ending : IsEnding s run change
  pub others : AllByRecursion (λ work. work.seq ≢ run.seq → IsOldLeft s.now s.works change work) s.works
  pub old : run.renewed ≡ false → AllByRecursion (IsOldLeft s.now s.works change) s.works

-- a record that is changed by its number alone
others_same : (seq : ℕ) (change : Record → Record) (works : List Record)
    → AllByRecursion (λ work. work.seq ≢ seq → KeepsRun work (changed change seq work)) works
others_same seq change works =
    All-any works (λ work differs. changed_both (KeepsRun work) change seq work (λ same. absurd (differs same)) (λ no. KeepsRun-same work work refl refl))

-- periodic work names no prerequisite
pub no_prior : (period : Period) (work : Record) → work.request.period ≡ Some period → IsRecord work → work.prior ≡ []
no_prior period work repeats is =
    let periodic : IsPeriodic work = subst (λ kind. IsOfKind kind work) repeats is.kind in periodic.no_prerequisite

KeepsShape-output : (output : List DataEntry) (seq : ℕ) (work : Record) → KeepsShape work (changed (with_output output) seq work)
unfolding due_of
KeepsShape-output output seq work =
    changed_both (KeepsShape work) (with_output output) seq work
    (λ e. record { same = record { seq = refl; name = λ text is. is; request = refl; prior = refl }; phase_is = refl; attempt = refl; due = refl })
    (λ differs. record { same = record { seq = refl; name = λ text is. is; request = refl; prior = refl }; phase_is = refl; attempt = refl; due = refl })

-- a work that is left after a success was left before: one that is freed was blocked
success_left : (now seq : ℕ) (output : List DataEntry) (works : List Record) → IsChange works (success now seq output works)
    → AllByRecursion (OfNumber seq (λ work. Succeeded work.phase → ⊥)) works → (work : Record) → IsOldLeft now works (success now seq output works) work
success_left now seq output works is not_yet work =
    let all = success now seq output works in
    let then = changed_work (succeeded now output) seq works in
    elim (cases_Bool (eqb work.seq seq)) [
      | inl e ↦
          let here : changed (succeeded now output) seq work ≡ succeeded now output work = ap (λ b. cond b (succeeded now output work) work) e in
          let done : is_waiting (all work).phase ≡ false =
          freed_both (λ w. is_waiting w.phase ≡ false) now seq then (changed (succeeded now output) seq work)
          (λ f. ap (λ (w : Record). is_waiting w.phase) here) (λ f. ap (λ (w : Record). is_waiting w.phase) here) in
          left-gone now works all work (left-idle now (map all works) (all work) done)
      | inr e ↦
          let here : changed (succeeded now output) seq work ≡ work = ap (λ b. cond b (succeeded now output work) work) e in
          elim (cases_Bool (is_freed seq then work)) [
            | inl f ↦ λ left.
                let parts = and_parts (is_waiting work.phase) (is_among work.prior seq && all_met then work) f in
                let more = and_parts (is_among work.prior seq) (all_met then work) parts.1 in
                blocked-left now works work seq parts.0 more.0 not_yet
            | inr f ↦
                let kept : all work ≡ work = ap (freed_in now seq then) here ∙ ap (λ b. cond b (record work { enqueued_at = now }) work) f in
                left-kept now works all is work (ap (λ (w : Record). w.phase) kept) (ap due_of kept)
          ]
    ]

module _ (s : State) (run : Run) (valid : Valid s)
    (running : AllByRecursion (OfNumber run.seq (λ work. work.phase ≡ phase.Running)) s.works) where
  -- a running work hasn't succeeded
  running_not_yet : AllByRecursion (OfNumber run.seq (λ work. Succeeded work.phase → ⊥)) s.works
  running_not_yet =
      All-weaker s.works (λ work is same succeeded. let clash : phase.Running ≡ phase.Done how.Succeeded = sym (is same) ∙ succeeded in absurd (cc)) running

  running_open : AllByRecursion (OfNumber run.seq (λ work. is_open work.phase ≡ true)) s.works
  running_open = All-weaker s.works (λ work is same. ap is_open (is same)) running

  -- the running work is put back, so that it isn't left where the run wasn't renewed
  put_back : (back : Record → Record) → ((work : Record) → IsSameRequest work (back work)) → ((work : Record) → (back work).phase ≡ phase.Waiting)
      → AllByRecursion (OfNumber run.seq (λ work. IsRecord (back work))) s.works → (run.renewed ≡ false → IsChange s.works (changed back run.seq)
      → AllByRecursion (OfNumber run.seq (λ work. is_left s.now (map (changed back run.seq) s.works) (back work) ≡ false)) s.works)
      → HasEnded s run (changed back run.seq)
  put_back back same waits fits gone =
      let seq = run.seq in
      let opens = All-any s.works (λ work e. subst MaySucceedOrHas (sym (waits work)) tt) in
      let open_then =
      All-any s.works
      (λ work before. changed_both (λ c. MaySucceedOrHas c.phase) back seq work (λ e. subst MaySucceedOrHas (sym (waits work)) tt) (λ differs. before)) in
      let is =
      IsChange-one s.works seq back same valid.works.records valid.works.sound fits
      (All-weaker s.works (λ work unfinished e. subst (MovesTo s.works (changed back seq) work.phase work.prior) (sym (waits work))
      (unfinished e, all_open s.works (changed back seq) work.prior open_then)) running_open) running_not_yet opens in
      record {
        ending = record {
          is_change = is;
          idle = All-any s.works (λ work same. changed_both (λ c. c.phase ≡ phase.Running → ⊥) back seq work
              (λ e runs. let clash : phase.Waiting ≡ phase.Running = sym (waits work) ∙ runs in absurd (cc)) (λ differs. absurd (differs same)));
          others = others_same seq back s.works;
        };
        others = left-others s.now seq back s.works is;
        old = λ e. left-one s.now seq back s.works is (gone e is);
      }

  -- the running work is to be retried
  has_retried : s.now < 2 ^ 53 → HasEnded s run (changed (retried run.renewed s.now) run.seq)
  has_retried below =
      let back = retried run.renewed s.now in
      let then = map (changed back run.seq) s.works in
      put_back back (λ work. record { seq = refl; name = λ text is. is; request = refl; prior = refl }) (λ work. refl)
      (All-with2 s.works (λ work runs fine e. IsRecord-retried run.renewed s.now work below (runs e) fine) running valid.works.records)
      (λ not change. All-with3 s.works (λ work runs fine sound e. subst (λ b. is_left s.now then (retried b s.now work) ≡ false) (sym not)
      (left-retried s.now then work (runs e) fine
      (met-then s.now s.works (changed back run.seq) change work (running_prior s.works work.phase work.prior (runs e) sound))))
      running valid.works.records valid.works.sound)

  -- the running work is periodic, and is enqueued again
  has_again : (period : Period) → s.now < 2 ^ 53 → AllByRecursion (OfNumber run.seq (λ work. work.request.period ≡ Some period)) s.works
      → HasEnded s run (changed (enqueued_again run.renewed s.now) run.seq)
  has_again period below repeats =
      let back = enqueued_again run.renewed s.now in
      let then = map (changed back run.seq) s.works in
      put_back back (λ work. record { seq = refl; name = λ text is. is; request = refl; prior = refl }) (λ work. refl)
      (All-with3 s.works (λ work unfinished kind fine e. IsRecord-again period run.renewed s.now work below (unfinished e) (kind e) fine) running_open
      repeats valid.works.records)
      (λ not change. All-with2 s.works (λ work kind fine e. subst (λ b. is_left s.now then (enqueued_again b s.now work) ≡ false) (sym not)
      (left-again period s.now then work (kind e) (no_prior period work (kind e) fine) fine)) repeats valid.works.records)

  -- the running work is one-time, and fails
  has_failed : (output : List DataEntry) → IsData output → AllByRecursion (OfNumber run.seq (λ work. work.request.period ≡ None)) s.works
      → HasEnded s run (λ work. changed (with_output output) run.seq (closed_in how.Failed s.now run.seq s.works work))
  has_failed output gave one_time =
      let then = changed (with_output output) run.seq in
      let fits =
      fits-failed s run.seq then valid one_time
      (λ work is kind. changed_both IsRecord (with_output output) run.seq (closed how.Failed s.now work) (λ e. IsRecord-failed s.now output work valid.now gave kind is)
      (λ differs. IsRecord-failed s.now work.output work valid.now (IsData-output work is) kind is))
      (λ work differs is. changed_both IsRecord (with_output output) run.seq work (λ e. absurd (differs e)) (λ no. is)) running_open in
      let is = IsChange-closing s run.seq how.Failed then (KeepsShape-output output run.seq) valid running_not_yet (λ change p prior. tt) fits in
      let old = closing-left s run.seq how.Failed then (KeepsShape-output output run.seq) valid running_not_yet (λ change p prior. tt) is in
      record {
        ending = record {
          is_change = is;
          idle = All-weaker s.works (λ work done e runs. idle-done how.Failed (sym (done e) ∙ runs))
              (closing-idle s run.seq how.Failed then (KeepsShape-output output run.seq) valid running_not_yet (λ change p prior. tt) running_open);
          others = closing-others s run.seq how.Failed then (KeepsShape-output output run.seq) valid running_not_yet (λ change p prior. tt);
        };
        others = All-weaker s.works (λ work is differs. is) old;
        old = λ e. old;
      }

  -- the running work is one-time, and succeeds
  has_success : (output : List DataEntry) → s.now < 2 ^ 53 → IsData output → AllByRecursion (OfNumber run.seq (λ work. work.request.period ≡ None)) s.works
      → HasEnded s run (success s.now run.seq output s.works)
  has_success output below gave one_time =
      let seq = run.seq in
      let one = changed (succeeded s.now output) seq in
      let then = changed_work (succeeded s.now output) seq s.works in
      let all = success s.now seq output s.works in
      let phase_is : (work : Record) → (all work).phase ≡ (one work).phase =
      λ work. freed_both (λ w. w.phase ≡ (one work).phase) s.now seq then (one work) (λ e. refl) (λ e. refl) in
      let first =
      IsChange-one s.works seq (succeeded s.now output) (λ work. record { seq = refl; name = λ text is. is; request = refl; prior = refl }) valid.works.records
      valid.works.sound
      (All-with3 s.works (λ work runs kind fine e. IsRecord-succeeded s.now output work below gave (runs e) (kind e) fine) running one_time valid.works.records)
      (All-with2 s.works (λ work runs sound e. succeeded_each s.works work.prior valid.works.in_order
      (running_prior s.works work.phase work.prior (runs e) sound)) running valid.works.sound) running_not_yet (All-any s.works (λ work e. tt)) in
      let is =
      IsChange-like s.works one all first phase_is (λ work.
      let same = first.same work in
      freed_both (IsSameRequest work) s.now seq then (one work)
      (λ e. record { seq = same.seq; name = same.name; request = same.request; prior = same.prior }) (λ e. same))
      (All-weaker s.works (λ work fine. freed_both IsRecord s.now seq then (one work) (λ e. IsRecord-freed s.now (one work) below fine) (λ e. fine))
      first.fits) in
      record {
        ending = record {
          is_change = is;
          idle = All-any s.works (λ work same runs. changed_both (λ c. c.phase ≡ phase.Running → ⊥) (succeeded s.now output) seq work
              (λ e ran. idle-done how.Succeeded ran) (λ differs. absurd (differs same)) (sym (phase_is work) ∙ runs));
          others = All-weaker s.works (λ work keeps differs.
              let kept = keeps differs in
              freed_both (KeepsRun work) s.now seq then (one work) (λ e. record { ran = kept.ran; runs = kept.runs; attempt = kept.attempt }) (λ e. kept))
              (others_same seq (succeeded s.now output) s.works);
        };
        others = All-any s.works (λ work differs. success_left s.now seq output s.works is running_not_yet work);
        old = λ e. All-any s.works (success_left s.now seq output s.works is running_not_yet);
      }

-- the change that an end makes of each record, by the kind of its work
has_ended : (s : State) (run : Run) (period : Option Period) (end : End) → Valid s
    → AllByRecursion (OfNumber run.seq (λ work. work.phase ≡ phase.Running)) s.works
    → AllByRecursion (OfNumber run.seq (λ work. work.request.period ≡ period)) s.works → GivesData (given_by end)
    → HasEnded s run (end_by run.renewed s.now run.seq period end s.works)
has_ended s run period Retry valid running kind gave = has_retried s run valid running valid.now
has_ended s run (Some period) (Success output) valid running kind gave = has_again s run valid running period valid.now kind
has_ended s run (Some period) (Failure output) valid running kind gave = has_again s run valid running period valid.now kind
has_ended s run None (Success output) valid running kind gave = has_success s run valid running output valid.now gave kind
has_ended s run None (Failure output) valid running kind gave = has_failed s run valid running output gave kind

-- the change that the end of a run makes of each record
abbrev pub end_in : State → Run → End → Record → Record
end_in s run end = end_by run.renewed s.now run.seq (period_of run.seq s.works) end s.works

pub HasEnded-end : (s : State) (run : Run) (end : End) → Valid s → AllByRecursion (OfNumber run.seq (λ work. work.phase ≡ phase.Running)) s.works
    → GivesData (given_by end) → HasEnded s run (end_in s run end)
HasEnded-end s run end valid running gave =
    has_ended s run (period_of run.seq s.works) end valid running (same_period run.seq s.works valid.works.in_order) gave
