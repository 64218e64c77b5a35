-- What is owed for the commands that set the moment and the conditions, and for the one that hushes.
use Rattle.std.proofs.Common.{◌≡◌, ◌⊎◌, ◌&&◌, ℕ, ◌^◌, ◌<◌, Bool, true, false, cond, eqb, ltb, not, List, [], ◌∷◌, Option, Some, None, refl, sym, ◌∙◌, ap, subst, inl, inr}
use Rattle.std.specs.List.{AllByRecursion}
use Rattle.std.proofs.lemmas.Bool.{and_parts, cases_Bool, cond_both, eq-eqb, eqb-true, false≢true, true≢false}
use Rattle.wm_collections.proofs.Lists.{All-any, All-of_one, All-stored, All-weaker, All-with2, any_passes, HasOne-weaker, list_any-false, none_pass, one_gives}
use Rattle.wm_conditions.specs.Met.{met}
use Rattle.wm_conditions.specs.declared.conditions.Conditions.{Conditions}
use Rattle.wm_machine.proofs.Changes.{all_open, IsChange, IsSameRequest, KeepsRun, moves-kept, MovesTo, Succeeded}
use Rattle.wm_machine.proofs.Endings.{KeepsRun-same}
use Rattle.wm_machine.proofs.Owed.{IsAnswered, IsLinedIn-quiet, IsLinedIn-stops}
use Rattle.wm_machine.proofs.Records.{finished-open, IsRecord-kept, moments-kept}
use Rattle.wm_machine.proofs.Runnings.{all_of_number, each_or_apart}
use Rattle.wm_machine.proofs.Stops.{and_fails, IsStop, Valid-stopped}
use Rattle.wm_machine.specs.Frame.{untouched}
use Rattle.wm_machine.specs.Replied.{Outcome, unchanged}
use Rattle.wm_machine.specs.Settings.{conditioned, is_put_back_by, is_stopped_by, put_back}
use Rattle.wm_machine.specs.Types.{Command, Period, Record, Run, State}
use Rattle.wm_machine.specs.Closed.{is_open}
use Rattle.wm_machine.specs.Valid.{AreApart, IsCurrentOf, IsOfKind, IsOutputIn, IsRecord, MaySucceedOrHas, Valid}
use Rattle.wm_machine.specs.declared.command.Command.TheVariants as command
use Rattle.wm_machine.specs.declared.record.How.TheVariants as how
use Rattle.wm_machine.specs.declared.record.Phase.TheVariants as phase
use Rattle.wm_machine.specs.declared.reply.Refusal.TheVariants.{MomentBack}
use Rattle.wm_machine.specs.declared.reply.Reply.TheVariants as reply

-- another moment and other conditions, hushed or not
abbrev set_to : State → ℕ → Conditions → Bool → State
set_to s at conditions hushed = record s { now = at; conditions = conditions; hushed = hushed }

reached-set : (s : State) (at : ℕ) (conditions : Conditions) (hushed : Bool) → at < 2 ^ 53 → Valid s → Valid (set_to s at conditions hushed)
reached-set s at conditions hushed below valid =
    record { works = valid.works; runs = valid.runs; instances = valid.instances; few_observers = valid.few_observers; now = below }

-- ---- the moment

moved_by : State → ℕ → Bool → Outcome
moved_by s at back = cond back (unchanged s (reply.Refused (MomentBack s.now))) (record { reply = reply.Moment; state = record s { now = at } })

reached-moved : (s : State) (at : ℕ) (back : Bool) → at < 2 ^ 53 → Valid s → Valid (moved_by s at back).state
unfolding moved_by
reached-moved s at true below reached = reached
reached-moved s at false below reached = reached-set s at s.conditions s.hushed below reached

frame-moved : (s : State) (at : ℕ) (back : Bool) (commands : List Command) → untouched (moved_by s at back).state commands ≡ untouched s commands
unfolding moved_by
frame-moved s at true commands = refl
frame-moved s at false commands = refl

pub moment-answered : (s : State) (at : ℕ) → at < 2 ^ 53 → IsAnswered s (command.Moment at)
unfolding moved_by
moment-answered s at below = record {
  answered = λ may. refl;
  reached = λ reached. reached-moved s at (ltb at s.now) below reached;
  frame = IsLinedIn-quiet (command.Moment at) s _ (frame-moved s at (ltb at s.now) (command.Moment at ∷ []));
}

-- ---- the conditions

-- a work, put back where such conditions stop its run
abbrev pub put_back_in : Conditions → List Run → Record → Record
put_back_in conditions runs work = cond (is_put_back_by conditions runs work) (put_back work) work

-- what holds in both cases
put_back_both : (P : Record → Type 0) (conditions : Conditions) (runs : List Run) (work : Record)
    → (is_put_back_by conditions runs work ≡ true → P (put_back work)) → (is_put_back_by conditions runs work ≡ false → P work)
    → P (put_back_in conditions runs work)
put_back_both P conditions runs work hit miss = cond_both (is_put_back_by conditions runs work) (put_back work) work P hit miss

-- what is put back runs
pub put_back-running : (s : State) (conditions : Conditions) → Valid s
    → AllByRecursion (λ work. is_put_back_by conditions s.runs work ≡ true → work.phase ≡ phase.Running) s.works
put_back-running s conditions valid =
    All-weaker s.works (λ work there put. one_gives s.runs (λ run fine is.
    let both = and_parts (eqb run.seq work.seq) (is_stopped_by conditions run) is in
    let current = (and_parts run.current (not (met run.constraints conditions)) both.1).0 in
    All-of_one (λ w. w.seq ≡ run.seq → w.phase ≡ phase.Running) s.works work
    (all_of_number (λ w. w.phase ≡ phase.Running) run.seq s.works valid.works.in_order
    (HasOne-weaker s.works (λ w of. (of.seq, of.running)) (fine.work current))) there (sym (eqb-true run.seq work.seq both.0)))
    valid.runs.each (any_passes (λ run. eqb run.seq work.seq && is_stopped_by conditions run) s.runs put)) (All-stored s.works)

kind-put_back : (period : Option Period) (work : Record) → IsOfKind period work → IsOfKind period (put_back work)
kind-put_back None work is = is
kind-put_back (Some period) work is = record { phase_is = tt; no_output = is.no_output; no_prerequisite = is.no_prerequisite }

IsRecord-put_back : (work : Record) → work.phase ≡ phase.Running → IsRecord work → IsRecord (put_back work)
IsRecord-put_back work running is =
    IsRecord-kept work (put_back work) refl is (record {
      name = is.name;
      moments = moments-kept work (put_back work) refl refl refl (finished-open work.phase work.finished_at (ap is_open running) is.finished_at) is;
      attempt = is.attempt;
      started = tt;
      backoff_n = is.backoff_n;
      runs = is.runs;
      kind = kind-put_back work.request.period work is.kind;
      output = subst (λ p. IsOutputIn p work.output) running is.output;
      progress = refl;
    })

IsChange-put_back : (s : State) (conditions : Conditions) → Valid s → IsChange s.works (put_back_in conditions s.runs)
IsChange-put_back s conditions valid =
    let change = put_back_in conditions s.runs in
    let running = put_back-running s conditions valid in
    let opens = All-any s.works (λ work may. put_back_both (λ w. MaySucceedOrHas w.phase) conditions s.runs work (λ e. tt) (λ e. may)) in
    record {
      same = λ work. put_back_both (IsSameRequest work) conditions s.runs work
          (λ e. record { seq = refl; name = λ text is. is; request = refl; prior = refl })
          (λ e. record { seq = refl; name = λ text is. is; request = refl; prior = refl });
      fits = All-with2 s.works (λ work runs fine. put_back_both IsRecord conditions s.runs work (λ e. IsRecord-put_back work (runs e) fine) (λ e. fine))
          running valid.works.records;
      moves = All-with2 s.works (λ work runs sound. put_back_both (λ w. MovesTo s.works change work.phase work.prior w.phase) conditions s.runs work
          (λ e. subst (λ p. MovesTo s.works change p work.prior phase.Waiting) (sym (runs e)) (refl, all_open s.works change work.prior opens))
          (λ e. moves-kept s.works change work.phase work.prior sound (λ waits. all_open s.works change work.prior opens))) running valid.works.sound;
      stays = All-weaker s.works (λ work runs succeeded. put_back_both (λ w. Succeeded w.phase) conditions s.runs work
          (λ e. let clash : phase.Running ≡ phase.Done how.Succeeded = sym (runs e) ∙ succeeded in absurd (cc)) (λ e. succeeded)) running;
    }

-- two current runs of one work are one
no_other_stopped : (conditions : Conditions) (run other : Run) → (other ≡ run) ⊎ AreApart run other → run.current ≡ true → other.seq ≡ run.seq
    → is_stopped_by conditions run ≡ false → is_stopped_by conditions other ≡ false
no_other_stopped conditions run other (inl same) current of stays = ap (is_stopped_by conditions) same ∙ stays
no_other_stopped conditions run other (inr apart) current of stays =
    elim (cases_Bool (is_stopped_by conditions other)) [
      | inl e ↦ absurd (apart.works current (and_parts other.current (not (met other.constraints conditions)) e).0 (sym of))
      | inr e ↦ e
    ]

IsStop-conditions : (s : State) (conditions : Conditions) → Valid s → IsStop s (put_back_in conditions s.runs) (is_stopped_by conditions)
IsStop-conditions s conditions valid = record {
  is_change = IsChange-put_back s conditions valid;
  running = All-any s.works (λ work. put_back_both
      (λ w. w.phase ≡ phase.Running
      → (work.phase ≡ phase.Running) × AllByRecursion (λ run. IsCurrentOf work.seq run → is_stopped_by conditions run ≡ false) s.runs) conditions s.runs work
      (λ e running. let clash : phase.Waiting ≡ phase.Running = running in absurd (cc)) (λ e running. (
        running,
        All-weaker s.runs (λ run fails of. right_fails (eqb run.seq work.seq) (is_stopped_by conditions run) (eq-eqb run.seq work.seq of.of) fails)
            (none_pass (λ run. eqb run.seq work.seq && is_stopped_by conditions run) s.runs e),
      )));
  works = All-weaker s.runs (λ run others current not. All-any s.works (λ work of. put_back_both (KeepsRun work) conditions s.runs work
      (λ e. absurd (true≢false (sym e ∙ list_any-false (λ other. eqb other.seq work.seq && is_stopped_by conditions other) s.runs (All-weaker s.runs (λ other apart.
      and_fails (eqb other.seq work.seq) (is_stopped_by conditions other) (λ same.
      no_other_stopped conditions run other apart current (eqb-true other.seq work.seq same ∙ of.seq) not)) others))))
      (λ e. KeepsRun-same work work refl refl))) (each_or_apart s.runs valid.runs.apart);
}
  where
    right_fails : (one other : Bool) → one ≡ true → (one && other) ≡ false → other ≡ false
    right_fails true other is fails = fails
    right_fails false other is fails = absurd (false≢true is)

reached-conditioned : (s : State) (conditions : Conditions) → Valid s → Valid (conditioned s conditions).state
reached-conditioned s conditions valid =
    let then = Valid-stopped s (put_back_in conditions s.runs) (is_stopped_by conditions) valid (IsStop-conditions s conditions valid) in
    record { works = then.works; runs = then.runs; instances = then.instances; few_observers = then.few_observers; now = then.now }

pub conditions-answered : (s : State) (conditions : Conditions) → IsAnswered s (command.Conditions conditions)
conditions-answered s conditions = record {
  answered = λ may. refl;
  reached = λ valid. reached-conditioned s conditions valid;
  frame = IsLinedIn-stops (command.Conditions conditions) s _ (is_stopped_by conditions) refl;
}

-- ---- the hush

pub hush-answered : (s : State) → IsAnswered s command.Hush
hush-answered s = record {
  answered = λ may. refl;
  reached = λ reached. reached-set s s.now s.conditions true reached.now reached;
  frame = IsLinedIn-quiet command.Hush s _ refl;
}
