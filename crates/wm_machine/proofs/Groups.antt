-- What holds of a state once works are cancelled one after another, and others are let go by their name.
use Rattle.std.proofs.Common.{reverse, map-id, ◌≡◌, ◌&&◌, ◌||◌, ℕ, ◌≤◌, Bool, true, false, not, cond, eqb, List, [], ◌∷◌, map, filter, length, Option, Some, None, refl, sym, ◌∙◌, ap, arith, inl, inr}
use Rattle.std.specs.List.{AllByRecursion, list_any}
use Rattle.std.proofs.lemmas.Bool.{and_parts, cases_Bool, cond_both, true≢false}
use Rattle.std.proofs.lemmas.List.{length-map}
use Rattle.wm_collections.specs.Lists.{is_among}
use Rattle.wm_machine.proofs.Changes.{IsChange-still, IsSameRequest, KeepsRun, OfNumber, reached-changed, Succeeded}
use Rattle.wm_machine.proofs.Closings.{HasNotSucceeded, Valid-work_closed}
use Rattle.wm_machine.proofs.Endings.{closed_both, closed_in, KeepsRun-same}
use Rattle.wm_collections.proofs.Lists.{All-any, All-filter, All-map, All-weaker, filter-all, filter-few, list_any-agree, list_any-false, list_any_after, map-reverse, map-same, map-twice, none_pass}
use Rattle.wm_machine.proofs.Records.{IsRecord-kept, moments-kept}
use Rattle.wm_machine.proofs.Removals.{reached-removed, without_gone}
use Rattle.wm_machine.proofs.Stops.{stopped_in, with_stopped-none, with_stopped-twice}
use Rattle.wm_machine.specs.Closed.{closed, descendants, is_open, is_reached, is_run_reached, with_closed, with_work_closed, with_works_closed}
use Rattle.wm_machine.specs.Enqueued.{made_ready}
use Rattle.wm_machine.specs.Frame.{untouched}
use Rattle.wm_machine.specs.Group.{is_dropped, unnamed, with_let_go}
use Rattle.wm_machine.specs.Plan.{Placing}
use Rattle.wm_machine.specs.Pruned.{removable}
use Rattle.wm_machine.specs.Runs.{stopped, with_stopped}
use Rattle.wm_machine.specs.Valid.{Valid, IsOfKind, IsRecord}
use Rattle.wm_machine.specs.Types.{Command, How, Period, Record, Run, State}
use Rattle.wm_machine.specs.declared.record.How.TheVariants as how

-- ---- what a closing reaches later

-- descendants go by numbers and prerequisites alone
descendants-map : (seq : ℕ) (change : Record → Record) (works : List Record) → ((work : Record) → (change work).seq ≡ work.seq)
    → ((work : Record) → (change work).prior ≡ work.prior) → descendants seq (map change works) ≡ descendants seq works
descendants-map seq change [] numbers priors = refl
descendants-map seq change (work ∷ earlier) numbers priors = rw (numbers work, priors work, descendants-map seq change earlier numbers priors) refl

-- after a closing a work reaches no other records than before, but those that are finished then
reached-same : (how : How) (now seq other : ℕ) (works : List Record) (work : Record)
    → is_reached other (with_closed how now seq works) work ≡ is_reached other works work
unfolding is_reached
reached-same how now seq other works work =
    let change = closed_in how now seq works in
    let numbers = λ (w : Record). closed_both (λ c. c.seq ≡ w.seq) how now seq works w (λ e. refl) (λ e. refl) in
    let priors = λ (w : Record). closed_both (λ c. c.prior ≡ w.prior) how now seq works w (λ e. refl) (λ e. refl) in
    ap (λ found. is_open work.phase && is_among found work.seq)
    (ap (descendants other) (sym (map-reverse change works)) ∙ descendants-map other change (reverse works) numbers priors)

-- what is finished isn't reached
reached-closed_one : (how : How) (now other : ℕ) (works : List Record) (work : Record) → is_reached other works (closed how now work) ≡ false
unfolding is_reached
reached-closed_one how now other works work = refl

-- what is reached after a closing was reached before it
reached_before : (how : How) (now seq other : ℕ) (works : List Record) (work : Record)
    → is_reached other (with_closed how now seq works) (closed_in how now seq works work) ≡ true → is_reached other works work ≡ true
reached_before how now seq other works work =
    closed_both (λ c. is_reached other (with_closed how now seq works) c ≡ true → is_reached other works work ≡ true) how now seq works work
    (λ e is. absurd (true≢false (sym is ∙ reached-closed_one how now other (with_closed how now seq works) work)))
    (λ e is. sym (reached-same how now seq other works work) ∙ is)

-- nor does it reach other runs than before, but those of what is finished then
run_reached_after : (how : How) (now seq other : ℕ) (works : List Record) (run : Run) → is_run_reached seq works run ≡ false
    → is_run_reached other (with_closed how now seq works) run ≡ is_run_reached other works run
run_reached_after how now seq other works run none =
    let then = with_closed how now seq works in
    list_any_after (λ work. eqb work.seq run.seq && is_reached other then work) (closed_in how now seq works) works
    ∙ list_any-agree (λ work. eqb (closed_in how now seq works work).seq run.seq && is_reached other then (closed_in how now seq works work))
    (λ work. eqb work.seq run.seq && is_reached other works work) works (All-weaker works (λ work fails.
    elim (cases_Bool (is_reached seq works work)) [
      | inl e ↦
          let apart : eqb work.seq run.seq ≡ false = left_fails (eqb work.seq run.seq) (is_reached seq works work) e fails in
          rw (e, apart) refl
      | inr e ↦ rw e (ap (λ b. eqb work.seq run.seq && b) (reached-same how now seq other works work))
    ]) (none_pass (λ work. eqb work.seq run.seq && is_reached seq works work) works none))
  where
    left_fails : (one other : Bool) → other ≡ true → (one && other) ≡ false → one ≡ false
    left_fails true other is fails = absurd (true≢false (sym is ∙ fails))
    left_fails false other is fails = refl

-- ---- cancelling one after another

-- what hasn't succeeded hasn't after a cancelling
not_yet_later : (now seq : ℕ) (works : List Record) (other : ℕ) → HasNotSucceeded works other → HasNotSucceeded (with_closed how.Cancelled now seq works) other
not_yet_later now seq works other not_yet =
    All-map _ (closed_in how.Cancelled now seq works) works (λ work not.
    closed_both (OfNumber other (λ w. Succeeded w.phase → ⊥)) how.Cancelled now seq works work (λ e same succeeded. absurd (cc)) (λ e. not)) not_yet

-- a state in which none of these has succeeded, once they are cancelled
pub Valid-works_closed : (seqs : List ℕ) (s : State) → Valid s → AllByRecursion (HasNotSucceeded s.works) seqs
    → Valid (with_works_closed how.Cancelled seqs s)
Valid-works_closed [] s valid not_yet = valid
Valid-works_closed (seq ∷ seqs) s valid not_yet =
    Valid-works_closed seqs (with_work_closed how.Cancelled seq s) (Valid-work_closed s seq valid not_yet.0)
    (All-weaker seqs (λ other not. not_yet_later s.now seq s.works other not) not_yet.1)

-- a record, closed where one of these works reaches it
abbrev pub closed_by : How → ℕ → List ℕ → List Record → Record → Record
closed_by how now seqs works work = cond (list_any (λ seq. is_reached seq works work) seqs) (closed how now work) work

closed_then : (how : How) (now seq : ℕ) (seqs : List ℕ) (works : List Record) (work : Record)
    → closed_by how now seqs (with_closed how now seq works) (closed_in how now seq works work) ≡ closed_by how now (seq ∷ seqs) works work
closed_then how now seq seqs works work =
    let then = with_closed how now seq works in
    elim (cases_Bool (is_reached seq works work)) [
      | inl e ↦
          let none = list_any-false (λ other. is_reached other then (closed how now work)) seqs (All-any seqs (λ other. reached-closed_one how now other then work)) in
          let left : closed_by how now seqs then (closed_in how now seq works work) ≡ closed_by how now seqs then (closed how now work) =
          ap (λ b. closed_by how now seqs then (cond b (closed how now work) work)) e in
          left ∙ ap (λ b. cond b (closed how now (closed how now work)) (closed how now work)) none
          ∙ sym (ap (λ b. cond (b || list_any (λ other. is_reached other works work) seqs) (closed how now work) work) e)
      | inr e ↦
          let left : closed_by how now seqs then (closed_in how now seq works work) ≡ closed_by how now seqs then work =
          ap (λ b. closed_by how now seqs then (cond b (closed how now work) work)) e in
          left ∙ ap (λ b. cond b (closed how now work) work) (list_any-agree (λ other. is_reached other then work) (λ other. is_reached other works work) seqs
          (All-any seqs (λ other. reached-same how now seq other works work)))
          ∙ sym (ap (λ b. cond (b || list_any (λ other. is_reached other works work) seqs) (closed how now work) work) e)
    ]

-- works that are closed one after another are closed at once: each record that one of them reaches
pub works_closed-at_once : (how : How) (seqs : List ℕ) (s : State) → (with_works_closed how seqs s).works ≡ map (closed_by how s.now seqs s.works) s.works
works_closed-at_once how [] s = sym (map-id s.works)
works_closed-at_once how (seq ∷ seqs) s =
    let works = s.works in
    let now = s.now in
    let then = with_closed how now seq works in
    works_closed-at_once how seqs (with_work_closed how seq s) ∙ map-twice (closed_in how now seq works) (closed_by how now seqs then) works
    ∙ map-same (λ work. closed_by how now seqs then (closed_in how now seq works work)) (closed_by how now (seq ∷ seqs) works) works (All-any works
    (λ work. closed_then how now seq seqs works work))

-- ---- the runs that are stopped then

-- whether a run is of a record that one of these works reaches
abbrev pub is_any_run_reached : List ℕ → List Record → Run → Bool
is_any_run_reached seqs works run = list_any (λ seq. is_run_reached seq works run) seqs

-- and so are the runs of these records stopped
pub runs_closed-at_once : (how : How) (seqs : List ℕ) (s : State)
    → (with_works_closed how seqs s).runs ≡ with_stopped (is_any_run_reached seqs s.works) s.runs
runs_closed-at_once how [] s = sym (with_stopped-none s.runs)
runs_closed-at_once how (seq ∷ seqs) s =
    let works = s.works in
    let now = s.now in
    let then = with_closed how now seq works in
    let first = is_run_reached seq works in
    let after = λ (run : Run). first run || is_any_run_reached seqs then run in
    let both = λ (run : Run). first run || is_any_run_reached seqs works run in
    runs_closed-at_once how seqs (with_work_closed how seq s) ∙ with_stopped-twice first (is_any_run_reached seqs then) s.runs
    ∙ map-same (stopped_in after) (stopped_in both) s.runs (All-any s.runs (λ run.
    elim (cases_Bool (first run)) [
      | inl e ↦
          ap (λ b. cond (b || is_any_run_reached seqs then run) (stopped run) run) e
          ∙ sym (ap (λ b. cond (b || is_any_run_reached seqs works run) (stopped run) run) e)
      | inr e ↦
          ap (λ b. cond (first run || b) (stopped run) run) (list_any-agree (λ other. is_run_reached other then run) (λ other. is_run_reached other works run) seqs
          (All-any seqs (λ other. run_reached_after how now seq other works run e)))
    ]))

-- and all else stays
pub works_closed-is : (how : How) (seqs : List ℕ) (s : State) → with_works_closed how seqs s
    ≡ record s { works = map (closed_by how s.now seqs s.works) s.works; runs = with_stopped (is_any_run_reached seqs s.works) s.runs }
works_closed-is how seqs s =
    but_two how seqs s
    ∙ ap (λ (works : List Record). record s { works = works; runs = (with_works_closed how seqs s).runs }) (works_closed-at_once how seqs s)
    ∙ ap (λ (runs : List Run). record s { works = map (closed_by how s.now seqs s.works) s.works; runs = runs }) (runs_closed-at_once how seqs s)
  where
    but_two : (how : How) (seqs : List ℕ) (s : State)
        → with_works_closed how seqs s ≡ record s { works = (with_works_closed how seqs s).works; runs = (with_works_closed how seqs s).runs }
    but_two how [] s = refl
    but_two how (seq ∷ seqs) s = but_two how seqs (with_work_closed how seq s)

-- so has the frame
pub frame-works_closed : (how : How) (seqs : List ℕ) (s : State) (commands : List Command)
    → untouched (with_works_closed how seqs s) commands
    ≡ record (untouched s commands) { runs = with_stopped (is_any_run_reached seqs s.works) s.runs }
frame-works_closed how seqs s commands = ap (λ (t : State). untouched t commands) (works_closed-is how seqs s)

-- ---- letting go

unnamed_both : (P : Record → Type 0) (numbers : List ℕ) (work : Record) → (is_among numbers work.seq ≡ true → P (record work { name = None }))
    → (is_among numbers work.seq ≡ false → P work) → P (unnamed numbers work)
unnamed_both P numbers work hit miss = cond_both (is_among numbers work.seq) (record work { name = None }) work P hit miss

kind-unnamed : (period : Option Period) (work : Record) → IsOfKind period work → IsOfKind period (record work { name = None })
kind-unnamed None work kind = kind
kind-unnamed (Some period) work kind = record { phase_is = kind.phase_is; no_output = kind.no_output; no_prerequisite = kind.no_prerequisite }

IsRecord-unnamed : (work : Record) → IsRecord work → IsRecord (record work { name = None })
IsRecord-unnamed work is =
    IsRecord-kept work (record work { name = None }) refl is (record {
      name = tt;
      moments = moments-kept work (record work { name = None }) refl refl refl is.finished_at is;
      attempt = is.attempt;
      started = is.started;
      backoff_n = is.backoff_n;
      runs = is.runs;
      kind = kind-unnamed work.request.period work is.kind;
      output = is.output;
      progress = is.progress;
    })

-- names are taken
reached-unnamed : (numbers : List ℕ) (s : State) → Valid s → Valid (record s { works = map (unnamed numbers) s.works })
reached-unnamed numbers s valid =
    reached-changed s (unnamed numbers) valid (IsChange-still s.works (unnamed numbers) (λ work. unnamed_both (IsSameRequest work) numbers work
    (λ e. record { seq = refl; name = λ text is. absurd (cc); request = refl; prior = refl })
    (λ e. record { seq = refl; name = λ text is. is; request = refl; prior = refl }))
    (λ work. unnamed_both (λ w. w.phase ≡ work.phase) numbers work (λ e. refl) (λ e. refl))
    (All-weaker s.works (λ work is. unnamed_both IsRecord numbers work (λ e. IsRecord-unnamed work is) (λ e. is)) valid.works.records) valid.works.sound)
    (All-any s.works (λ work.
    unnamed_both (KeepsRun work) numbers work (λ e. KeepsRun-same work (record work { name = None }) refl refl) (λ e. KeepsRun-same work work refl refl)))

-- records are let go
reached-let_go : (numbers : List ℕ) (s : State) → Valid s → Valid (record s { works = with_let_go numbers s.works })
reached-let_go numbers s reached =
    reached-unnamed numbers (record s { works = without_gone (is_dropped numbers s.works) s.works }) (reached-removed s (is_dropped numbers s.works) reached
    (All-any s.works (λ work is. (and_parts (is_among numbers work.seq) (removable s.works work) is).1)))

-- a state in which none is to be cancelled that has succeeded is made ready
pub reached-made_ready : (s : State) (placing : Placing) → Valid s → AllByRecursion (HasNotSucceeded s.works) placing.cancel
    → Valid (made_ready s placing)
reached-made_ready s placing valid not_yet =
    reached-let_go placing.let_go (with_works_closed how.Cancelled placing.cancel s) (Valid-works_closed placing.cancel s valid not_yet)

-- its frame is that of a line that stops the runs of what is cancelled
pub frame-made_ready : (s : State) (placing : Placing) (commands : List Command)
    → untouched (made_ready s placing) commands
    ≡ record (untouched s commands) { runs = with_stopped (is_any_run_reached placing.cancel s.works) s.runs }
frame-made_ready s placing commands = frame-works_closed how.Cancelled placing.cancel s commands

-- its next number is as it was
pub next-made_ready : (s : State) (placing : Placing) → (made_ready s placing).next ≡ s.next
next-made_ready s placing = ap (λ (t : State). t.next) (works_closed-is how.Cancelled placing.cancel s)

-- ---- what holds of the records then

All-works_closed : (P : Record → Type 0) (how : How) (seqs : List ℕ) (s : State) → ((work : Record) → P work → P (closed how s.now work))
    → AllByRecursion P s.works → AllByRecursion P (with_works_closed how seqs s).works
All-works_closed P how [] s keeps all = all
All-works_closed P how (seq ∷ seqs) s keeps all =
    All-works_closed P how seqs (with_work_closed how seq s) keeps
    (All-map _ (closed_in how s.now seq s.works) s.works (λ work p. closed_both P how s.now seq s.works work (λ e. keeps work p) (λ e. p)) all)

All-let_go : (P Q : Record → Type 0) (numbers : List ℕ) (works : List Record)
    → ((work : Record) → is_among numbers work.seq ≡ true → P work → Q (record work { name = None }))
    → ((work : Record) → is_among numbers work.seq ≡ false → P work → Q work) → AllByRecursion P works → AllByRecursion Q (with_let_go numbers works)
All-let_go P Q numbers works taken left all =
    All-map _ (unnamed numbers) (without_gone (is_dropped numbers works) works)
    (λ work p. unnamed_both Q numbers work (λ e. taken work e p) (λ e. left work e p))
    (All-filter (λ work. not (is_dropped numbers works work)) works (λ work e p. p) all)

-- what holds of each record of a state, and lasts where one is closed, holds of each that is made ready, or what follows from it
pub All-made_ready : (P Q : Record → Type 0) (s : State) (placing : Placing) → ((work : Record) → P work → P (closed how.Cancelled s.now work))
    → ((work : Record) → is_among placing.let_go work.seq ≡ true → P work → Q (record work { name = None }))
    → ((work : Record) → is_among placing.let_go work.seq ≡ false → P work → Q work) → AllByRecursion P s.works → AllByRecursion Q (made_ready s placing).works
All-made_ready P Q s placing keeps taken left all =
    All-let_go P Q placing.let_go (with_works_closed how.Cancelled placing.cancel s).works taken left
    (All-works_closed P how.Cancelled placing.cancel s keeps all)

length-works_closed : (how : How) (seqs : List ℕ) (s : State) → length (with_works_closed how seqs s).works ≡ length s.works
length-works_closed how [] s = refl
length-works_closed how (seq ∷ seqs) s =
    length-works_closed how seqs (with_work_closed how seq s) ∙ length-map s.works (closed_in how s.now seq s.works)

-- there are no more records than before
pub length-made_ready : (s : State) (placing : Placing) → length (made_ready s placing).works ≤ length s.works
length-made_ready s placing =
    let works = (with_works_closed how.Cancelled placing.cancel s).works in
    let stays = filter (λ work. not (is_dropped placing.let_go works work)) works in
    let few = filter-few (λ work. not (is_dropped placing.let_go works work)) works in
    let closed_ones = length-works_closed how.Cancelled placing.cancel s in
    let renamed = length-map stays (unnamed placing.let_go) in
    omega (arith, few, closed_ones, renamed)

-- ---- where none is let go

pub with_let_go-none : (works : List Record) → with_let_go [] works ≡ works
with_let_go-none works = map-id (filter (λ work. true) works) ∙ filter-all (λ work. true) works (λ work. refl)
