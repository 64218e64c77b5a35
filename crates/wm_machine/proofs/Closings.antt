-- Works are closed that haven't succeeded: the runs of what they reach are stopped.
use Rattle.std.proofs.Common.{◌≡◌, ◌&&◌, ℕ, Bool, true, false, eqb, List, filter, refl, sym, ◌∙◌, ap}
use Rattle.std.specs.List.{AllByRecursion}
use Rattle.std.proofs.lemmas.Bool.{and_from, eq-eqb, eqb-true, true≢false}
use Rattle.wm_machine.proofs.Changes.{KeepsRun, OfNumber, Succeeded}
use Rattle.wm_machine.proofs.Endings.{closed_both, closed_in, idle-done, IsChange-closing, KeepsRun-same, KeepsShape, reached_parts, succeeded-open}
use Rattle.wm_collections.proofs.Lists.{All-any, All-filter, All-map, All-stored, All-weaker, list_any-false, none_pass}
use Rattle.wm_machine.proofs.Records.{IsRecord-cancelled}
use Rattle.wm_machine.proofs.Runnings.{IsAlone, IsAlone-stored}
use Rattle.wm_machine.proofs.Stops.{and_fails, IsStop, Valid-stopped}
use Rattle.wm_machine.specs.Closed.{is_open, is_reached, is_run_reached, with_work_closed}
use Rattle.wm_machine.specs.Group.{numbers_in}
use Rattle.wm_collections.specs.Lists.{HasOne}
use Rattle.wm_machine.specs.Valid.{Valid, IsCurrentOf, IsRecord}
use Rattle.wm_machine.specs.declared.record.How.TheVariants as how
use Rattle.wm_machine.specs.declared.record.Phase.TheVariants as phase
use Rattle.wm_machine.specs.Types.{Record, Run, State}

-- ---- the runs of what is closed

-- no run of a record is reached that isn't reached itself
pub not_run_reached : (seq : ℕ) (works : List Record) (work : Record) (run : Run) → AllByRecursion (IsAlone work) works → is_reached seq works work ≡ false
    → run.seq ≡ work.seq → is_run_reached seq works run ≡ false
not_run_reached seq works work run alone not same =
    list_any-false (λ other. eqb other.seq run.seq && is_reached seq works other) works (All-weaker works (λ other is.
    and_fails (eqb other.seq run.seq) (is_reached seq works other)
    (λ e. ap (is_reached seq works) (is (eqb-true other.seq run.seq e ∙ same)) ∙ not)) alone)

keeps_all : (work : Record) → KeepsShape work work
keeps_all work = record { same = record { seq = refl; name = λ text is. is; request = refl; prior = refl }; phase_is = refl; attempt = refl; due = refl }

-- the closing of a work that hasn't succeeded stops the runs of what is closed
IsStop-closing : (s : State) (seq : ℕ) → Valid s → AllByRecursion (OfNumber seq (λ other. Succeeded other.phase → ⊥)) s.works
    → IsStop s (closed_in how.Cancelled s.now seq s.works) (is_run_reached seq s.works)
IsStop-closing s seq valid not_yet =
    let change = closed_in how.Cancelled s.now seq s.works in
    let fits =
    All-weaker s.works (λ other is. closed_both IsRecord how.Cancelled s.now seq s.works other
    (λ e. IsRecord-cancelled s.now other valid.now (reached_parts seq s.works other e).0 is) (λ e. is)) valid.works.records in
    record {
      is_change = IsChange-closing s seq how.Cancelled (λ (w : Record). w) keeps_all valid not_yet (λ change p prior. tt) fits;
      running = All-weaker s.works (λ work there. closed_both
          (λ w. w.phase ≡ phase.Running
          → (work.phase ≡ phase.Running) × AllByRecursion (λ run. IsCurrentOf work.seq run → is_run_reached seq s.works run ≡ false) s.runs)
          how.Cancelled s.now seq s.works work (λ e running. absurd (idle-done how.Cancelled running)) (λ e running. (
            running,
            All-any s.runs (λ run of. not_run_reached seq s.works work run (IsAlone-stored work s.works valid.works.in_order there) e of.of),
          ))) (All-stored s.works);
      works = All-any s.runs (λ run current not. All-weaker s.works (λ work fails of. closed_both (KeepsRun work) how.Cancelled s.now seq s.works work
          (λ e. absurd (true≢false (sym (and_from _ _ (eq-eqb work.seq run.seq of.seq) e) ∙ fails)))
          (λ e. KeepsRun-same work work refl refl)) (none_pass (λ other. eqb other.seq run.seq && is_reached seq s.works other) s.works not));
    }

pub Valid-work_closed : (s : State) (seq : ℕ) → Valid s → AllByRecursion (OfNumber seq (λ other. Succeeded other.phase → ⊥)) s.works
    → Valid (with_work_closed how.Cancelled seq s)
Valid-work_closed s seq valid not_yet =
    Valid-stopped s (closed_in how.Cancelled s.now seq s.works) (is_run_reached seq s.works) valid (IsStop-closing s seq valid not_yet)

-- a record that is unfinished hasn't succeeded, nor has any of its number
not_yet_unfinished : (s : State) (work : Record) → Valid s → HasOne (λ other. other ≡ work) s.works → is_open work.phase ≡ true
    → AllByRecursion (OfNumber work.seq (λ other. Succeeded other.phase → ⊥)) s.works
not_yet_unfinished s work valid stored unfinished =
    All-weaker s.works (λ other same e succeeded. succeeded-open work.phase (sym (ap (λ (w : Record). w.phase) (same e)) ∙ succeeded) unfinished)
    (IsAlone-stored work s.works valid.works.in_order stored)

-- ---- none has succeeded

-- no record of this number has succeeded
abbrev pub HasNotSucceeded : List Record → ℕ → Type 0
HasNotSucceeded works seq = AllByRecursion (OfNumber seq (λ work. Succeeded work.phase → ⊥)) works

-- nor have those of a state that a test of unfinished records passes
pub not_yet_passing : (s : State) (test : Record → Bool) (works : List Record) → Valid s → ((work : Record) → test work ≡ true → is_open work.phase ≡ true)
    → AllByRecursion (λ work. HasOne (λ other. other ≡ work) s.works) works → AllByRecursion (HasNotSucceeded s.works) (numbers_in (filter test works))
not_yet_passing s test works valid unfinished stored =
    All-map _ (λ (work : Record). work.seq) (filter test works) (λ work not. not)
    (All-filter test works (λ work passes there. not_yet_unfinished s work valid there (unfinished work passes)) stored)
