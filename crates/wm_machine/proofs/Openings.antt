-- An opened state is one that the machine reaches, and so is each state of a log from there.
use Rattle.std.proofs.Common.{◌≡◌, ℕ, ◌+◌, max, List, [], ◌∷◌, map, Option, Some, None, refl, sym, ap, subst, arith}
use Rattle.wm_collections.proofs.Lists.{All-any, All-map, All-weaker}
use Rattle.wm_data.specs.declared.data.DataEntry.{DataEntry}
use Rattle.wm_keeper.specs.declared.row.Row.{Row}
use Rattle.wm_machine.proofs.Changes.{all_open, AreWorks-changed, IsChange, moves-kept, MovesTo}
use Rattle.wm_machine.proofs.Records.{IsRecord-kept, moments-kept}
use Rattle.wm_machine.proofs.Steps.{Valid-after}
use Rattle.wm_machine.specs.Opened.{AreFresh, IsOfLog, next_number, Opened, opening_state, reopened, reopened_phase}
use Rattle.wm_machine.specs.Replay.{Replay}
use Rattle.wm_machine.specs.Step.{after}
use Rattle.wm_machine.specs.Valid.{Valid, ArePriorSound, AreWorks, IsAttemptIn, IsFinishedIn, IsOfKind, IsOutputIn, IsPeriodicPhase, IsProgressIn, IsRecord, MaySucceedOrHas}
use Rattle.wm_machine.specs.declared.record.Phase.TheVariants as phase
use Rattle.wm_machine.specs.Types.{Event, Instance, Period, Phase, Record, State}

-- ---- a record that waits again

attempt-reopened : (p : Phase) (attempt : ℕ) → IsAttemptIn p attempt → IsAttemptIn (reopened_phase p) attempt
attempt-reopened phase.Waiting attempt is = tt
attempt-reopened phase.Running attempt is = tt
attempt-reopened (phase.Done how) attempt is = is

output-reopened : (p : Phase) (output : List DataEntry) → IsOutputIn p output → IsOutputIn (reopened_phase p) output
output-reopened phase.Waiting output is = is
output-reopened phase.Running output is = is
output-reopened (phase.Done how) output is = is

finished-reopened : (p : Phase) (finished_at : ℕ) → IsFinishedIn p finished_at → IsFinishedIn (reopened_phase p) finished_at
finished-reopened phase.Waiting finished_at is = is
finished-reopened phase.Running finished_at is = is
finished-reopened (phase.Done how) finished_at is = is

progress-reopened : (p : Phase) → IsProgressIn (reopened_phase p) []
progress-reopened phase.Waiting = refl
progress-reopened phase.Running = refl
progress-reopened (phase.Done how) = refl

periodic-reopened : (p : Phase) → IsPeriodicPhase p → IsPeriodicPhase (reopened_phase p)
periodic-reopened phase.Waiting is = tt
periodic-reopened phase.Running is = tt
periodic-reopened (phase.Done how) is = is

kind-reopened : (period : Option Period) (work : Record) → IsOfKind period work → IsOfKind period (reopened work)
kind-reopened None work is = is
kind-reopened (Some period) work is =
    record { phase_is = periodic-reopened work.phase is.phase_is; no_output = is.no_output; no_prerequisite = is.no_prerequisite }

IsRecord-reopened : (work : Record) → IsRecord work → IsRecord (reopened work)
IsRecord-reopened work is =
    IsRecord-kept work (reopened work) refl is (record {
      name = is.name;
      moments = moments-kept work (reopened work) refl refl refl (finished-reopened work.phase work.finished_at is.finished_at) is;
      attempt = is.attempt;
      started = attempt-reopened work.phase work.attempt is.started;
      backoff_n = is.backoff_n;
      runs = is.runs;
      kind = kind-reopened work.request.period work is.kind;
      output = output-reopened work.phase work.output is.output;
      progress = progress-reopened work.phase;
    })

-- ---- the records

open-reopened : (p : Phase) → MaySucceedOrHas p → MaySucceedOrHas (reopened_phase p)
open-reopened phase.Waiting may = tt
open-reopened phase.Running may = tt
open-reopened (phase.Done how) may = may

moves-reopened : (works : List Record) (p : Phase) (prior : List ℕ) → ArePriorSound works p prior → MovesTo works reopened p prior (reopened_phase p)
moves-reopened works phase.Waiting prior sound = (refl, all_open works reopened prior (All-any works (λ work may. open-reopened work.phase may)))
moves-reopened works phase.Running prior sound = (refl, all_open works reopened prior (All-any works (λ work may. open-reopened work.phase may)))
moves-reopened works (phase.Done how) prior sound = moves-kept works reopened (phase.Done how) prior sound (λ waits. absurd cc)

IsChange-reopened : (next : ℕ) (works : List Record) → AreWorks next works → IsChange works reopened
IsChange-reopened next works are = record {
  same = λ work. record { seq = refl; name = λ text is. is; request = refl; prior = refl };
  fits = All-weaker works (λ work is. IsRecord-reopened work is) are.records;
  moves = All-weaker works (λ work sound. moves-reopened works work.phase work.prior sound) are.sound;
  stays = All-any works (λ work succeeded. ap reopened_phase succeeded);
}

next_number-reopened : (works : List Record) → next_number (map reopened works) ≡ next_number works
next_number-reopened [] = refl
next_number-reopened (work ∷ works) = ap (max (work.seq + 1)) (next_number-reopened works)

none_runs : (p : Phase) → reopened_phase p ≡ phase.Running → ⊥
none_runs phase.Waiting is = absurd cc
none_runs phase.Running is = absurd cc
none_runs (phase.Done how) is = absurd cc

-- ---- the state

-- works of which those that were running wait again
pub works-reopened : (stored : List Record) → AreWorks (next_number stored) stored → AreWorks (next_number (map reopened stored)) (map reopened stored)
works-reopened stored sound =
    subst (λ n. AreWorks n (map reopened stored)) (sym (next_number-reopened stored))
    (AreWorks-changed (next_number stored) stored reopened sound (IsChange-reopened (next_number stored) stored sound))

pub reached-opened : (rows : List Row) (instances : List Instance) (first : State) → Opened rows instances first → Valid first
reached-opened rows instances first opened =
    let stored = opened.stored in
    subst Valid (sym opened.state) (record {
      works = works-reopened stored opened.sound;
      runs = record {
        running = All-map _ reopened stored (λ work is running. absurd (none_runs work.phase running)) opened.sound.records;
        each = tt;
        apart = tt;
      };
      instances = record {
        out = All-weaker instances (λ instance is. is.out) opened.fresh.all;
        few = opened.fresh.few;
        numbered = opened.fresh.in_order;
      };
      few_observers = omega arith;
      now = omega arith;
    })

-- what an empty store opens to
pub opened-nothing : (instances : List Instance) → AreFresh instances → Opened [] instances (opening_state [] instances)
opened-nothing instances fresh = record {
  stored = [];
  rows_are_theirs = tt;
  sound = record { first = omega arith; fits = omega arith; numbers = tt; few = omega arith; records = tt; in_order = tt; sound = tt };
  fresh = fresh;
  state = refl;
}

pub reached-opening : (instances : List Instance) → AreFresh instances → Valid (opening_state [] instances)
reached-opening instances fresh = reached-opened [] instances (opening_state [] instances) (opened-nothing instances fresh)

-- an opened state has no run
pub rest-opened : {rows : List Row} {instances : List Instance} {first : State} → Opened rows instances first → first.runs ≡ []
rest-opened opened = ap (λ (s : State). s.runs) opened.state

pub reached-replayed : (first last : State) (log : List Event) → Valid first → Replay first log last → Valid last
reached-replayed first last [] reached replays = subst Valid (sym replays) reached
reached-replayed first last (e ∷ log) reached replays = reached-replayed (after first e) last log (Valid-after first e reached replays.0) replays.1

pub reached-of_log : (s : State) → IsOfLog s → Valid s
reached-of_log s is = reached-replayed is.first s is.log (reached-opened is.rows is.instances is.first is.opened) is.replay
