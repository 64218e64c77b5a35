-- Which event raises the number of the next run, and how many runs there are after an event.
use Rattle.std.proofs.Common.{Some, ◌≡◌, ◌≢◌, ℕ, ◌+◌, ◌-◌, ◌^◌, ◌<◌, ◌≤◌, not, eqb, List, [], ◌∷◌, length, length-append, IsSomeAnd, ◌∙◌, ap, arith, inl, inr, subst, sym}
use Rattle.std.proofs.lemmas.List.{length-map}
use Rattle.wm_collections.proofs.Lists.{filter-few}
use Rattle.wm_machine.proofs.Steps.{framed}
use Rattle.wm_machine.proofs.Turns.{turned_at}
use Rattle.wm_machine.specs.Frame.{frame_of, Frame, IsFramed}
use Rattle.wm_machine.specs.Role as role
use Rattle.wm_machine.specs.Role.{Role}
use Rattle.wm_machine.specs.Runs.{other_runs, run_numbered}
use Rattle.wm_runs.proofs.RunLookups.{found-numbered}
use Rattle.std.proofs.lemmas.Bool.{cases_Bool, cases_order}
use Rattle.std.proofs.lemmas.Option.{none-some}
use Rattle.wm_machine.specs.Step.{after, role_of, Legal}
use Rattle.wm_machine.specs.declared.event.Event.{Event}
use Rattle.wm_machine.specs.declared.event.Event.TheVariants as event
use Rattle.wm_machine.specs.declared.command.Command.{Command}
use Rattle.wm_machine.specs.declared.reply.Reply.{Reply}
use Rattle.wm_changes.specs.StepChanges.{changed_state, next_run_by, IsStepOf}
use Rattle.wm_changes.specs.declared.change.StepChange.{StepChange}
use Rattle.wm_machine.specs.declared.state.Run.{Run}
use Rattle.wm_machine.specs.declared.state.State.{State}

-- an event of this role begins no run
abbrev pub BeginsNone : Role → Type 0
BeginsNone (role.Begins number instance) = ⊥
BeginsNone _ = Unit {0}

next-framed : (r : Role) (s : State) (f : Frame) → IsFramed r s f → f.next_run ≤ s.next_run + 1
next-framed (role.Line asked) s f is = let same = ap (λ (f : Frame). f.next_run) is.frame_is in omega (arith, same)
next-framed (role.Begins number instance) s f is = let same = ap (λ (f : Frame). f.next_run) is.frame_is in omega (arith, same)
next-framed role.Refuses s f is = let same = ap (λ (f : Frame). f.next_run) is in omega (arith, same)
next-framed (role.GoesOn number gave) s f is = let same = ap (λ (f : Frame). f.next_run) is.frame_is in omega (arith, same)
next-framed (role.Ends number gave) s f is = let same = ap (λ (f : Frame). f.next_run) is.frame_is in omega (arith, same)
next-framed (role.Returns number) s f is = let same = ap (λ (f : Frame). f.next_run) is.frame_is in omega (arith, same)

-- at most one run begins
pub next-legal : (s : State) (e : Event) → Legal s e → (after s e).next_run ≤ s.next_run + 1
next-legal s e legal = next-framed (role_of e) s (frame_of s e) (framed s e legal)

next-same : (r : Role) (s : State) (f : Frame) → IsFramed r s f → BeginsNone r → f.next_run ≡ s.next_run
next-same (role.Line asked) s f is none = ap (λ (f : Frame). f.next_run) is.frame_is
next-same (role.Begins number instance) s f is none = absurd none
next-same role.Refuses s f is none = ap (λ (f : Frame). f.next_run) is
next-same (role.GoesOn number gave) s f is none = ap (λ (f : Frame). f.next_run) is.frame_is
next-same (role.Ends number gave) s f is none = ap (λ (f : Frame). f.next_run) is.frame_is
next-same (role.Returns number) s f is none = ap (λ (f : Frame). f.next_run) is.frame_is

-- and none by an event that begins none
pub next-kept : (s : State) (e : Event) → Legal s e → BeginsNone (role_of e) → (after s e).next_run ≡ s.next_run
next-kept s e legal none = next-same (role_of e) s (frame_of s e) (framed s e legal) none

runs-framed : (r : Role) (s : State) (f : Frame) → IsFramed r s f → length f.runs ≤ length s.runs + 1
runs-framed (role.Line asked) s f is =
    let same = ap (λ (f : Frame). length f.runs) is.frame_is ∙ length-map s.runs is.change in omega (arith, same)
runs-framed (role.Begins number instance) s f is =
    let same = ap (λ (f : Frame). length f.runs) is.frame_is ∙ length-append s.runs (is.run ∷ []) in omega (arith, same)
runs-framed role.Refuses s f is = let same = ap (λ (f : Frame). length f.runs) is in omega (arith, same)
runs-framed (role.GoesOn number gave) s f is =
    let same = ap (λ (f : Frame). length f.runs) is.frame_is ∙ length-map s.runs (turned_at is.run.run) in omega (arith, same)
runs-framed (role.Ends number gave) s f is =
    let same = ap (λ (f : Frame). length f.runs) is.frame_is in
    let few = filter-few (λ (r : Run). not (eqb r.run is.run.run)) s.runs in omega (arith, same, few)
runs-framed (role.Returns number) s f is =
    let same = ap (λ (f : Frame). length f.runs) is.frame_is in
    let few = filter-few (λ (r : Run). not (eqb r.run is.run.run)) s.runs in omega (arith, same, few)

-- there is one run more at most
pub runs-legal : (s : State) (e : Event) → Legal s e → length (after s e).runs ≤ length s.runs + 1
runs-legal s e legal = runs-framed (role_of e) s (frame_of s e) (framed s e legal)

-- one run fewer is there
others-fewer : (number : ℕ) (runs : List Run) (run : Run) → run_numbered number runs ≡ Some run → length (other_runs number runs) + 1 ≤ length runs
others-fewer number [] run found = absurd (none-some run found)
others-fewer number (one ∷ runs) run found = elim (cases_Bool (eqb one.run number)) [
  | inl e ↦ let few = filter-few (λ (r : Run). not (eqb r.run number)) runs in rw e (omega (arith, few))
  | inr e ↦ let rest = others-fewer number runs run (rw e at found) in rw e (omega (arith, rest))
]

-- an event of this role takes a run away
abbrev pub TakesAway : Role → Type 0
TakesAway (role.Ends number gave) = Unit {0}
TakesAway (role.Returns number) = Unit {0}
TakesAway _ = ⊥

fewer-by : (number : ℕ) (s : State) (f : Frame) (gone : Run) → run_numbered number s.runs ≡ Some gone → f.runs ≡ other_runs gone.run s.runs
    → length f.runs + 1 ≤ length s.runs
fewer-by number s f gone found runs =
    let its = found-numbered number s.runs gone found in
    let same : length f.runs ≡ length (other_runs number s.runs) = ap length (runs ∙ ap (λ n. other_runs n s.runs) its) in
    omega (arith, same, others-fewer number s.runs gone found)

fewer-framed : (r : Role) (s : State) (f : Frame) → IsFramed r s f → TakesAway r → length f.runs + 1 ≤ length s.runs
fewer-framed (role.Line asked) s f is away = absurd away
fewer-framed (role.Begins number instance) s f is away = absurd away
fewer-framed role.Refuses s f is away = absurd away
fewer-framed (role.GoesOn number gave) s f is away = absurd away
fewer-framed (role.Ends number gave) s f is away = fewer-by number s f is.run is.is_running (ap (λ (f : Frame). f.runs) is.frame_is)
fewer-framed (role.Returns number) s f is away = fewer-by number s f is.run is.is_running (ap (λ (f : Frame). f.runs) is.frame_is)

-- then there is one run fewer
pub runs-fewer : (s : State) (e : Event) → Legal s e → TakesAway (role_of e) → length (after s e).runs + 1 ≤ length s.runs
runs-fewer s e legal away = fewer-framed (role_of e) s (frame_of s e) (framed s e legal) away

-- where a run of this number is found, there are runs
found-some : (P : Run → Type 0) (number : ℕ) (runs : List Run) → IsSomeAnd (run_numbered number runs) P → runs ≢ []
found-some P number [] is = absurd is
found-some P number (run ∷ runs) is = λ e. absurd cc

pub some-runs : (P : Run → Type 0) (s : State) (number : ℕ) → IsSomeAnd (run_numbered number s.runs) P → s.runs ≢ []
some-runs P s number is = found-some P number s.runs is

-- where an event begins none, the number of the next run stays below its end
pub few-kept : (s : State) (change : StepChange) → IsStepOf s change → BeginsNone (role_of change.event) → s.next_run < 2 ^ 64
    → next_run_by change.run s.next_run < 2 ^ 64
few-kept s change is none few =
    let same : (changed_state change s).next_run ≡ s.next_run = ap (λ (t : State). t.next_run) is.state ∙ next-kept s change.event is.legal none in
    subst (λ n. n < 2 ^ 64) (sym same) few

-- and the same of a state that is equal
pub few-line : (s old : State) (change : StepChange) (line : ℕ) (asked : Command) (answer : Reply) → old ≡ s → IsStepOf s change
    → change.event ≡ event.Command line asked answer → s.next_run < 2 ^ 64 → next_run_by change.run old.next_run < 2 ^ 64
few-line s old change line asked answer same is event_is few =
    subst (λ (t : State). next_run_by change.run t.next_run < 2 ^ 64) (sym same)
    (few-kept s change is (subst (λ (e : Event). BeginsNone (role_of e)) (sym event_is) tt) few)

-- a number that is at most one more stays below an end that was away by more than one
one-more : (n next : ℕ) → next ≤ n + 1 → n < 2 ^ 64 → (n ≡ 18446744073709551615 → ⊥) → next < 2 ^ 64
one-more n next more few last = elim (cases_order n 18446744073709551615) [
  | inl same ↦ absurd (last same)
  | inr (inl less) ↦ omega (arith, less, more)
  | inr (inr beyond) ↦ absurd (omega (arith, few, beyond))
]

-- one run more has a number where there is a further one
pub few-more : (s : State) (change : StepChange) → IsStepOf s change → s.next_run < 2 ^ 64 → (s.next_run ≡ 18446744073709551615 → ⊥)
    → next_run_by change.run s.next_run < 2 ^ 64
few-more s change is few last =
    let more : next_run_by change.run s.next_run ≤ s.next_run + 1 = subst (λ (t : State). t.next_run ≤ s.next_run + 1) (sym is.state) (next-legal s change.event is.legal) in
    one-more s.next_run (next_run_by change.run s.next_run) more few last
