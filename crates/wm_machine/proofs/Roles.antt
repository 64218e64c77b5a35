-- What follows from an event's role alone.
use Rattle.std.proofs.Common.{◌≡◌, ℕ, ◌<◌, ◌≤◌, cond, eqb, not, List, [], ◌∷◌, length, Some, refl, sym, ◌∙◌, ap, subst, arith}
use Rattle.std.proofs.lemmas.Bool.{eq-eqb}
use Rattle.wm_collections.proofs.Lists.{All-find}
use Rattle.wm_machine.specs.Frame.{Frame, IsFramed}
use Rattle.wm_machine.specs.Role as role
use Rattle.wm_machine.specs.Role.{Role}
use Rattle.wm_machine.specs.Runs.{other_runs, run_numbered}
use Rattle.wm_machine.specs.Serial.{IsTurnOf}
use Rattle.wm_machine.specs.Turns.{turned, with_turned}
use Rattle.wm_machine.specs.Waiting.{LeavesOf}
use Rattle.wm_machine.specs.Types.{Run, State}

-- a run begins, or can't
abbrev pub Opens : Role → Type 0
Opens (role.Begins run instance) = Unit {0}
Opens role.Refuses = Unit {0}
Opens _ = ⊥

-- a run goes on
abbrev pub Continues : Role → Type 0
Continues (role.GoesOn run gave) = Unit {0}
Continues _ = ⊥

-- a run is over
abbrev pub Closes : Role → Type 0
Closes (role.Ends run gave) = Unit {0}
Closes (role.Returns run) = Unit {0}
Closes _ = ⊥

-- where no run was unreturned, at most one is, and fewer works are left
pub record IsOpened (role : Role) (s : State) (frame : Frame) (before left : ℕ) : Type 0 where
  pub silent : frame.commands ≡ []
  pub turn : IsTurnOf role s
  pub few : length frame.runs ≤ 1
  pub fewer : left < before

pub opened : (r : Role) (s : State) (frame : Frame) (before left : ℕ) → Opens r → IsFramed r s frame → LeavesOf r before left → s.runs ≡ []
    → IsOpened r s frame before left
opened (role.Begins number instance) s frame before left opens is leaves no_run = record {
  silent = ap (λ (f : Frame). f.commands) is.frame_is;
  turn = no_run;
  few = rw (ap (λ (f : Frame). f.runs) is.frame_is, no_run) (omega arith);
  fewer = leaves;
}
opened role.Refuses s frame before left opens is leaves no_run = record {
  silent = ap (λ (f : Frame). f.commands) is;
  turn = no_run;
  few = rw (ap (λ (f : Frame). f.runs) is, no_run) (omega arith);
  fewer = leaves;
}
opened (role.Line asked) s frame before left opens is leaves no_run = absurd opens
opened (role.GoesOn run gave) s frame before left opens is leaves no_run = absurd opens
opened (role.Ends run gave) s frame before left opens is leaves no_run = absurd opens
opened (role.Returns run) s frame before left opens is leaves no_run = absurd opens

-- where one run was unreturned, none is, and no more works are left
pub record IsClosed (role : Role) (s : State) (frame : Frame) (before left : ℕ) : Type 0 where
  pub silent : frame.commands ≡ []
  pub turn : IsTurnOf role s
  pub none : frame.runs ≡ []
  pub no_more : left ≤ before

-- the one run is found
the_one : (number : ℕ) (run found : Run) (runs : List Run) → runs ≡ run ∷ [] → run_numbered number runs ≡ Some found → found ≡ run
the_one number run found runs one is =
    All-find (λ r. r ≡ run) (λ r. eqb r.run number) (run ∷ []) found (subst (λ runs. run_numbered number runs ≡ Some found) one is) (refl, tt)

-- no other run is left
none_left : (number : ℕ) (run found : Run) (runs : List Run) → runs ≡ run ∷ [] → run_numbered number runs ≡ Some found → other_runs found.run runs ≡ []
none_left number run found runs one is =
    let same = the_one number run found runs one is in
    ap (other_runs found.run) one ∙ ap (λ b. cond (not b) (run ∷ []) []) (eq-eqb run.run found.run (ap (λ (r : Run). r.run) (sym same)))

-- the one run is at its next turn
one_turned : (number : ℕ) (run found : Run) (runs : List Run) → runs ≡ run ∷ [] → run_numbered number runs ≡ Some found
    → with_turned found.run runs ≡ turned run ∷ []
one_turned number run found runs one is =
    let same = the_one number run found runs one is in
    ap (with_turned found.run) one ∙ ap (λ b. cond b (turned run) run ∷ []) (eq-eqb run.run found.run (ap (λ (r : Run). r.run) (sym same)))

pub closed : (r : Role) (s : State) (frame : Frame) (before left : ℕ) (run : Run) → Closes r → IsFramed r s frame → LeavesOf r before left → s.runs ≡ run ∷ []
    → IsClosed r s frame before left
closed (role.Ends number gave) s frame before left run closes is leaves one = record {
  silent = ap (λ (f : Frame). f.commands) is.frame_is;
  turn = tt;
  none = ap (λ (f : Frame). f.runs) is.frame_is ∙ none_left number run is.run s.runs one is.is_running;
  no_more = leaves;
}
closed (role.Line asked) s frame before left run closes is leaves one = absurd closes
closed (role.Begins number instance) s frame before left run closes is leaves one = absurd closes
closed role.Refuses s frame before left run closes is leaves one = absurd closes
closed (role.GoesOn number gave) s frame before left run closes is leaves one = absurd closes
closed (role.Returns number) s frame before left run closes is leaves one = record {
  silent = ap (λ (f : Frame). f.commands) is.frame_is;
  turn = tt;
  none = ap (λ (f : Frame). f.runs) is.frame_is ∙ none_left number run is.run s.runs one is.is_running;
  no_more = leaves;
}

-- where one run was unreturned, it is at its next turn, and no more works are left
pub record IsContinued (role : Role) (s : State) (frame : Frame) (run : Run) (before left : ℕ) : Type 0 where
  pub silent : frame.commands ≡ []
  pub turn : IsTurnOf role s
  pub one : frame.runs ≡ turned run ∷ []
  pub no_more : left ≤ before

pub continued : (r : Role) (s : State) (frame : Frame) (before left : ℕ) (run : Run) → Continues r → IsFramed r s frame → LeavesOf r before left
    → s.runs ≡ run ∷ [] → IsContinued r s frame run before left
continued (role.GoesOn number gave) s frame before left run goes is leaves one = record {
  silent = ap (λ (f : Frame). f.commands) is.frame_is;
  turn = tt;
  one = ap (λ (f : Frame). f.runs) is.frame_is ∙ one_turned number run is.run s.runs one is.is_running;
  no_more = leaves;
}
continued (role.Line asked) s frame before left run goes is leaves one = absurd goes
continued (role.Begins number instance) s frame before left run goes is leaves one = absurd goes
continued role.Refuses s frame before left run goes is leaves one = absurd goes
continued (role.Ends number gave) s frame before left run goes is leaves one = absurd goes
continued (role.Returns number) s frame before left run goes is leaves one = absurd goes
