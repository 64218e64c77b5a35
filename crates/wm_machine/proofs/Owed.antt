-- What is owed for each command that may be asked, and for each event that is legal in a state that is reached.
use Rattle.std.proofs.Common.{◌≡◌, Bool, true, false, cond, List, [], ◌∷◌, IsSome, map-id, refl, sym, ◌∙◌, ap}
use Rattle.std.proofs.lemmas.Bool.{cond_both, false≢true}
use Rattle.wm_machine.proofs.Stops.{stopped_both, stopped_in}
use Rattle.wm_machine.specs.Frame.{instances_after, lined_frame, untouched, Frame, IsLinedIn, IsSameRun}
use Rattle.wm_machine.specs.Quiet.{IsQuiet}
use Rattle.wm_machine.specs.Valid.{Valid}
use Rattle.wm_machine.specs.Outcome.{outcome}
use Rattle.wm_machine.specs.Role.{Role}
use Rattle.wm_machine.specs.Runs.{stopped}
use Rattle.wm_machine.specs.Step.{after_command}
use Rattle.wm_machine.specs.Updated.{made_new}
use Rattle.wm_machine.specs.Waiting.{left_to_drain, LeavesOf}
use Rattle.wm_machine.specs.Types.{Command, Run, State}
use Rattle.wm_machine.specs.declared.command.Command.TheVariants as command

-- a command that settles comes where there is nothing left to do
pub record MayBeAsked (s : State) (asked : Command) : Type 0 where
  pub settled : asked ≡ command.Settle → IsQuiet s

-- a run is itself
IsSameRun-self : (run : Run) → IsSameRun run run
IsSameRun-self run = record {
  run = refl;
  seq = refl;
  attempt = refl;
  input = refl;
  kind = refl;
  instance = refl;
  constraints = refl;
  turn = refl;
  current = λ current. current;
  renewed = λ is. is;
}

-- a run is the same once it is stopped
IsSameRun-stopped : (run : Run) → IsSameRun run (stopped run)
IsSameRun-stopped run = record {
  run = refl;
  seq = refl;
  attempt = refl;
  input = refl;
  kind = refl;
  instance = refl;
  constraints = refl;
  turn = refl;
  current = λ current. absurd (false≢true current);
  renewed = λ is. is;
}

-- and once it is renewed
IsSameRun-made_new : (run : Run) → IsSameRun run (made_new run)
IsSameRun-made_new run = record {
  run = refl;
  seq = refl;
  attempt = refl;
  input = refl;
  kind = refl;
  instance = refl;
  constraints = refl;
  turn = refl;
  current = λ current. current;
  renewed = λ is. refl;
}

-- a run, renewed where it is meant
abbrev pub renewed_in : (Run → Bool) → Run → Run
renewed_in renews run = cond (renews run) (made_new run) run

-- what holds in both cases
pub renewed_both : (P : Run → Type 0) (renews : Run → Bool) (run : Run) → (renews run ≡ true → P (made_new run)) → (renews run ≡ false → P run)
    → P (renewed_in renews run)
renewed_both P renews run hit miss = cond_both (renews run) (made_new run) run P hit miss

-- a line may renew runs
pub IsLinedIn-renews : (asked : Command) (s : State) (frame : Frame) (renews : Run → Bool) → frame ≡ lined_frame s asked (renewed_in renews)
    → IsLinedIn asked s frame
IsLinedIn-renews asked s frame renews is = record {
  change = renewed_in renews;
  keeps = λ run. renewed_both (IsSameRun run) renews run (λ e. IsSameRun-made_new run) (λ e. IsSameRun-self run);
  frame_is = is;
}

-- a line may stop runs
pub IsLinedIn-stops : (asked : Command) (s : State) (frame : Frame) (stops : Run → Bool) → frame ≡ lined_frame s asked (stopped_in stops)
    → IsLinedIn asked s frame
IsLinedIn-stops asked s frame stops is = record {
  change = stopped_in stops;
  keeps = λ run. stopped_both (IsSameRun run) stops run (λ e. IsSameRun-stopped run) (λ e. IsSameRun-self run);
  frame_is = is;
}

-- the frame of a line that leaves every run as it is
abbrev pub quiet_frame : State → Command → Frame
quiet_frame s asked = record (untouched s (asked ∷ [])) { instances = instances_after asked s.instances }

-- as most do
pub IsLinedIn-quiet : (asked : Command) (s : State) (frame : Frame) → frame ≡ quiet_frame s asked → IsLinedIn asked s frame
IsLinedIn-quiet asked s frame is = record {
  change = λ run. run;
  keeps = IsSameRun-self;
  frame_is = is ∙ ap (λ (runs : List Run). record (quiet_frame s asked) { runs = runs }) (sym (map-id s.runs));
}

-- Of a command: where it may be asked it has an outcome; it keeps what holds of every state, leaves each run but that it may not be current any
-- more or may be renewed, and retires the instances of the class that it retires.
pub record IsAnswered (s : State) (asked : Command) : Type 0 where
  pub answered : MayBeAsked s asked → IsSome (outcome s asked)
  pub reached : Valid s → Valid (after_command s asked)
  pub frame : IsLinedIn asked s (untouched (after_command s asked) (asked ∷ []))

-- of an event of this role from a state to the next: that one is reached too, and a drain still ends
pub record IsKept (role : Role) (s next : State) : Type 0 where
  pub reached : Valid next
  pub left : LeavesOf role (left_to_drain s) (left_to_drain next)
