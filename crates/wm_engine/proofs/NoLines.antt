-- Which events are no lines.
use Rattle.std.proofs.Common.{◌≡◌, ℕ, List, Option, Some, None, IsSomeAnd, ap, subst}
use Rattle.wm_data.specs.declared.data.DataEntry.{DataEntry}
use Rattle.wm_machine.proofs.Steps.{framed}
use Rattle.wm_machine.specs.Frame.{frame_of, Frame, IsEndedIn, IsFramed}
use Rattle.wm_machine.specs.Role as role
use Rattle.wm_machine.specs.Role.{Reported}
use Rattle.wm_machine.specs.Log.{command_in}
use Rattle.wm_machine.specs.Runs.{run_numbered}
use Rattle.wm_machine.specs.Step.{after, role_of, Legal}
use Rattle.wm_machine.specs.declared.event.Event.{Event}
use Rattle.wm_machine.specs.declared.event.Event.TheVariants as event
use Rattle.wm_machine.specs.declared.state.Run.{Run}
use Rattle.wm_machine.specs.declared.state.State.{State}
use Rattle.wm_runs.specs.Builds.{IsClaiming, IsClaimOf}
use Rattle.wm_runs.specs.declared.starting.Claimed.{Claimed}
use Rattle.wm_runs.specs.declared.starting.Claimed.TheVariants as claimed
use Rattle.wm_runs.specs.declared.starting.Claiming.{Claiming}
use Rattle.wm_engine.specs.Images.{IsNoLine}

-- what an event that ends a run makes of all but the records
pub framed_end : (s : State) (number : ℕ) (gave : Reported) (e : Event) → role_of e ≡ role.Ends number gave → Legal s e → IsEndedIn number gave s (frame_of s e)
framed_end s number gave e ends legal = subst (λ r. IsFramed r s (frame_of s e)) ends (framed s e legal)

-- it is no line
pub silent_end : (s : State) (number : ℕ) (gave : Reported) (e : Event) → role_of e ≡ role.Ends number gave → Legal s e → IsNoLine e
silent_end s number gave e ends legal = ap (λ (f : Frame). f.commands) (framed_end s number gave e ends legal).frame_is

-- what was claimed is a start, or a work that can't start
silent_start : (found : Option Run) (number : ℕ) (input : List DataEntry) (e : Event)
    → IsSomeAnd found (λ run. (input ≡ run.input) × (e ≡ event.Start number run.seq run.instance input)) → IsNoLine e
silent_start None number input e is = absurd is
silent_start (Some run) number input e is = ap command_in is.1

silent_claimed : (s : State) (e : Event) (made : Claimed) → IsClaimOf s e made → IsNoLine e
silent_claimed s e (claimed.Run number input) is = silent_start (run_numbered number s.runs) number input e is
silent_claimed s e (claimed.Failed seq cause) is = ap command_in is

pub silent_claim : (s : State) (claiming : Claiming) → IsClaiming s claiming → IsNoLine claiming.change.event
silent_claim s claiming is = silent_claimed (after s claiming.change.event) claiming.change.event claiming.claimed is.claimed
