-- Every step, with a row for each event.
use Rattle.std.proofs.Common.{refl}
use Rattle.wm_machine.proofs.Commands.{answered}
use Rattle.wm_machine.proofs.Finishes.{finish-framed, finish-kept, late-framed, late-kept, timed_out-framed, timed_out-kept}
use Rattle.wm_machine.proofs.Owed.{IsKept}
use Rattle.wm_machine.proofs.StartFailures.{start_failed-kept}
use Rattle.wm_machine.proofs.Starts.{start-framed, start-kept}
use Rattle.wm_machine.proofs.Turns.{turn-framed, turn-kept}
use Rattle.wm_machine.specs.Frame.{frame_of, IsFramed}
use Rattle.wm_machine.specs.Step.{after, Legal, role_of}
use Rattle.wm_machine.specs.Valid.{Valid}
use Rattle.wm_machine.specs.Types.{Event, State}
use Rattle.wm_machine.specs.declared.event.Event.TheVariants as event

-- what it makes of all but the records
pub framed : (s : State) (e : Event) → Legal s e → IsFramed (role_of e) s (frame_of s e)
framed s (event.Command line asked answer) legal = (answered s asked legal.0).frame
framed s (event.Start run seq instance input) legal = start-framed s run seq instance input legal
framed s (event.StartFailed seq cause) legal = refl
framed s (event.Turn number progress) legal = turn-framed s number progress legal
framed s (event.Finish number end) legal = finish-framed s number end legal
framed s (event.TimedOut number) legal = timed_out-framed s number legal
framed s (event.Late number) legal = late-framed s number legal

-- it keeps what holds of the states that are reached, and a drain still ends
pub kept : (s : State) (e : Event) → Valid s → Legal s e → IsKept (role_of e) s (after s e)
kept s (event.Command line asked answer) reached legal = record { reached = (answered s asked legal.0).reached reached; left = tt }
kept s (event.Start run seq instance input) reached legal = start-kept s run seq instance input reached legal
kept s (event.StartFailed seq cause) reached legal = start_failed-kept s seq cause reached legal
kept s (event.Turn number progress) reached legal = turn-kept s number progress reached legal
kept s (event.Finish number end) reached legal = finish-kept s number end reached legal
kept s (event.TimedOut number) reached legal = timed_out-kept s number reached legal
kept s (event.Late number) reached legal = late-kept s number reached legal

pub Valid-after : (s : State) (e : Event) → Valid s → Legal s e → Valid (after s e)
Valid-after s e valid legal = (kept s e valid legal).reached
