-- A table without runs beside its bench, once it was begun and after a line.
use Rattle.std.proofs.Common.{◌≡◌, ℕ, List, [], map, sym, ap, subst, ◌∙◌}
use Rattle.wm_bench.specs.declared.place.Place.{Place}
use Rattle.wm_keeper.specs.Store.{Store}
use Rattle.wm_keeper.specs.declared.row.Row.{Row}
use Rattle.wm_machine.proofs.Openings.{reached-opened}
use Rattle.wm_machine.proofs.Steps.{framed, Valid-after}
use Rattle.wm_machine.specs.Frame.{frame_of, instances_after, Frame, IsLinedIn}
use Rattle.wm_machine.specs.Opened.{opening_state, reopened, Opened}
use Rattle.wm_machine.specs.Valid.{Valid}
use Rattle.wm_machine.specs.declared.command.Command.{Command}
use Rattle.wm_machine.specs.declared.event.Event.TheVariants as event
use Rattle.wm_machine.specs.declared.reply.Reply.{Reply}
use Rattle.wm_machine.specs.declared.state.Instance.{Instance}
use Rattle.wm_machine.specs.declared.state.Run.{Run}
use Rattle.wm_machine.specs.declared.state.State.{State}
use Rattle.wm_seating.proofs.RetiredPlaces.{workers-after, NoneAway-after}
use Rattle.wm_seating.specs.Bench.{instance_traits, place_traits, places_after, NoneAway}
use Rattle.wm_engine.specs.Calls.{IsOneStep}
use Rattle.wm_engine.specs.TableState.{TableState}
use Rattle.wm_worker.specs.declared.kind.Kind.{Kind}
use Rattle.wm_seating.specs.Idle.{IsIdle}

pub idle-called : {K B : Type 0} (kind_of : B → Kind) (store : K → Store) (old new : TableState K) (places next : List (Place B)) (line : ℕ) (asked : Command)
    (reply : Reply) → IsIdle kind_of old places → IsOneStep store (event.Command line asked reply) old new → new.roll ≡ old.roll
    → next ≡ places_after kind_of asked places → IsIdle kind_of new next
idle-called kind_of store old new places next line asked reply idle step roll is =
    let e = event.Command line asked reply in
    let lined : IsLinedIn asked old.state (frame_of old.state e) = framed old.state e step.legal in
    let instances : new.state.instances ≡ instances_after asked old.state.instances =
    ap (λ (t : State). t.instances) step.state ∙ ap (λ (f : Frame). f.instances) lined.frame_is in
    record {
      valid = rw step.state (Valid-after old.state e idle.valid step.legal);
      workers = rw (is, instances) (workers-after kind_of asked places old.state.instances idle.workers);
      none_away = rw is (NoneAway-after kind_of asked places idle.none_away);
      no_run = ap (λ (t : State). t.runs) step.state ∙ ap (λ (f : Frame). f.runs) lined.frame_is ∙ ap (λ (runs : List Run). map lined.change runs) idle.no_run;
      none_out = roll ∙ idle.none_out;
    }

-- a table that was just begun, with the instances that these workers are
pub idle-begun : {K B : Type 0} (kind_of : B → Kind) (table : TableState K) (places : List (Place B)) (rows : List Row) (instances : List Instance)
    → Opened rows instances table.first → table.state ≡ table.first → table.roll ≡ [] → map (place_traits kind_of) places ≡ map instance_traits instances
    → NoneAway places → IsIdle kind_of table places
idle-begun kind_of table places rows instances opened begun roll workers none =
    let is : table.state ≡ opening_state (map reopened opened.stored) instances = begun ∙ opened.state in
    record {
      valid = subst Valid (sym begun) (reached-opened rows instances table.first opened);
      workers = workers ∙ sym (ap (λ (t : State). map instance_traits t.instances) is);
      none_away = none;
      no_run = ap (λ (t : State). t.runs) is;
      none_out = roll;
    }
