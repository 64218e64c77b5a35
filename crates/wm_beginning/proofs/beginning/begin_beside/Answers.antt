use Rattle.std.proofs.Common.{◌≡◌, false, map, Some, refl, sym, ◌∙◌, ap, subst}
use Rattle.wm_beginning.proofs.Begins.{refused-begin}
use Rattle.wm_beginning.proofs.Unbegun.{EarlyCause-begin}
use Rattle.wm_beginning.specs.Begun.{AreBenched}
use Rattle.wm_beginning.specs.NotBegun.{EarlyCause}
use Rattle.wm_keeper.proofs.Stores.{TellsOn-same, TellsOn-then}
use Rattle.wm_machine.specs.Opened.{AreFresh, Opened}
use Rattle.wm_rows.specs.Sound.{AreSound}
use Rattle.wm_seating.proofs.Hands.{AreFresh-instances_from, NoneAway-hands, traits-places}
use Rattle.wm_seating.proofs.IdleTables.{idle-begun}
use Rattle.wm_seating.specs.Bench.{instance_traits, place_traits, NoneAway}
use Rattle.wm_beginning.proofs.beginning.begin_beside.Goals as goal

pub begin-requires-clause-instances : goal.begin-requires-clause-instances
begin-requires-clause-instances g c =
    let benched = c.requires.benched in
    subst AreFresh (sym benched.are) (AreFresh-instances_from g.B.Worker.kind_of benched.hands benched.few)

pub begin-requires-clause-given_store : goal.begin-requires-clause-given_store
begin-requires-clause-given_store g c =
    let given = c.requires.given in
    TellsOn-same g.M.Mark.inputs.store (g.K.Keeper.store c.args.keeper) given.told (λ image left. (given.images image).0 left) given.lost given.name

pub returns-in-Ok-clause-begun : goal.returns-in-Ok-clause-begun
returns-in-Ok-clause-begun g c =
    let begun = c.in-Ok.ensures in
    let given = c.requires.given in
    let benched = c.requires.benched in
    let kind_of = g.B.Worker.kind_of in
    let run = g.M.Mark.inputs in
    let table = c.in-Ok.table in
    let before = g.K.Keeper.store c.args.keeper in
    record {
      begun = record {
        sound = subst AreSound given.rows_are begun.sound;
        opened = subst (λ rows. Opened rows run.instances table.first) given.rows_are
            (subst (λ instances. Opened c.args.rows.items instances table.first) given.instances_are begun.opened);
        state = begun.state;
        log = begun.log;
        roll = begun.roll;
        rows = begun.held;
        tells_on = TellsOn-then run.store before (g.K.Keeper.store table.keeper)
            (TellsOn-same run.store before given.told (λ image left. (given.images image).0 left) given.lost given.name) begun.tells_on;
        no_fault = begun.cause ∙ given.faults;
        images = λ only. begun.images (λ image left. only image ((given.images image).0 left) ∙ sym given.rows_are);
      };
      benched = subst (AreBenched kind_of c.args.bench) given.instances_are benched;
      idle = idle-begun kind_of table c.args.bench c.args.rows.items c.args.instances begun.opened begun.state begun.roll
          (ap (map (place_traits kind_of)) benched.at_places
          ∙ traits-places kind_of 0 benched.hands
          ∙ ap (map instance_traits) (sym benched.are))
          (subst NoneAway (sym benched.at_places) (NoneAway-hands benched.hands));
      workers = refl;
      sink_is = refl;
    }

pub returns-in-Err-clause-not_begun : goal.returns-in-Err-clause-not_begun
returns-in-Err-clause-not_begun g c =
    let store = g.K.Keeper.store in
    let refused = c.in-Err.refused in
    let rows = c.args.rows.items in
    record {
      cause = subst (λ why. EarlyCause why (store c.args.keeper).faults (store refused.0).faults (Some rows)) (sym c.from.ensures)
          (EarlyCause-begin store c.args.keeper rows refused c.in-Err.ensures.bad c.in-Err.ensures.cause);
      at_opening = rw (c.from.ensures, c.is_at_commit.ensures)
          (refused-begin store rows c.args.instances c.args.keeper refused c.requires.rows c.in-Err.ensures.at_commit c.in-Err.ensures.images_err);
      rows = c.in-Err.ensures.kept;
      goes_on = c.in-Err.ensures.tells_on_err.goes_on;
      sink_is = refl;
      hands_back = c.back.ensures;
    }
