use Rattle.std.proofs.Common.{List, sym, subst}
use Rattle.wm_keeper.specs.declared.row.Row.{Row}
use Rattle.wm_rows.specs.Sound.{AreSound}
use Rattle.wm_engine.proofs.Images.{unopened-left}
use Rattle.wm_engine.specs.Begins.{begin_trouble_of, IsBeginFault, LeavesUnopened}
use Rattle.wm_engine.specs.declared.trouble.Trouble.{Trouble}
use Rattle.wm_engine.specs.declared.trouble.Trouble.TheVariants.{KeeperFault, Memory}
use Rattle.wm_engine.proofs.engine.Engine.begin.Goals as goal

-- the commit of an opening is refused where the rows are sound
refused : (rows : List Row) (trouble : Trouble) → AreSound rows → IsBeginFault rows (begin_trouble_of trouble)
refused rows KeeperFault sound = sound
refused rows Memory sound = sound

pub returns-clause-bad : goal.returns-clause-bad
returns-clause-bad g c =
    subst (IsBeginFault c.args.rows.items) (sym c.from-in-Err-commit.ensures)
    (refused c.args.rows.items c.from-trouble.result (rw c.deref.ensures.value at c.in-Ok.ensures.sound))

pub returns-clause-at_commit : goal.returns-clause-at_commit
returns-clause-at_commit g c = λ at. record {
  sound = rw c.deref.ensures.value at c.in-Ok.ensures.sound;
  first = c.in-Ok.opening.first;
  opened = rw c.deref.ensures.value at c.in-Ok.ensures.opened;
  others = λ same. (rw c.deref-2.ensures.value at c.in-Err-commit.ensures.some) ((rw c.deref.ensures.value at c.in-Ok.ensures.only_changed) same);
}

pub returns-clause-images_err : goal.returns-clause-images_err
returns-clause-images_err g c =
    let store = g.K.Keeper.store in
    let opening = c.in-Ok.opening in
    let rows = c.args.rows.items in
    let instances = c.args.instances in
    let now = c.commit.new.keeper in
    subst (λ fault. LeavesUnopened store rows instances c.args.keeper (now, fault)) (sym c.from-in-Err-commit.ensures)
    (unopened-left store rows instances opening.changes.items opening.first c.args.keeper now c.from-trouble.result c.requires.rows
    (rw c.deref.ensures.value at c.in-Ok.ensures.changes) (rw c.deref.ensures.value at c.in-Ok.ensures.opened)
    (rw c.deref-2.ensures.value at c.in-Err-commit.ensures.stored.images_err))

pub returns-in-Ok-commit-clause-sound : goal.returns-in-Ok-commit-clause-sound
returns-in-Ok-commit-clause-sound g c = rw c.deref.ensures.value at c.in-Ok.ensures.sound
