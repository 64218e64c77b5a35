use Rattle.std.proofs.Common.{inl, inr, refl, sym, ◌∙◌, ap, subst}
use Rattle.wm_session.proofs.Words.{IsFronted, drains_first, false≢true}
use Rattle.wm_session.proofs.BookEvents.{drains-settles}
use Rattle.wm_session.proofs.BoxLemmas.{KeepBoxes-silent, no_longer}
use Rattle.wm_session.proofs.SerialLemmas.{GoesInOrder-line, GoesInOrder-ready, IsBetweenRuns-front, IsBetweenRuns-line, IsReady-front, IsReady-quiet, KeepBoxes-front, idle_at-line}
use Rattle.wm_session.proofs.serial.execute_lines.Goals.{else-drains_first, then-drains_first}
use Rattle.wm_session.specs.declared.book.Front.TheVariants as front
use Rattle.wm_session.proofs.serial.execute_lines.Goals as goal

pub lines-init : goal.lines-init
lines-init g c =
    elim c.if-drains_first.branch [
      | then-drains_first w ↦
          let new = w.drain.new.book in
          let drained = w.drain.ensures in
          rw w.book-is (record {
            rest = drained.rest;
            quiet = λ going drains. drained.quiet going;
            order = λ lines ready.
                IsReady-quiet lines new drained.quiet
                (drained.order lines (GoesInOrder-ready lines c.args.book.now (sym c.drains_first.ensures.drains ∙ w.if-drains_first.true) ready));
            boxes = drained.boxes;
          })
      | else-drains_first w ↦ rw w.book-is (record {
        rest = c.drains_first.ensures.rest c.requires.none_out;
        quiet = λ going drains. absurd (false≢true (sym w.if-drains_first.false ∙ c.drains_first.ensures.drains ∙ drains));
        order = λ lines ready. ready;
        boxes = λ given keep. keep;
      })
    ]

pub drain-requires-in-Moved : goal.drain-requires-in-Moved
drain-requires-in-Moved g c = let moved = c.in-Moved.ensures in IsBetweenRuns-line c.lines.invariant.rest moved.line

pub lines-preserved : goal.lines-preserved
lines-preserved g c =
    let kept = c.lines.invariant in
    let moved = c.in-Moved.ensures in
    let drained = c.drain-in-Moved.ensures in
    let new = c.drain-in-Moved.new.book in
    record {
      rest = drained.rest;
      quiet = λ going drains. drained.quiet going;
      order = λ lines ready.
          IsReady-quiet lines new drained.quiet
          (drained.order lines (GoesInOrder-line kept.rest lines moved.line (kept.order lines ready)));
      boxes = λ given keep. drained.boxes given
          (KeepBoxes-silent g.B.Worker.diary_of given c.lines.book c.front_step.new.self kept.rest.replay moved.line.step
          (λ going. moved.goes_on.before) (λ going number. refl) (idle_at-line kept.rest moved.line) (kept.boxes given keep));
    }

pub returns-in-Ended : goal.returns-in-Ended
returns-in-Ended g c =
    let kept = c.lines.invariant in
    let store = g.K.Keeper.store in
    let kind_of = g.B.Worker.kind_of in
    let old = c.lines.book in
    let new = c.front_step.new.self in
    elim c.in-Ended.is [
      | inl ended ↦
          let is : IsFronted store kind_of front.Ended old new = subst (λ r. IsFronted store kind_of r old new) ended c.front_step.ensures in
          rw is.book_is (record {
            askable = c.drains_first.ensures.askable;
            rest = kept.rest;
            done = λ going. is.why;
            quiet = λ going. kept.quiet is.going (ap drains_first is.why);
            order = kept.order;
            boxes = kept.boxes;
          })
      | inr stopped ↦
          let is : IsFronted store kind_of front.Stopped old new = subst (λ r. IsFronted store kind_of r old new) stopped c.front_step.ensures in record {
            askable = c.drains_first.ensures.askable;
            rest = IsBetweenRuns-front kept.rest is;
            done = no_longer new.status is.status;
            quiet = no_longer new.status is.status;
            order = λ lines ready. IsReady-front kept.rest lines is (kept.order lines ready);
            boxes = λ given keep. KeepBoxes-front kept.rest g.B.Worker.diary_of given is (kept.boxes given keep);
          }
    ]

-- nothing is left to do before a line that settles
pub unreachable-requires : goal.unreachable-requires
unreachable-requires g c =
    let is = c.in-NotSettled.ensures in
    absurd (is.why.1 (λ settles. c.lines.invariant.quiet is.going (drains-settles c.lines.book.left settles)))
