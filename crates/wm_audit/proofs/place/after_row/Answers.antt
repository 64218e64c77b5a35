use Rattle.std.proofs.Common.{sym, ◌∙◌, subst}
use Rattle.wm_audit.proofs.Openings.{of_rows-push}
use Rattle.wm_audit.specs.Happened.{AreOfRows}
use Rattle.wm_audit.proofs.place.after_row.Goals as goal

pub after_rows-requires : goal.after_rows-requires
after_rows-requires c =
    subst AreOfRows (sym c.in_ok-before-in-Some.ensures)
    (of_rows-push c.args.before c.args.line.now c.in-Some.work c.requires.sound (sym c.in_ok-work.ensures.record ∙ c.in-Some.is))
