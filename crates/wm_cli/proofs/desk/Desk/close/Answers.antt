use Rattle.std.proofs.Common.{◌∙◌, sym}
use Rattle.std.proofs.lemmas.List.{nil_from_length}
use Rattle.wm_cli.proofs.desk.Desk.close.Goals as goal

-- the shares of all threads have no run, so the roll lists none
pub returns : goal.returns
returns g c = nil_from_length c.args.self.book.table.roll (sym c.args.self.counted ∙ sym (c.audit.ensures.whole c.requires.whole) ∙ c.requires.idle)
