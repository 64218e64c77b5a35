use Rattle.std.proofs.Common.{rules}
use Rattle.wm_columns.proofs.ColumnTexts.{tags_again}
use Rattle.wm_columns.proofs.columns.tags_text.Goals as goal

pub returns : goal.returns
returns c = search (rules, tags_again)
