use Rattle.std.proofs.Common.{rules, FitsSigned, w64}
use Rattle.wm_columns.proofs.ColumnBytes.{prior_more}
use Rattle.wm_columns.proofs.columns.push_number.Goals as goal

pub returns : goal.returns
returns c =
    let fits : FitsSigned w64 c.args.number.now = search rules in
    search (rules, prior_more)
