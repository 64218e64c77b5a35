use Rattle.wm_spelling.proofs.Canonical.{AreCanonical-script, IsCanonical-line}
use Rattle.wm_spelling.proofs.laws.what_is_read_is_canonical.Goals as goal

pub returns-clause-line : goal.returns-clause-line
returns-clause-line c = IsCanonical-line

pub returns-clause-script : goal.returns-clause-script
returns-clause-script c = AreCanonical-script
