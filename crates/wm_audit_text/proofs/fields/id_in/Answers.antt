-- What `try_parse` answers is what the text parses to.
use Rattle.std.proofs.Common.{arith}
use Rattle.std.proofs.lemmas.Grind.{common_steps}
use Rattle.uuid.specs.Text.{parsed}
use Rattle.wm_script.proofs.LinesLemmas.{same_ok}
use Rattle.wm_script.specs.Values.{id_in}
use Rattle.wm_audit_text.proofs.fields.id_in.Goals as goal

pub returns : goal.returns
unfolding id_in
returns c =
    let ensured = c.try_parse.ensures in
    let same = same_ok (parsed c.in_ok-as_str.field-0.now) c.try_parse.result ensured.ok ensured.bytes in
    grind (arith, common_steps, same)
