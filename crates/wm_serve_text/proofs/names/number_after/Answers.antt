use Rattle.std.proofs.Common.{◌≡◌, ◌++◌, ◌∙◌}
use Rattle.std.specs.Prelude.{codes}
use Rattle.std.specs.Fmt.{decimal}
use Rattle.wm_serve_text.proofs.NamesLemmas.{has_front, number_read}
use Rattle.wm_serve_text.proofs.names.number_after.Goals as goal

-- the digits behind the number of the session are those of the run
pub returns-in-Some : goal.returns-in-Some
returns-in-Some c = λ run small named.
    let front : c.as_str.result.now ≡ decimal c.args.session ++ codes "-" = cc (c.as_str.ensures.value, c.in_ok-front.ensures.ok) in
    c.ok.ensures.value
    ∙ number_read c.args.session run c.as_str.result.now c.args.name.now small front named c.in-Some.digits.now c.parse.result c.in-Some.ensures.cases
    c.parse.ensures.value.0

-- and a name has it
pub returns : goal.returns
returns c = λ run small named.
    let front : c.as_str.result.now ≡ decimal c.args.session ++ codes "-" = cc (c.as_str.ensures.value, c.in_ok-front.ensures.ok) in
    absurd (has_front c.args.session run c.as_str.result.now c.args.name.now small front named c.in-None.ensures.cases)
