use Rattle.std.proofs.Common.{◌≡◌, Some, rules}
use Rattle.wm_script.specs.Lines.{command_of}
use Rattle.wm_serve_text.proofs.LegalLines.{own_legal, served_legal}
use Rattle.wm_serve_text.specs.Lines.{own_line, served}
use Rattle.wm_serve_text.proofs.reading.line_of.Goals as goal

pub returns-in-Some-clause-legal : goal.returns-in-Some-clause-legal
returns-in-Some-clause-legal c =
    let is : own_line c.args.line.now ≡ Some c.in-Some.said = cc (c.in_ok-said.ensures, c.in-Some.is) in
    own_legal c.args.line.now c.in-Some.said is

pub returns-in_ok-command_of-in-None-clause-legal : goal.returns-in_ok-command_of-in-None-clause-legal
returns-in_ok-command_of-in-None-clause-legal c =
    let is : c.served.result ≡ served (command_of c.args.line.now) = cc (c.served.ensures, c.in_ok-command_of-in-None.ensures) in
    served_legal c.args.line.now c.served.result is
