use Rattle.wm_script.proofs.BuiltCommands.{IsAskable-commands_in}
use Rattle.wm_script.proofs.lines.read_lines.Goals as goal

-- the commands of a script are askable
pub returns-in-Ok-clause-askable : goal.returns-in-Ok-clause-askable
returns-in-Ok-clause-askable c = rw (c.in-Ok.ensures.commands) (IsAskable-commands_in c.args.bytes.now)
