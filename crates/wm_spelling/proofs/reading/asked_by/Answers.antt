-- The text of the value is read as that value.
use Rattle.wm_spelling.proofs.LineReading.{askable_read, line_read}
use Rattle.wm_spelling.proofs.reading.asked_by.Goals as goal

pub returns-clause-command : goal.returns-clause-command
returns-clause-command c =
    let text = c.in_ok-line.ensures in
    line_read _ _ _ _ c.as_slice.ensures.value text.utf8 (text.reads_back c.requires) c.command_of.ensures

pub returns-clause-askable : goal.returns-clause-askable
returns-clause-askable c = askable_read _ _ c.command_of.ensures
