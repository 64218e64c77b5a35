use Rattle.std.proofs.Common.{◌≡◌, ◌++◌, drop}
use Rattle.wm_texts.specs.Texts.{notes_text}
use Rattle.wm_texts.proofs.texts.add_notes.Given as goal

-- the text so far, and those of the notes that are left
abbrev pub invariant-loop-note : goal.invariant-loop-note
invariant-loop-note l = l.text.items ++ notes_text (drop l.note-index l.notes) ≡ l.fn.text.items ++ notes_text l.notes
