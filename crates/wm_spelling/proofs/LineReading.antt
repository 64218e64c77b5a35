-- The command of a line whose text is read as a value is the one that the value asks for.
use Rattle.std.proofs.Common.{◌≡◌, ℕ, List, Some, IfOk, IsUtf8, Result, Ok, Err, refl, sym, ap, ◌∙◌, subst}
use Rattle.std.proofs.lemmas.Str.{is_utf8-from_IsUtf8}
use Rattle.serde_json.specs.Data as json
use Rattle.serde_json.specs.Read.{read}
use Rattle.std.specs.declared.alloc.AllocError.{AllocError}
use Rattle.wm_machine.specs.Outcome.{IsAskable}
use Rattle.wm_machine.specs.declared.command.Command.{Command}
use Rattle.wm_script.proofs.BuiltCommands.{IsAskable-command_of}
use Rattle.wm_script.specs.Lines.{asked_by, command_of, or_faulty}

command_of_read : (line : List ℕ) (d : json.Data) → IsUtf8 line → read line ≡ Some d → command_of line ≡ or_faulty (asked_by d)
unfolding command_of
command_of_read line d utf8 is = rw (is_utf8-from_IsUtf8 line utf8, is) refl

-- the same of what a call answers
pub line_read : (r : Result Command AllocError) (bytes line : List ℕ) (d : json.Data) → bytes ≡ line → IsUtf8 line → read line ≡ Some d
    → IfOk r (λ asked. asked ≡ command_of bytes) → IfOk r (λ asked. asked ≡ or_faulty (asked_by d))
line_read (Ok asked) bytes line d same utf8 is e = e ∙ ap command_of same ∙ command_of_read line d utf8 is
line_read (Err refused) bytes line d same utf8 is e = tt

-- it may be asked
pub askable_read : (r : Result Command AllocError) (bytes : List ℕ) → IfOk r (λ asked. asked ≡ command_of bytes) → IfOk r IsAskable
askable_read (Ok asked) bytes e = subst IsAskable (sym e) (IsAskable-command_of bytes)
askable_read (Err refused) bytes e = tt
