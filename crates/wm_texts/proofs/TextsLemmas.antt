-- No reply has a float, so its compact text is what `to_vec` gives.
use Rattle.std.proofs.Common.{◌≡◌, ℕ, List, Option, Some, None, false, refl}
use Rattle.serde_json.specs.Data as json
use Rattle.serde_json.specs.Written.{has_float, members_have_float}
use Rattle.wm_data.proofs.NoFloats.{entries_have_no_float, list_has_no_float}
use Rattle.wm_texts.specs.Texts.{count, info_json, info_members, note_json, reply_json, with_due, with_name}
use Rattle.wm_machine.specs.declared.command.LineFault.{LineFault}
use Rattle.wm_machine.specs.declared.command.LineFault.TheVariants as fault
use Rattle.wm_machine.specs.declared.reply.Refusal.{Refusal}
use Rattle.wm_machine.specs.declared.reply.Reply.{Reply}
use Rattle.wm_machine.specs.declared.reply.Refusal.TheVariants as refusal
use Rattle.wm_machine.specs.declared.reply.Reply.TheVariants as reply
use Rattle.wm_machine.specs.declared.reply.WorkInfo.{WorkInfo}
use Rattle.wm_observe.specs.declared.note.Note.{Note}
use Rattle.wm_observe.specs.declared.note.Note.TheVariants as note

-- ---- what is told of a work

members_have_no_float : (info : WorkInfo) → members_have_float (info_members info) ≡ false
members_have_no_float info = rw (entries_have_no_float info.output, entries_have_no_float info.progress, list_has_no_float json.string info.tags (λ text. refl))

named_has_no_float : (name : Option (List ℕ)) (due : Option ℕ) (info : WorkInfo)
    → has_float (json.object (with_name name (with_due due (info_members info)))) ≡ false
named_has_no_float None None info = members_have_no_float info
named_has_no_float None (Some due) info = members_have_no_float info
named_has_no_float (Some name) None info = members_have_no_float info
named_has_no_float (Some name) (Some due) info = members_have_no_float info

info_has_no_float : (info : WorkInfo) → has_float (info_json info) ≡ false
info_has_no_float info = named_has_no_float info.name info.due info

-- ---- replies

fault_has_no_float : (line : ℕ) (found : LineFault) → has_float (reply_json line (reply.Refused (refusal.Line found))) ≡ false
fault_has_no_float line (fault.BadData key) = refl
fault_has_no_float line _ = refl

refusal_has_no_float : (line : ℕ) (found : Refusal) → has_float (reply_json line (reply.Refused found)) ≡ false
refusal_has_no_float line (refusal.Line found) = fault_has_no_float line found
refusal_has_no_float line _ = refl

pub reply_has_no_float : (line : ℕ) (answer : Reply) → has_float (reply_json line answer) ≡ false
reply_has_no_float line (reply.Enqueued works) = rw (list_has_no_float count works (λ n. refl))
reply_has_no_float line (reply.Query works) = rw (list_has_no_float info_json works info_has_no_float)
reply_has_no_float line (reply.Observing observer works) = rw (list_has_no_float info_json works info_has_no_float)
reply_has_no_float line (reply.Refused found) = refusal_has_no_float line found
reply_has_no_float line _ = refl

-- ---- notes

pub note_has_no_float : (told : Note) → has_float (note_json told) ≡ false
note_has_no_float (note.Info observer info) = rw (info_has_no_float info)
note_has_no_float (note.Gone observer seq) = refl
