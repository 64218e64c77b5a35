-- No line is that of an event and the last one: its first key tells.
use Rattle.std.proofs.Common.{◌≡◌, ◌⊎◌, ℕ, List, [], ◌∷◌, length, slice_get, Option, Some, None, refl, sym, ap, ◌∙◌, subst, inl, inr, arith}
use Rattle.std.proofs.lemmas.Option.{same_Some}
use Rattle.json.specs.Print.{escape_byte}
use Rattle.serde_json.specs.Data as json
use Rattle.serde_json.specs.Written.{compact_text}
use Rattle.wm_audit.proofs.Lines.{end-line, entry-line}
use Rattle.wm_audit.specs.Places.{IsEnd, IsRight}
use Rattle.wm_audit.specs.declared.place.Place.{Place}
use Rattle.wm_audit.specs.declared.place.Place.TheVariants.{First, Log, Rows}
use Rattle.wm_audit_text.specs.Entries.{entry_json, entry_of}
use Rattle.wm_audit_text.specs.Headers.{end_json}
use Rattle.wm_audit_text.specs.Lines.{end_line, end_of, entry_at, entry_line}
use Rattle.wm_machine.specs.declared.event.Cause.TheVariants.{NoWorker, Conflict, TooLarge}
use Rattle.wm_machine.specs.declared.event.End.TheVariants.{Success, Failure, Retry}
use Rattle.wm_machine.specs.declared.event.Event.{Event}
use Rattle.wm_machine.specs.declared.event.Event.TheVariants as event

-- the first byte of the first key
first_letter : json.Data → Option ℕ
first_letter (json.object (json.member (byte ∷ key) d more)) = Some byte
first_letter _ = None

-- it is the third byte of the text, where it needs no escape
third : (d : json.Data) (byte : ℕ) → first_letter d ≡ Some byte → escape_byte byte ≡ byte ∷ [] → slice_get (compact_text d) 2 ≡ Some byte
unfolding first_letter
third (json.object (json.member (letter ∷ key) d more)) byte is plain =
    let same : letter ≡ byte = same_Some letter byte is in
    let alone : escape_byte letter ≡ letter ∷ [] = subst (λ n. escape_byte n ≡ n ∷ []) (sym same) plain in
    rw alone (ap Some same)
third (json.object (json.member [] d more)) byte is plain = absurd (cc)
third (json.object json.no_members) byte is plain = absurd (cc)
third json.null byte is plain = absurd (cc)
third (json.boolean b) byte is plain = absurd (cc)
third (json.number n) byte is plain = absurd (cc)
third (json.string text) byte is plain = absurd (cc)
third (json.array ds) byte is plain = absurd (cc)

plain-c : escape_byte 99 ≡ 99 ∷ []
unfolding escape_byte
plain-c = refl

plain-e : escape_byte 101 ≡ 101 ∷ []
unfolding escape_byte
plain-e = refl

plain-t : escape_byte 116 ≡ 116 ∷ []
unfolding escape_byte
plain-t = refl

-- that of an event is c or e
event-letter : (e : Event) → (first_letter (entry_json (entry_of e)) ≡ Some 99) ⊎ (first_letter (entry_json (entry_of e)) ≡ Some 101)
unfolding first_letter
event-letter (event.Command line asked answer) = inl refl
event-letter (event.Start run seq instance input) = inr refl
event-letter (event.StartFailed seq NoWorker) = inl refl
event-letter (event.StartFailed seq (Conflict key)) = inl refl
event-letter (event.StartFailed seq (TooLarge size)) = inl refl
event-letter (event.Turn run None) = inr refl
event-letter (event.Turn run (Some progress)) = inr refl
event-letter (event.Finish run (Success output)) = inr refl
event-letter (event.Finish run (Failure output)) = inr refl
event-letter (event.Finish run Retry) = inr refl
event-letter (event.TimedOut run) = inr refl
event-letter (event.Late run) = inr refl

end-third : (size : ℕ) → slice_get (end_line size) 2 ≡ Some 116
unfolding first_letter
end-third size = third (end_json size) 116 refl plain-t

event-third : (e : Event) → slice_get (entry_line (entry_of e)) 2 ≡ Some 116 → ⊥
event-third e is = by_letter (event-letter e) where
  by_letter : (first_letter (entry_json (entry_of e)) ≡ Some 99) ⊎ (first_letter (entry_json (entry_of e)) ≡ Some 101) → ⊥
  by_letter (inl letter) =
      let same = same_Some 99 116 (sym (third (entry_json (entry_of e)) 99 letter plain-c) ∙ is) in absurd (omega (arith, same))
  by_letter (inr letter) =
      let same = same_Some 101 116 (sym (third (entry_json (entry_of e)) 101 letter plain-e) ∙ is) in absurd (omega (arith, same))

event-or-end : (line : List ℕ) (e : Event) (size : ℕ) → entry_at line ≡ Some (entry_of e) → end_of line ≡ Some size → ⊥
event-or-end line e size told ends =
    let same : entry_line (entry_of e) ≡ end_line size = sym (entry-line line (entry_of e) told) ∙ end-line line size ends in
    event-third e (ap (λ (l : List ℕ). slice_get l 2) same ∙ end-third size)

pub end-not-right : (here : Place) (line given : List ℕ) (next : Place) → IsEnd here line given → IsRight here line next → ⊥
end-not-right First line given next ends right = ends
end-not-right (Rows hands left works) line given next ends right = ends
end-not-right (Log s text) line given next ends right = event-or-end line right.0 (length given) right.1 ends
