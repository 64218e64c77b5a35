-- Bytes have one verdict.
use Rattle.std.proofs.Common.{◌≡◌, ◌⊎◌, ℕ, zero, suc, ◌+◌, ◌-◌, ◌<◌, List, [], ◌∷◌, ◌++◌, length, slice_get, take, Option, Some, None, MatchOption, refl, sym, ap, ◌∙◌, subst, append_assoc, inl, inr, arith}
use Rattle.std.proofs.lemmas.Bool.{cases_order}
use Rattle.std.proofs.lemmas.Option.{same_Some}
use Rattle.std.specs.Prelude.{IsSomeAnd}
use Rattle.wm_audit.proofs.LastLines.{end-not-right}
use Rattle.wm_audit.proofs.Lines.{end-cut, right-cut}
use Rattle.wm_audit.specs.Places.{after_rows, joined, record_in, AreRight, IsEnd, IsRight}
use Rattle.wm_audit.specs.Verdicts.{AllRight, DifferFirstAt, IsFirstWrong, IsVerdict, IsWrongIn}
use Rattle.wm_audit.specs.declared.place.Place.{Place}
use Rattle.wm_audit.specs.declared.place.Place.TheVariants.{First, Log, Rows}
use Rattle.wm_audit.specs.declared.verdict.Verdict.{Verdict}
use Rattle.wm_audit.specs.declared.verdict.Verdict.TheVariants.{Sound, WrongLine, WrongText}
use Rattle.wm_audit_text.specs.Audits.{next_line, with_lf}
use Rattle.wm_audit_text.specs.Entries.{entry_of}
use Rattle.wm_audit_text.specs.Lines.{header_of}
use Rattle.wm_audit_text.specs.declared.entry.Entry.TheVariants as entry
use Rattle.wm_audit_text.specs.declared.headers.Header.{Header}
use Rattle.wm_machine.specs.Outcome.{outcome}
use Rattle.wm_machine.specs.Replied.{Outcome}
use Rattle.wm_machine.specs.Step.{after, Legal}
use Rattle.wm_machine.specs.declared.command.Command.{Command}
use Rattle.wm_machine.specs.declared.event.Event.{Event}
use Rattle.wm_machine.specs.declared.event.Event.TheVariants as event
use Rattle.wm_machine.specs.declared.record.Record.{Record}
use Rattle.wm_machine.specs.declared.reply.Reply.{Reply}
use Rattle.wm_machine.specs.declared.state.State.{State}
use Rattle.wm_texts.specs.Texts.{event_text}

-- ---- the next place is one alone

some-once : {T U : Type 0} (o : Option T) (f : T → U) (one other : U) → IsSomeAnd o (λ x. one ≡ f x) → IsSomeAnd o (λ x. other ≡ f x) → one ≡ other
some-once None f one other is so = absurd is
some-once (Some x) f one other is so = is ∙ sym so

-- an event of a run that is told so is one alone
run-told : (e other : Event) → entry.Run e ≡ entry_of other → e ≡ other
run-told e (event.Command line asked answer) is = absurd (cc)
run-told e (event.Start run seq instance input) is = cc
run-told e (event.StartFailed seq cause) is = cc
run-told e (event.Turn run progress) is = cc
run-told e (event.Finish run end) is = cc
run-told e (event.TimedOut run) is = cc
run-told e (event.Late run) is = cc

one-answer : (s : State) (line : ℕ) (asked : Command) (answer reply : Reply) → Legal s (event.Command line asked answer)
    → Legal s (event.Command line asked reply) → answer ≡ reply
one-answer s line asked answer reply one two = some-once (outcome s asked) (λ (o : Outcome). o.reply) answer reply one.1 two.1

command-told : (s : State) (line : ℕ) (asked : Command) (answer : Reply) (other : Event) → entry.Command line asked ≡ entry_of other
    → Legal s (event.Command line asked answer) → Legal s other → event.Command line asked answer ≡ other
command-told s line asked answer (event.Command number command reply) is one two =
    let lines : number ≡ line = cc in
    let commands : command ≡ asked = cc in
    let same : event.Command number command reply ≡ event.Command line asked reply =
    ap (λ (n : ℕ). event.Command n command reply) lines ∙ ap (λ (c : Command). event.Command line c reply) commands in
    ap (λ (r : Reply). event.Command line asked r) (one-answer s line asked answer reply one (subst (λ (e : Event). Legal s e) same two)) ∙ sym same
command-told s line asked answer (event.Start run seq instance input) is one two = absurd (cc)
command-told s line asked answer (event.StartFailed seq cause) is one two = absurd (cc)
command-told s line asked answer (event.Turn run progress) is one two = absurd (cc)
command-told s line asked answer (event.Finish run end) is one two = absurd (cc)
command-told s line asked answer (event.TimedOut run) is one two = absurd (cc)
command-told s line asked answer (event.Late run) is one two = absurd (cc)

-- of the events that are told so one alone is legal
one-event : (s : State) (e other : Event) → entry_of e ≡ entry_of other → Legal s e → Legal s other → e ≡ other
one-event s (event.Command line asked answer) other is one two = command-told s line asked answer other is one two
one-event s (event.Start run seq instance input) other is one two = run-told (event.Start run seq instance input) other is
one-event s (event.StartFailed seq cause) other is one two = run-told (event.StartFailed seq cause) other is
one-event s (event.Turn run progress) other is one two = run-told (event.Turn run progress) other is
one-event s (event.Finish run end) other is one two = run-told (event.Finish run end) other is
one-event s (event.TimedOut run) other is one two = run-told (event.TimedOut run) other is
one-event s (event.Late run) other is one two = run-told (event.Late run) other is

right-once : (here : Place) (line : List ℕ) (one other : Place) → IsRight here line one → IsRight here line other → one ≡ other
right-once First line one other is so = some-once (header_of line) (λ (header : Header). after_rows header.hands header.rows []) one other is so
right-once (Rows hands left works) line one other is so =
    some-once (record_in works line) (λ (work : Record). after_rows hands (left - 1) (works ++ work ∷ [])) one other is so
right-once (Log s text) line one other is so =
    let e = is.0 in
    let d = so.0 in
    let told : entry_of e ≡ entry_of d = same_Some (entry_of e) (entry_of d) (sym is.1 ∙ so.1) in
    let then : Event → Place = λ x. Log (after s x) (text ++ event_text s x (after s x)) in
    is.3 ∙ ap then (one-event s e d told is.2 so.2) ∙ sym so.3

-- ---- where the lines stop

-- the rest is the last line with the text, or wrong
data Stop (here : Place) (rest : List ℕ) : Type 0 where
  Ended : (line given : List ℕ) → rest ≡ with_lf line ++ given → IsEnd here line given → Stop here rest
  Wrong : IsWrongIn here rest → Stop here rest

-- no line that is right stands there
stops : (here : Place) (rest line later : List ℕ) (next : Place) → Stop here rest → next_line rest ≡ Some (line, later) → IsRight here line next → ⊥
stops (Log s text) rest line later next (Ended end given whole ends) cut right =
    let here : next_line rest ≡ Some (end, given) = rw whole (end-cut end given (length given) ends) in
    let both = same_Some (end, given) (line, later) (sym here ∙ cut) in
    let same : end ≡ line = ap (λ (p : List ℕ × List ℕ). p.0) both in
    end-not-right (Log s text) end given next ends (subst (λ (l : List ℕ). IsRight (Log s text) l next) (sym same) right)
stops First rest line later next (Ended end given whole ends) cut right = ends
stops (Rows hands left works) rest line later next (Ended end given whole ends) cut right = ends
stops here rest line later next (Wrong wrong) cut right =
    (subst (λ (found : Option (List ℕ × List ℕ)). MatchOption found (Unit {0}) (λ cut. ((next : Place) → IsRight here cut.0 next → ⊥) × (IsEnd here cut.0 cut.1 → ⊥))) cut wrong).0
    next right

-- lines that are right and then stop are the same
record Same (one other : List (List ℕ)) (last final : Place) (rest behind : List ℕ) : Type 0 where
  many : length one ≡ length other
  place : last ≡ final
  left : rest ≡ behind

same-lines : (here : Place) (bytes : List ℕ) (one other : List (List ℕ)) (last final : Place) (rest behind : List ℕ) → AreRight here one last
    → AreRight here other final → bytes ≡ joined one ++ rest → bytes ≡ joined other ++ behind → Stop last rest → Stop final behind
    → Same one other last final rest behind
same-lines here bytes [] [] last final rest behind right so whole all stop halt =
    record { many = refl; place = right ∙ sym so; left = sym whole ∙ all }
same-lines here bytes [] (line ∷ other) last final rest behind right so whole all stop halt =
    let later = joined other ++ behind in
    let is : rest ≡ with_lf line ++ later = sym whole ∙ all ∙ append_assoc (with_lf line) (joined other) behind in
    let cut : next_line rest ≡ Some (line, later) = rw is (right-cut here line later so.0 so.1) in
    absurd (stops last rest line later so.0 stop cut (subst (λ (p : Place). IsRight p line so.0) (sym right) so.1))
same-lines here bytes (line ∷ one) [] last final rest behind right so whole all stop halt =
    let later = joined one ++ rest in
    let is : behind ≡ with_lf line ++ later = sym all ∙ whole ∙ append_assoc (with_lf line) (joined one) rest in
    let cut : next_line behind ≡ Some (line, later) = rw is (right-cut here line later right.0 right.1) in
    absurd (stops final behind line later right.0 halt cut (subst (λ (p : Place). IsRight p line right.0) (sym so) right.1))
same-lines here bytes (line ∷ one) (text ∷ other) last final rest behind right so whole all stop halt =
    let later = joined one ++ rest in
    let more = joined other ++ behind in
    let is : bytes ≡ with_lf line ++ later = whole ∙ append_assoc (with_lf line) (joined one) rest in
    let has : bytes ≡ with_lf text ++ more = all ∙ append_assoc (with_lf text) (joined other) behind in
    let cut : next_line bytes ≡ Some (line, later) = rw is (right-cut here line later right.0 right.1) in
    let part : next_line bytes ≡ Some (text, more) = rw has (right-cut here text more so.0 so.1) in
    let both = same_Some (line, later) (text, more) (sym cut ∙ part) in
    let lines : line ≡ text = ap (λ (p : List ℕ × List ℕ). p.0) both in
    let laters : later ≡ more = ap (λ (p : List ℕ × List ℕ). p.1) both in
    let next : right.0 ≡ so.0 = right-once here text right.0 so.0 (subst (λ (l : List ℕ). IsRight here l right.0) lines right.1) so.1 in
    let those =
    same-lines so.0 later one other last final rest behind (subst (λ (p : Place). AreRight p one last) next right.2) so.2 refl laters stop halt in
    record { many = ap (λ n. suc n) those.many; place = those.place; left = those.left }

-- ---- two texts

slice_get-take : (text : List ℕ) (at upto : ℕ) → at < upto → slice_get (take upto text) at ≡ slice_get text at
slice_get-take text at zero less = absurd (omega arith)
slice_get-take [] at (suc upto) less = refl
slice_get-take (byte ∷ text) zero (suc upto) less = refl
slice_get-take (byte ∷ text) (suc at) (suc upto) less = slice_get-take text at upto (omega arith)

-- where two texts are alike up to a byte they are so before it
alike-before : (text given : List ℕ) (at upto : ℕ) → at < upto → take upto text ≡ take upto given → slice_get text at ≡ slice_get given at
alike-before text given at upto less alike =
    sym (slice_get-take text at upto less) ∙ ap (λ (l : List ℕ). slice_get l at) alike ∙ slice_get-take given at upto less

one-difference : (text given : List ℕ) (at other : ℕ) → DifferFirstAt text given at → DifferFirstAt text given other → at ≡ other
one-difference text given at other one two = by_order (cases_order at other) where
  by_order : (at ≡ other) ⊎ ((at < other) ⊎ (other < at)) → at ≡ other
  by_order (inl same) = same
  by_order (inr (inl less)) = absurd (one.differ (alike-before text given at other less two.alike))
  by_order (inr (inr more)) = absurd (two.differ (alike-before text given other at more one.alike))

-- ---- the verdict

-- how the lines of these bytes stop
record Stopped (bytes : List ℕ) (number : ℕ) (last : Place) (rest : List ℕ) : Type 0 where
  lines : List (List ℕ)
  whole : bytes ≡ joined lines ++ rest
  number_is : number ≡ length lines + 1
  right : AreRight First lines last
  stop : Stop last rest

stopped-right : (bytes : List ℕ) (last : State) (text given : List ℕ) (all : AllRight bytes last text given)
    → Stopped bytes all.number (Log last text) (with_lf all.end ++ given)
stopped-right bytes last text given all =
    let reached = all.reached in
    record { lines = reached.lines; whole = reached.whole; number_is = reached.number_is; right = reached.right; stop = Ended all.end given refl all.ends }

stopped-wrong : (bytes : List ℕ) (number : ℕ) (wrong : IsFirstWrong bytes number) → Stopped bytes number wrong.here wrong.rest
stopped-wrong bytes number wrong =
    let reached = wrong.reached in
    record { lines = reached.lines; whole = reached.whole; number_is = reached.number_is; right = reached.right; stop = Wrong wrong.wrong }

same-stop : (bytes : List ℕ) (number count : ℕ) (last final : Place) (rest behind : List ℕ) (one : Stopped bytes number last rest)
    (other : Stopped bytes count final behind) → Same one.lines other.lines last final rest behind
same-stop bytes number count last final rest behind one other =
    same-lines First bytes one.lines other.lines last final rest behind one.right other.right one.whole other.whole one.stop other.stop

-- two that are right to the end have one state, one text, and one that was given
record SameEnd (last final : State) (text other given behind : List ℕ) : Type 0 where
  state : last ≡ final
  text_is : text ≡ other
  given_is : given ≡ behind

same-end : (bytes : List ℕ) (last final : State) (text other given behind : List ℕ) → AllRight bytes last text given → AllRight bytes final other behind
    → SameEnd last final text other given behind
same-end bytes last final text other given behind one two =
    let same =
    same-stop bytes one.number two.number (Log last text) (Log final other) (with_lf one.end ++ given) (with_lf two.end ++ behind)
    (stopped-right bytes last text given one) (stopped-right bytes final other behind two) in
    let place = same.place in
    let cut = end-cut one.end given (length given) one.ends in
    let part = end-cut two.end behind (length behind) two.ends in
    let both = same_Some (one.end, given) (two.end, behind) (sym cut ∙ ap next_line same.left ∙ part) in
    record { state = cc; text_is = cc; given_is = ap (λ (p : List ℕ × List ℕ). p.1) both }

-- bytes that are right to the end have no line that is wrong
not-wrong : (bytes : List ℕ) (last : State) (text given : List ℕ) (number : ℕ) → AllRight bytes last text given → IsFirstWrong bytes number → ⊥
not-wrong bytes last text given number all wrong =
    let rest = with_lf all.end ++ given in
    let same =
    same-stop bytes all.number number (Log last text) wrong.here rest wrong.rest (stopped-right bytes last text given all)
    (stopped-wrong bytes number wrong) in
    let here = subst (λ (p : Place). IsWrongIn p wrong.rest) (sym same.place) wrong.wrong in
    let is = subst (λ (l : List ℕ). IsWrongIn (Log last text) l) (sym same.left) here in
    let cut = end-cut all.end given (length given) all.ends in
    (subst (λ (found : Option (List ℕ × List ℕ)). MatchOption found (Unit {0}) (λ cut. ((next : Place) → IsRight (Log last text) cut.0 next → ⊥) × (IsEnd (Log last text) cut.0 cut.1 → ⊥))) cut is).1
    all.ends

not-differing : (bytes : List ℕ) (last final : State) (text other given : List ℕ) (at : ℕ) → AllRight bytes last text text
    → AllRight bytes final other given → DifferFirstAt other given at → ⊥
not-differing bytes last final text other given at one two differ =
    let same = same-end bytes last final text other text given one two in
    differ.differ (ap (λ (l : List ℕ). slice_get l at) (sym same.text_is ∙ same.given_is))

one-number : (bytes : List ℕ) (number count : ℕ) → IsFirstWrong bytes number → IsFirstWrong bytes count → number ≡ count
one-number bytes number count one two =
    let wrong = stopped-wrong bytes number one in
    let other = stopped-wrong bytes count two in
    let many = (same-stop bytes number count one.here two.here one.rest two.rest wrong other).many in
    wrong.number_is ∙ ap (λ n. n + 1) many ∙ sym other.number_is

one-place : (bytes : List ℕ) (last final : State) (text other given behind : List ℕ) (at index : ℕ) → AllRight bytes last text given
    → AllRight bytes final other behind → DifferFirstAt text given at → DifferFirstAt other behind index → at ≡ index
one-place bytes last final text other given behind at index one two differ differs =
    let same = same-end bytes last final text other given behind one two in
    one-difference other behind at index
    (subst (λ (l : List ℕ). DifferFirstAt other l at) same.given_is (subst (λ (l : List ℕ). DifferFirstAt l given at) same.text_is differ)) differs

pub one-verdict : (bytes : List ℕ) (one other : Verdict) → IsVerdict bytes one → IsVerdict bytes other → one ≡ other
one-verdict bytes (Sound last) (Sound final) is so =
    ap (λ (s : State). Sound s) (same-end bytes last final is.0 so.0 is.0 so.0 is.1 so.1).state
one-verdict bytes (Sound last) (WrongLine number) is so = absurd (not-wrong bytes last is.0 is.0 number is.1 so)
one-verdict bytes (Sound last) (WrongText at) is so = absurd (not-differing bytes last so.0 is.0 so.1 so.2 at is.1 so.3 so.4)
one-verdict bytes (WrongLine number) (Sound last) is so = absurd (not-wrong bytes last so.0 so.0 number so.1 is)
one-verdict bytes (WrongLine number) (WrongLine count) is so = ap (λ (n : ℕ). WrongLine n) (one-number bytes number count is so)
one-verdict bytes (WrongLine number) (WrongText at) is so = absurd (not-wrong bytes so.0 so.1 so.2 number so.3 is)
one-verdict bytes (WrongText at) (Sound last) is so = absurd (not-differing bytes last is.0 so.0 is.1 is.2 at so.1 is.3 is.4)
one-verdict bytes (WrongText at) (WrongLine number) is so = absurd (not-wrong bytes is.0 is.1 is.2 number is.3 so)
one-verdict bytes (WrongText at) (WrongText index) is so =
    ap (λ (n : ℕ). WrongText n) (one-place bytes is.0 so.0 is.1 so.1 is.2 so.2 at index is.3 so.3 is.4 so.4)
