-- Which runs the parts on a roll are of, before an event and after it.
use Rattle.std.proofs.Common.{◌≡◌, ◌≢◌, ℕ, ◌+◌, not, eqb, List, length, [], ◌∷◌, Option, Some, None, refl, sym, ◌∙◌, ap, subst, arith, inl, inr, eq-eqb, ne_eqb}
use Rattle.std.proofs.lemmas.Bool.{true≢false}
use Rattle.std.specs.Prelude.{IsSomeAnd}
use Rattle.std.specs.List.{AllByRecursion}
use Rattle.wm_collections.proofs.Lists.{find-stored, one_gives, All-any, All-of_one, All-passing, All-weaker, All-with2, HasOne-filter, HasOne-front, HasOne-map, HasOne-weaker}
use Rattle.wm_collections.specs.Lists.{AllLater, HasOne}
use Rattle.wm_data.specs.declared.data.DataEntry.{DataEntry}
use Rattle.wm_machine.proofs.Runnings.{found_or_apart, IsFoundOrApart}
use Rattle.wm_machine.proofs.Steps.{framed}
use Rattle.wm_machine.proofs.Turns.{turned_at, turned_both}
use Rattle.wm_machine.specs.Frame.{frame_of, Frame, IsFramed, IsSameRun, IsTurnedIn}
use Rattle.wm_machine.specs.Role as role
use Rattle.wm_machine.specs.Role.{Role}
use Rattle.wm_machine.specs.Runs.{other_runs, run_numbered}
use Rattle.wm_machine.specs.Step.{after, role_of, Legal}
use Rattle.wm_machine.specs.Turns.{turned, with_turned}
use Rattle.wm_machine.specs.Valid.{AreApart, Valid}
use Rattle.wm_machine.specs.declared.event.Event.{Event}
use Rattle.wm_machine.specs.declared.event.Event.TheVariants as event
use Rattle.wm_machine.specs.declared.state.Run.{Run}
use Rattle.wm_machine.specs.declared.state.State.{State}
use Rattle.wm_roll.specs.Parts.{is_of, without, IsListed}
use Rattle.wm_roll.specs.declared.part.Part.{Part}
use Rattle.wm_runs.proofs.RunLookups.{found-numbered, run_numbered-turned}
use Rattle.wm_engine.specs.Parts.{part_of, ticket_part, AreOut, IsItOrApart, IsOffRoll, NoneOf, Stands, WasOut}
use Rattle.wm_engine.specs.Calls.{IsTicketIn}
use Rattle.wm_engine.specs.TableState.{ticket_of, TicketState}
use Rattle.wm_worker.specs.declared.answer.Given.TheVariants.{More}

-- ---- the run of a part

-- the run of a listed part is found, on its instance and of its kind
found_out : (ticket : TicketState) (runs : List Run) → AllLater AreApart runs → HasOne (λ run. part_of run ≡ ticket_part ticket) runs
    → IsSomeAnd (run_numbered ticket.task.run runs) (λ run. (run.instance ≡ ticket.instance) × (run.kind ≡ ticket.kind))
found_out ticket [] apart one = absurd one
found_out ticket (run ∷ runs) apart (inl is) =
    let hit = eq-eqb run.run ticket.task.run (ap (λ (p : Part). p.run) is) in
    rw hit (ap (λ (p : Part). p.instance) is, ap (λ (p : Part). p.kind) is)
found_out ticket (run ∷ runs) apart (inr one) =
    let other : run.run ≢ ticket.task.run =
    one_gives runs (λ later apart_of is. λ e. apart_of.runs (e ∙ sym (ap (λ (p : Part). p.run) is))) apart.0 one in
    rw (ne_eqb run.run ticket.task.run other) (found_out ticket runs apart.1 one)

stands-listed : (s : State) (parts : List Part) (ticket : TicketState) → Valid s → AreOut s.runs parts → IsListed parts (ticket_part ticket) → Stands s ticket
stands-listed s parts ticket valid out listed =
    found_out ticket s.runs valid.runs.apart (All-of_one (λ part. HasOne (λ run. part_of run ≡ part) s.runs) parts (ticket_part ticket) out listed)

-- a part of that run is that one, and each other part is on another instance
part-apart : (ticket : TicketState) (run : Run) (part : Part) → run.run ≡ ticket.task.run → run.instance ≡ ticket.instance → run.kind ≡ ticket.kind
    → (runs : List Run) → AllByRecursion (IsFoundOrApart ticket.task.run run) runs → HasOne (λ one. part_of one ≡ part) runs
    → IsItOrApart (ticket_part ticket) part
part-apart ticket run part number instance its_kind runs apart one =
    one_gives runs (λ other found of. elim found [
      | inl same ↦ inl (sym of ∙ ap part_of same.1 ∙ (λ i. record { run = number i; instance = instance i; kind = its_kind i }))
      | inr differ ↦
          inr (
            (λ e. differ.1.runs (number ∙ sym e ∙ sym (ap (λ (p : Part). p.run) of))),
            (λ e. differ.1.instances (instance ∙ sym e ∙ sym (ap (λ (p : Part). p.instance) of))),
          )
    ]) apart one

alone_by : (ticket : TicketState) (runs : List Run) (parts : List Part) (found : Option Run) → AllLater AreApart runs → AreOut runs parts
    → run_numbered ticket.task.run runs ≡ found
    → IsSomeAnd found (λ run. (run.instance ≡ ticket.instance) × (run.kind ≡ ticket.kind)) → AllByRecursion (IsItOrApart (ticket_part ticket)) parts
alone_by ticket runs parts None apart out is stands = absurd stands
alone_by ticket runs parts (Some run) apart out is stands =
    All-weaker parts (λ part one.
    part-apart ticket run part (found-numbered ticket.task.run runs run is) stands.0 stands.1 runs (found_or_apart ticket.task.run run runs is apart) one) out

pub was-out : (s : State) (parts : List Part) (ticket : TicketState) → Valid s → AreOut s.runs parts → IsListed parts (ticket_part ticket)
    → length (without ticket.task.run parts) + 1 ≡ length parts → WasOut s parts ticket
was-out s parts ticket valid out listed shorter =
    let stands = stands-listed s parts ticket valid out listed in
    record {
      listed = listed;
      once = shorter;
      alone = alone_by ticket s.runs parts (run_numbered ticket.task.run s.runs) valid.runs.apart out refl stands;
      stands = stands;
    }

-- and the part of a run that is found is that of one
out_found : (ticket : TicketState) (runs : List Run) (found : Option Run) → run_numbered ticket.task.run runs ≡ found
    → IsSomeAnd found (λ run. (run.instance ≡ ticket.instance) × (run.kind ≡ ticket.kind)) → HasOne (λ run. part_of run ≡ ticket_part ticket) runs
out_found ticket runs None is stands = absurd stands
out_found ticket runs (Some run) is stands =
    let number = found-numbered ticket.task.run runs run is in
    let part : part_of run ≡ ticket_part ticket = λ i. record { run = number i; instance = stands.0 i; kind = stands.1 i } in
    HasOne-weaker runs (λ one same. ap part_of same ∙ part) (find-stored (λ r. eqb r.run ticket.task.run) runs run is)

pub out-standing : (s : State) (ticket : TicketState) → Stands s ticket → HasOne (λ run. part_of run ≡ ticket_part ticket) s.runs
out-standing s ticket stands = out_found ticket s.runs (run_numbered ticket.task.run s.runs) refl stands

-- the run of a ticket that holds what it keeps stands in the state
standing_of : (ticket : TicketState) (found : Option Run) → IsSomeAnd found (λ run. ticket ≡ ticket_of run)
    → IsSomeAnd found (λ run. (run.instance ≡ ticket.instance) × (run.kind ≡ ticket.kind))
standing_of ticket None is = absurd is
standing_of ticket (Some run) is = (ap (λ (t : TicketState). t.instance) (sym is), ap (λ (t : TicketState). t.kind) (sym is))

pub stands_in : (s : State) (ticket : TicketState) → IsTicketIn s ticket → Stands s ticket
stands_in s ticket is = standing_of ticket (run_numbered ticket.task.run s.runs) is

-- ---- an event

-- the parts are those of the others, where none is of the run that is away
out-without : (number : ℕ) (gone : Run) (runs : List Run) (parts : List Part) → run_numbered number runs ≡ Some gone → NoneOf number parts
    → AreOut runs parts → AreOut (other_runs gone.run runs) parts
out-without number gone runs parts found off out =
    let its = found-numbered number runs gone found in
    All-with2 parts (λ part other one.
    HasOne-filter {A = λ run. Unit {0}} {P = λ run. part_of run ≡ part} (λ run. not (eqb run.run gone.run)) runs
    (λ run any of. ap not (ne_eqb run.run gone.run (λ e. other (sym (ap (λ (p : Part). p.run) of) ∙ e ∙ its)))) (All-any runs (λ run. tt)) one) off out

-- the same run has the same part
pub part-same : (one other : Run) → IsSameRun one other → part_of other ≡ part_of one
part-same one other is = λ i. record { run = is.run i; instance = is.instance i; kind = is.kind i }

pub out-framed : (r : Role) (s : State) (f : Frame) (parts : List Part) → IsFramed r s f → IsOffRoll r parts → AreOut s.runs parts → AreOut f.runs parts
out-framed (role.Line asked) s f parts is off out =
    rw (ap (λ (f : Frame). f.runs) is.frame_is)
    (All-weaker parts (λ part one.
    HasOne-map (λ run. part_of run ≡ part) is.change s.runs (λ run of. part-same run (is.change run) (is.keeps run) ∙ of) one) out)
out-framed (role.Begins number instance) s f parts is off out =
    rw (ap (λ (f : Frame). f.runs) is.frame_is)
    (All-weaker parts (λ part one. HasOne-front (λ run. part_of run ≡ part) s.runs (is.run ∷ []) one) out)
out-framed role.Refuses s f parts is off out = subst (λ (runs : List Run). AreOut runs parts) (sym (ap (λ (f : Frame). f.runs) is)) out
out-framed (role.GoesOn number gave) s f parts is off out =
    rw (ap (λ (f : Frame). f.runs) is.frame_is)
    (All-weaker parts (λ part one.
    HasOne-map (λ run. part_of run ≡ part) (turned_at is.run.run) s.runs
    (λ run of. turned_both (λ (r : Run). part_of r ≡ part) is.run.run run (λ e. of) (λ e. of)) one) out)
out-framed (role.Ends number reported) s f parts is off out =
    rw (ap (λ (f : Frame). f.runs) is.frame_is) (out-without number is.run s.runs parts is.is_running off out)
out-framed (role.Returns number) s f parts is off out =
    rw (ap (λ (f : Frame). f.runs) is.frame_is) (out-without number is.run s.runs parts is.is_running off out)

-- each part is still that of a run after an event, where the part of a run that it ends is off the roll
pub out-after : (s : State) (e : Event) (parts : List Part) → Legal s e → IsOffRoll (role_of e) parts → AreOut s.runs parts → AreOut (after s e).runs parts
out-after s e parts legal off out = out-framed (role_of e) s (frame_of s e) parts (framed s e legal) off out

-- a run that begins is new on the roll
pub new-on : (s : State) (parts : List Part) (number : ℕ) → Valid s → AreOut s.runs parts → number ≡ s.next_run → NoneOf number parts
new-on s parts number valid out is =
    All-weaker parts (λ part one. λ e.
    one_gives s.runs (λ run below of. let same = ap (λ (p : Part). p.run) of in let less = below.number in absurd (omega (arith, same, less, is, e)))
    valid.runs.each one) out

-- the ticket of the next turn has the part of the one before
pub part-turned : (s : State) (held next : TicketState) (progress : Option (List DataEntry)) → Legal s (event.Turn held.task.run progress) → Stands s held
    → next.task.run ≡ held.task.run → IsTicketIn (after s (event.Turn held.task.run progress)) next → ticket_part next ≡ ticket_part held
part-turned s held next progress legal stands same is_in =
    let e = event.Turn held.task.run progress in
    let number = held.task.run in
    let is : IsTurnedIn number (More progress) s (frame_of s e) = framed s e legal in
    let its = found-numbered number s.runs is.run is.is_running in
    let runs : (after s e).runs ≡ with_turned number s.runs = ap (λ (f : Frame). f.runs) is.frame_is ∙ ap (λ n. with_turned n s.runs) its in
    let found : run_numbered number (after s e).runs ≡ Some (turned is.run) =
    ap (run_numbered number) runs ∙ run_numbered-turned number s.runs is.run is.is_running in
    let at_its : IsSomeAnd (run_numbered number (after s e).runs) (λ run. next ≡ ticket_of run) =
    subst (λ (n : ℕ). IsSomeAnd (run_numbered n (after s e).runs) (λ run. next ≡ ticket_of run)) same is_in in
    let there : next ≡ ticket_of (turned is.run) = subst (λ (o : Option Run). IsSomeAnd o (λ run. next ≡ ticket_of run)) found at_its in
    let stood : (is.run.instance ≡ held.instance) × (is.run.kind ≡ held.kind) =
    subst (λ (o : Option Run). IsSomeAnd o (λ run. (run.instance ≡ held.instance) × (run.kind ≡ held.kind))) is.is_running stands in
    λ i. record {
      run = same i;
      instance = (ap (λ (t : TicketState). t.instance) there ∙ stood.0) i;
      kind = (ap (λ (t : TicketState). t.kind) there ∙ stood.1) i;
    }

-- ---- the roll

-- none of these is of a run whose part is taken off
pub none-without : (number : ℕ) (parts : List Part) → NoneOf number (without number parts)
none-without number parts =
    All-weaker (without number parts) (λ part other. λ e. true≢false (sym other ∙ ap not (eq-eqb part.run number e)))
    (All-passing (λ part. not (is_of number part)) parts)
