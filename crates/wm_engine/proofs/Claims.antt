-- What is answered of a claim, and that its run is new on the roll.
use Rattle.std.proofs.Common.{◌≡◌, ℕ, List, Option, Some, None, refl, sym, ◌∙◌, ap, subst}
use Rattle.std.specs.Prelude.{IsSomeAnd}
use Rattle.wm_data.specs.declared.data.DataEntry.{DataEntry}
use Rattle.wm_keeper.specs.Store.{Store}
use Rattle.wm_machine.specs.Runs.{run_numbered}
use Rattle.wm_machine.specs.Step.{after, Legal}
use Rattle.wm_machine.specs.Valid.{Valid}
use Rattle.wm_machine.specs.declared.event.Event.{Event}
use Rattle.wm_machine.specs.declared.event.Event.TheVariants as event
use Rattle.wm_machine.specs.declared.state.Run.{Run}
use Rattle.wm_machine.specs.declared.state.State.{State}
use Rattle.wm_roll.specs.declared.part.Part.{Part}
use Rattle.wm_runs.specs.Builds.{IsClaiming, IsClaimOf}
use Rattle.wm_runs.specs.declared.starting.Claimed.{Claimed}
use Rattle.wm_runs.specs.declared.starting.Claimed.TheVariants as claimed
use Rattle.wm_runs.specs.declared.starting.Claiming.{Claiming}
use Rattle.wm_engine.proofs.Parts.{new-on}
use Rattle.wm_engine.specs.Parts.{AreOut, NoneOf}
use Rattle.wm_engine.specs.Rolls.{IsNewOn}
use Rattle.wm_engine.specs.Calls.{HasGoneOn, IsClaim, IsClaimAnswer, IsOneStep, IsTicketIn, IsUntouched}
use Rattle.wm_engine.specs.TableState.{ticket_of, TableState, TicketState}
use Rattle.wm_engine.specs.declared.engine.Claim.{Claim}
use Rattle.wm_engine.specs.declared.engine.Claim.TheVariants as claim
use Rattle.wm_worker.specs.Told.{Report}

-- ---- the roll

new_start : (s : State) (parts : List Part) (found : Option Run) (number : ℕ) (input : List DataEntry) (e : Event) → Valid s → AreOut s.runs parts → Legal s e
    → IsSomeAnd found (λ run. (input ≡ run.input) × (e ≡ event.Start number run.seq run.instance input)) → NoneOf number parts
new_start s parts None number input e valid out legal is = absurd is
new_start s parts (Some run) number input e valid out legal is =
    let start : Legal s (event.Start number run.seq run.instance input) = subst (Legal s) is.1 legal in
    new-on s parts number valid out start.run_is

new_claimed : (s t : State) (parts : List Part) (e : Event) (made : Claimed) → Valid s → AreOut s.runs parts → Legal s e → IsClaimOf t e made → IsNewOn parts made
new_claimed s t parts e (claimed.Run number input) valid out legal is = new_start s parts (run_numbered number t.runs) number input e valid out legal is
new_claimed s t parts e (claimed.Failed seq cause) valid out legal is = tt

-- a run that is claimed is new on the roll
pub new-claim : (s : State) (parts : List Part) (claiming : Claiming) → Valid s → AreOut s.runs parts → IsClaiming s claiming → IsNewOn parts claiming.claimed
new-claim s parts claiming valid out is =
    new_claimed s (after s claiming.change.event) parts claiming.change.event claiming.claimed valid out is.step.legal is.claimed

-- ---- the answer

-- the event of a run that begins has what its ticket holds
start_is : (ticket : TicketState) (t : State) (number : ℕ) (input : List DataEntry) (e : Event) (found : Option Run) → run_numbered number t.runs ≡ found
    → IsSomeAnd found (λ run. (input ≡ run.input) × (e ≡ event.Start number run.seq run.instance input))
    → ticket.task.run ≡ number → ticket.task.input ≡ input → IsTicketIn t ticket
    → e ≡ event.Start ticket.task.run ticket.seq ticket.instance ticket.task.input
start_is ticket t number input e None at is same took there = absurd is
start_is ticket t number input e (Some run) at is same took there =
    let found : IsSomeAnd (run_numbered number t.runs) (λ run. ticket ≡ ticket_of run) =
    subst (λ (n : ℕ). IsSomeAnd (run_numbered n t.runs) (λ run. ticket ≡ ticket_of run)) same there in
    let its : ticket ≡ ticket_of run = subst (λ (o : Option Run). IsSomeAnd o (λ run. ticket ≡ ticket_of run)) at found in
    is.1 ∙ (λ i. event.Start (sym same i) (ap (λ (t : TicketState). t.seq) (sym its) i) (ap (λ (t : TicketState). t.instance) (sym its) i) (sym took i))

-- a step is one whatever becomes of the roll
pub IsOneStep-roll : {K : Type 0} (store : K → Store) (old made : TableState K) (parts : List Part) (e : Event) → IsOneStep store e old made
    → IsOneStep store e old (record made { roll = parts })
IsOneStep-roll store old made parts e step = record {
  first = step.first;
  legal = step.legal;
  state = step.state;
  appended = step.appended;
  rows = step.rows;
  images = step.images;
}

module _ {K M : Type 0} (store : K → Store) (old made : TableState K) (parts : List Part) where
  answered : (e : Event) (is_made : Claimed) (answer : Claim M) → IsClaimOf (after old.state e) e is_made → IsOneStep store e old made
      → IsClaim made.state is_made answer → IsClaimAnswer store (Some answer) old (record made { roll = parts })
  answered e (claimed.Run number input) (claim.Run ticket) is step answers =
      let t = after old.state e in
      let there : IsTicketIn t ticket = subst (λ (s : State). IsTicketIn s ticket) step.state answers.2 in
      let start = start_is ticket t number input e (run_numbered number t.runs) refl is answers.0 answers.1 there in
      record {
        step = IsOneStep-roll store old made parts (event.Start ticket.task.run ticket.seq ticket.instance ticket.task.input)
            (subst (λ (e : Event). IsOneStep store e old made) start step);
        ticket_in = answers.2;
      }
  answered e (claimed.Failed seq cause) (claim.Failed failed why) is step answers =
      let fails : e ≡ event.StartFailed failed why = is ∙ (λ i. event.StartFailed (sym answers.0 i) (sym answers.1 i)) in
      IsOneStep-roll store old made parts (event.StartFailed failed why) (subst (λ (e : Event). IsOneStep store e old made) fails step)
  answered e (claimed.Run number input) (claim.Failed failed why) is step answers = absurd answers
  answered e (claimed.Failed seq cause) (claim.Run ticket) is step answers = absurd answers

  -- what is answered of a claim whose step was made
  pub IsClaimAnswer-made : (claiming : Claiming) (answer : Claim M) → IsClaiming old.state claiming → IsOneStep store claiming.change.event old made
      → IsClaim made.state claiming.claimed answer → IsClaimAnswer store (Some answer) old (record made { roll = parts })
  IsClaimAnswer-made claiming answer is step answers = answered claiming.change.event claiming.claimed answer is.claimed step answers

-- ---- whatever becomes of the roll

-- an answer of a claim is one
pub IsClaimAnswer-roll : {K M : Type 0} (store : K → Store) (claimed : Claim M) (old between : TableState K) (parts : List Part)
    → IsClaimAnswer store (Some claimed) old between → IsClaimAnswer store (Some claimed) old (record between { roll = parts })
IsClaimAnswer-roll store (claim.Run ticket) old between parts run = record {
  step = IsOneStep-roll store old between parts (event.Start ticket.task.run ticket.seq ticket.instance ticket.task.input) run.step;
  ticket_in = run.ticket_in;
}
IsClaimAnswer-roll store (claim.Failed seq cause) old between parts step = IsOneStep-roll store old between parts (event.StartFailed seq cause) step

-- a run that has gone on has
pub HasGoneOn-roll : {K : Type 0} (store : K → Store) (ticket next : TicketState) (told : Report) (old between : TableState K) (parts : List Part)
    → HasGoneOn store ticket told next old between → HasGoneOn store ticket told next old (record between { roll = parts })
HasGoneOn-roll store ticket next told old between parts on = record {
  progress = on.progress;
  counts = on.counts;
  told_is = on.told_is;
  step = IsOneStep-roll store old between parts (event.Turn ticket.task.run on.progress) on.step;
  keeper = on.keeper;
  same_run = on.same_run;
  ticket_in = on.ticket_in;
}

-- and an untouched table is
pub IsUntouched-roll : {K : Type 0} (store : K → Store) (may : Event → Type 0) (old between : TableState K) (parts : List Part)
    → IsUntouched store may old between → IsUntouched store may old (record between { roll = parts })
IsUntouched-roll store may old between parts same = record {
  first = same.first;
  state = same.state;
  log = same.log;
  rows = same.rows;
  images = same.images;
}
