-- What the calls of an engine make is one step, and what it keeps is kept by one step.
use Rattle.std.proofs.Common.{◌≡◌, ℕ, ◌+◌, ◌-◌, ◌^◌, ◌<◌, arith, Bool, true, false, not, List, [], ◌∷◌, ◌++◌, Option, Some, None, refl, sym, ◌∙◌, ap, subst, inl, inr}
use Rattle.std.specs.Prelude.{◌↔◌, is_some, IsSome, IsSomeAnd, IsTrue, MatchBool}
use Rattle.std.proofs.lemmas.Bool.{true≢false}
use Rattle.std.proofs.lemmas.Option.{none-some}
use Rattle.wm_keeper.proofs.Stores.{IfSome-still, IsAtMost-same, TellsOn-then}
use Rattle.wm_keeper.specs.Store.{Store, IsAtMost, TellsOn}
use Rattle.wm_machine.specs.declared.command.Command.{Command}
use Rattle.wm_machine.specs.declared.event.Event.{Event}
use Rattle.wm_machine.specs.declared.event.Event.TheVariants as event
use Rattle.wm_machine.specs.declared.reply.Reply.{Reply}
use Rattle.wm_machine.specs.declared.state.State.{State}
use Rattle.wm_machine.proofs.Openings.{reached-opened}
use Rattle.wm_machine.specs.First.{first_of}
use Rattle.wm_machine.specs.Opened.{Opened}
use Rattle.wm_machine.specs.Quiet.{IsQuiet}
use Rattle.wm_machine.specs.Rows.{rows_of}
use Rattle.wm_machine.specs.Step.{role_of, after, Legal}
use Rattle.wm_machine.specs.Valid.{Valid}
use Rattle.wm_machine.specs.declared.record.Record.{Record}
use Rattle.wm_roll.specs.Views.{RollView}
use Rattle.wm_roll.specs.declared.part.Part.{Part}
use Rattle.wm_steps.specs.Readied.{IsFirstOf}
use Rattle.wm_changes.specs.StepChanges.{changed_state, IsStepOf}
use Rattle.wm_changes.specs.declared.change.StepChange.{StepChange}
use Rattle.wm_engine.proofs.Images.{would_leave, WouldLeave-as}
use Rattle.wm_engine.proofs.Parts.{out-after}
use Rattle.wm_steps.specs.Stored.{LeavesBefore, LeavesOnly}
use Rattle.wm_engine.specs.Images.{IsLine}
use Rattle.wm_engine.specs.Inputs.{Inputs}
use Rattle.wm_engine.specs.Parts.{AreOut, IsOffRoll}
use Rattle.wm_engine.specs.Calls.{reply_in, IsOneStep, IsUntouched}
use Rattle.wm_engine.specs.EngineInvariant.{EngineInvariant}
use Rattle.wm_keeper.specs.declared.row.Row.{Row}
use Rattle.wm_machine.specs.declared.state.Instance.{Instance}
use Rattle.wm_machine.proofs.Steps.{Valid-after}
use Rattle.wm_engine.specs.Rows.{HoldsRowsOf}
use Rattle.wm_engine.specs.TableState.{TableState}

-- what is made by carrying out the change of a step is one step
pub made-step : {K : Type 0} (store : K → Store) (old : TableState K) (change : StepChange) (state : State) (log : List Event) (keeper : K) (roll : List Part)
    → IsStepOf old.state change → state ≡ changed_state change old.state → log ≡ old.log ++ change.event ∷ []
    → HoldsRowsOf state (store keeper) → (LeavesOnly (rows_of old.state) (store old.keeper) → LeavesOnly (rows_of state) (store keeper))
    → IsOneStep store change.event old (record { first = old.first; state = state; log = log; keeper = keeper; roll = roll })
made-step store old change state log keeper roll is state_is log_is rows images =
    record { first = refl; legal = is.legal; state = state_is ∙ is.state; appended = log_is; rows = rows; images = images }

-- and where it was refused, nothing has changed, and a crash may leave what its event would have left
pub refused-step : {K : Type 0} (store : K → Store) (old : TableState K) (change : StepChange) (state : State) (log : List Event) (keeper : K) (roll : List Part)
    → IsStepOf old.state change → state ≡ old.state → log ≡ old.log → IsAtMost (store old.keeper).rows (store keeper).rows
    → LeavesBefore (rows_of (changed_state change old.state)) (store old.keeper) (store keeper)
    → IsUntouched store (λ e. e ≡ change.event) old (record { first = old.first; state = state; log = log; keeper = keeper; roll = roll })
refused-step store old change state log keeper roll is state_is log_is rows images = record {
  first = refl;
  state = state_is;
  log = log_is;
  rows = rows;
  images = λ image left. elim (images image left) [
    | inl before ↦ inl before
    | inr made ↦ inr (would_leave old.state change image is made.1)
  ];
}

-- nothing has changed
pub IsUntouched-same : {K : Type 0} (store : K → Store) (may_be : Event → Type 0) (old new : TableState K) → new ≡ old → IsUntouched store may_be old new
IsUntouched-same store may_be old new same =
    subst (IsUntouched store may_be old) (sym same) (record {
      first = refl;
      state = refl;
      log = refl;
      rows = IsAtMost-same (store old.keeper).rows;
      images = λ image left. inl left;
    })

-- an event of some is one of others
pub IsUntouched-as : {K : Type 0} (store : K → Store) (may also : Event → Type 0) (old new : TableState K) → ((e : Event) → may e → also e)
    → IsUntouched store may old new → IsUntouched store also old new
IsUntouched-as store may also old new weaker same = record {
  first = same.first;
  state = same.state;
  log = same.log;
  rows = same.rows;
  images = λ image left. elim (same.images image left) [
    | inl before ↦ inl before
    | inr would ↦ inr (WouldLeave-as may also old.state image weaker would)
  ];
}

-- the event of a line is one of that line
pub line-made : (line : ℕ) (asked : Command) (answer : Reply) (e made : Event) → e ≡ made → made ≡ event.Command line asked answer → IsLine line asked e
line-made line asked answer e made same is = record { reply = answer; event_is = same ∙ is }

-- and has the reply that is found in it
pub line-replied : (made : Event) (line : ℕ) (asked : Command) (logged answer : Reply) → made ≡ event.Command line asked logged
    → reply_in made ≡ Some answer → made ≡ event.Command line asked answer
line-replied made line asked logged answer is found =
    let all : Some logged ≡ Some answer = sym (ap reply_in is) ∙ found in
    let same : logged ≡ answer = cc in
    is ∙ ap (event.Command line asked) same

-- ---- what an engine keeps

-- what an engine keeps when it begins
pub kept-opening : (run : Inputs) (rows : List Row) (instances : List Instance) (first s : State) (store : Store) (roll : RollView)
    → Opened rows instances first → s ≡ first → HoldsRowsOf first store → TellsOn run.store store → roll.table_id ≡ run.roll → roll.parts ≡ []
    → EngineInvariant run s store roll
kept-opening run rows instances first s store roll opened s_is held tells_on own none = record {
  valid = subst Valid (sym s_is) (reached-opened rows instances first opened);
  few_runs = let next : s.next_run ≡ 1 = ap (λ (t : State). t.next_run) (s_is ∙ opened.state) in omega (arith, next);
  rows = subst (λ (s : State). HoldsRowsOf s store) (sym s_is) held;
  tells_on = tells_on;
  own = own;
  out = subst (AreOut s.runs) (sym none) tt;
}

-- a step keeps it
pub kept-step : (run : Inputs) (s t : State) (before after_it : Store) (roll : RollView) (e : Event) → EngineInvariant run s before roll → Legal s e
    → t ≡ after s e → t.next_run < 2 ^ 64 → HoldsRowsOf t after_it → TellsOn before after_it → IsOffRoll (role_of e) roll.parts
    → EngineInvariant run t after_it roll
kept-step run s t before after_it roll e kept legal is few rows tells_on off = record {
  valid = subst Valid (sym is) (Valid-after s e kept.valid legal);
  few_runs = few;
  rows = rows;
  tells_on = TellsOn-then run.store before after_it kept.tells_on tells_on;
  own = kept.own;
  out = subst (λ (s : State). AreOut s.runs roll.parts) (sym is) (out-after s e roll.parts legal off kept.out);
}

-- and so does what leaves the state and the rows
pub kept-untouched : (run : Inputs) (s t : State) (before after_it : Store) (roll : RollView) → EngineInvariant run s before roll → t ≡ s
    → IsAtMost before.rows after_it.rows → TellsOn before after_it → EngineInvariant run t after_it roll
kept-untouched run s t before after_it roll kept is rows tells_on =
    let held : HoldsRowsOf s after_it = IfSome-still (λ rows. rows ≡ rows_of s) before.rows after_it.rows kept.rows rows in
    record {
      valid = subst Valid (sym is) kept.valid;
      few_runs = subst (λ (s : State). s.next_run < 2 ^ 64) (sym is) kept.few_runs;
      rows = subst (λ (s : State). HoldsRowsOf s after_it) (sym is) held;
      tells_on = TellsOn-then run.store before after_it kept.tells_on tells_on;
      own = kept.own;
      out = subst (λ (s : State). AreOut s.runs roll.parts) (sym is) kept.out;
    }

-- the same with other parts on the roll, each that of a run
pub kept-roll : (run : Inputs) (s : State) (store : Store) (roll now : RollView) → EngineInvariant run s store roll → now.table_id ≡ roll.table_id
    → AreOut s.runs now.parts → EngineInvariant run s store now
kept-roll run s store roll now kept same out = record { valid = kept.valid; few_runs = kept.few_runs; rows = kept.rows; tells_on = kept.tells_on; own = same ∙ kept.own; out = out }

-- ---- rest

-- the number of a first work isn't found where there is none
none-first : (found : Option Record) (number : ℕ) → IsSomeAnd found (λ work. work.seq ≡ number) → found ≡ None → ⊥
none-first None number is none = is
none-first (Some work) number is none = none-some work (sym none)

some-first : (found : Option Record) (number : ℕ) → IsSomeAnd found (λ work. work.seq ≡ number) → IsSome found
some-first None number is = absurd is
some-first (Some work) number is = refl

-- a work is startable exactly where the number of one that is first was found
pub startable-told : (s : State) (found : Option ℕ) (told : Bool) → IsFirstOf s found → told ≡ is_some found
    → MatchBool told (IsSome (first_of s)) (first_of s ≡ None)
startable-told s None true is same = absurd (true≢false same)
startable-told s None false is same = is
startable-told s (Some number) true is same = some-first (first_of s) number is
startable-told s (Some number) false is same = absurd (true≢false (sym same))

-- where no run is unreturned, nothing is left to do exactly where no work that is first was found
pub quiet-told : (s : State) (found : Option ℕ) (told : Bool) → IsFirstOf s found → is_some found ≡ not told → s.runs ≡ [] → IsTrue told ↔ IsQuiet s
quiet-told s None true is none no_run = (λ t. record { nothing_startable = is; no_run = no_run }, λ q. refl)
quiet-told s None false is none no_run = absurd (true≢false (sym none))
quiet-told s (Some number) true is none no_run = absurd (true≢false none)
quiet-told s (Some number) false is none no_run =
    (λ t. absurd (true≢false (sym t)), λ quiet. absurd (none-first (first_of s) number is quiet.nothing_startable))
