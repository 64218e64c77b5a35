-- The step of a command: one by which something is set, or nothing, and one that leaves the rows.
use Rattle.std.proofs.Common.{◌≡◌, ℕ, List, [], ◌∷◌, map, Option, Some, refl, sym, ◌∙◌, ap, subst, arith, inl, inr}
use Rattle.std.specs.List.{AllByRecursion}
use Rattle.std.specs.Prelude.{◌≢◌, IsSomeAnd}
use Rattle.wm_settings.specs.Builds.{setting_outcome, ChangesNoRow, HasOutcome, IsExecuted}
use Rattle.wm_collections.proofs.Lists.{one_gives}
use Rattle.wm_collections.specs.Lists.{HasOne}
use Rattle.wm_machine.specs.Outcome.{outcome}
use Rattle.wm_machine.specs.Replied.{Outcome}
use Rattle.wm_machine.specs.Rows.{row_of}
use Rattle.wm_machine.specs.Step.{state_by, Answers}
use Rattle.wm_machine.specs.Valid.{Valid}
use Rattle.wm_machine.specs.declared.command.Command.{Command}
use Rattle.wm_machine.specs.declared.record.Record.{Record}
use Rattle.wm_machine.specs.declared.reply.Reply.{Reply}
use Rattle.wm_machine.specs.declared.state.State.{State}
use Rattle.wm_machine.specs.declared.event.Event.TheVariants as event
use Rattle.wm_steps.proofs.StepFits.{unplaced}
use Rattle.wm_changes.specs.StepChanges.{row_changes, set_by, setting}
use Rattle.wm_changes.specs.declared.change.SettingChange.{SettingChange}
use Rattle.wm_changes.specs.declared.change.StepChange.{StepChange}

-- the reply of an outcome is the answer
pub Answers-outcome : (s : State) (asked : Command) (answer : Reply) (out : Outcome) → outcome s asked ≡ Some out → answer ≡ out.reply → Answers s asked answer
Answers-outcome s asked answer out is same = subst (λ (o : Option Outcome). IsSomeAnd o (λ out. answer ≡ out.reply)) (sym is) same

-- a command by which something is set, or nothing
pub setting-executed : (s : State) (line : ℕ) (asked : Command) (answer : Reply) (to : SettingChange) → Valid s
    → HasOutcome s asked (setting_outcome answer to s) → IsExecuted s line asked (setting to (event.Command line asked answer))
setting-executed s line asked answer to valid is =
    let out = setting_outcome answer to s in
    record {
      reply = answer;
      event = refl;
      step = record {
        fits = record {
          told = tt;
          replaced = tt;
          removed = tt;
          placed = tt;
          named = tt;
          numbers = omega (arith, valid.works.fits);
          replaced_rows = tt;
          placed_rows = tt;
          apart = tt;
          alone = inl refl;
        };
        legal = (is.askable, Answers-outcome s asked answer out is.is refl);
        state = ap (set_by to) (unplaced s s.works s.works refl) ∙ sym (ap (state_by s) is.is);
        freeing = tt;
      };
      rows = inr refl;
    }

-- ---- the rows

-- rows that are the same after a change are so for each record
rows-each : (change : Record → Record) (works : List Record) → map row_of (map change works) ≡ map row_of works
    → AllByRecursion (λ work. row_of (change work) ≡ row_of work) works
rows-each change [] same = tt
rows-each change (work ∷ works) same = ((cc), rows-each change works (cc))

-- where the row of a record that is there changes, the rows do
pub rows-change : (change : Record → Record) (work : Record) (works : List Record) → HasOne (λ other. other ≡ work) works
    → row_of (change work) ≢ row_of work → map row_of (map change works) ≢ map row_of works
rows-change change work works stored differs same =
    one_gives works (λ other kept is. differs (subst (λ w. row_of (change w) ≡ row_of w) is kept)) (rows-each change works same) stored

-- a command that leaves the rows has no row to commit
pub no-row-changes : (s t : State) (line : ℕ) (asked : Command) (change : StepChange) → t ≡ s → IsExecuted s line asked change
    → ChangesNoRow t asked → row_changes change ≡ []
no-row-changes s t line asked change state_is is same = elim is.rows [
  | inl changes ↦ absurd (changes (subst (λ (s : State). ChangesNoRow s asked) state_is same))
  | inr none ↦ none
]
