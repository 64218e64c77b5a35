-- A program whose script wasn't read, and one that has made no event.
use Rattle.std.proofs.Common.{◌≡◌, ℕ, List, [], Option, Some, None, refl, sym, ◌∙◌, ap, subst, IfSome, Bool, false}
use Rattle.wm_beginning.specs.Causes.{IsToldTooLong, IsToldWithin}
use Rattle.wm_beginning.specs.NotBegun.{IsOpeningRefused}
use Rattle.wm_beginning.specs.Reading.{ForScript, IsReadStatus}
use Rattle.wm_ended.specs.Ended.{IsPartAppended, IsTextWritten}
use Rattle.wm_ended.specs.declared.status.Status.{Status}
use Rattle.wm_ended.specs.declared.status.Status.TheVariants as status
use Rattle.wm_faults.specs.Faults.{Failed}
use Rattle.wm_io.proofs.AppendedTexts.{IsAppended-nothing}
use Rattle.wm_io.specs.Writing.{IsAppended}
use Rattle.wm_keeper.specs.Store.{Store}
use Rattle.wm_keeper.specs.declared.row.Row.{Row}
use Rattle.wm_machine.specs.declared.event.Event.{Event}
use Rattle.wm_machine.specs.declared.state.Instance.{Instance}
use Rattle.wm_machine.specs.declared.state.State.{State}
use Rattle.wm_script.specs.Limits.{first_limit}
use Rattle.wm_script.specs.declared.limits.Limit.{Limit}
use Rattle.wm_texts.specs.Texts.{log_text}
use Rattle.wm_words.specs.declared.run.Origin.{Origin}
use Rattle.wm_words.specs.declared.run.Origin.TheVariants.{Script, Seed}

-- a script that passes no limit isn't too long
pub past_within : (left : Option (List ℕ)) (limit : Limit) → IfSome left (λ all. first_limit all ≡ None) → IsToldTooLong limit left → ⊥
past_within None limit within past = past
past_within (Some all) limit within past = let clash : None ≡ Some limit = sym within ∙ past in absurd cc

past_told : (left : Option (List ℕ)) (limit : Limit) → IsToldWithin left → IfSome left (λ all. first_limit all ≡ Some limit) → ⊥
past_told None limit within past = within
past_told (Some all) limit within past = let clash : None ≡ Some limit = sym within ∙ past in absurd cc

-- where its lines are there, it ended for want of memory
pub without : (origin : Origin) (ended : Status) (left : Option (List ℕ)) (before now : ℕ) → (origin ≡ Script → IsToldWithin left × ¬ Failed before now)
    → IsReadStatus ended before now left → ((seed : ℕ) → origin ≡ Seed seed → ended ≡ status.Memory) → ended ≡ status.Memory
without (Seed seed) ended left before now there read memory = memory seed refl
without Script status.Memory left before now there read memory = refl
without Script status.SourceFault left before now there read memory = absurd ((there refl).1 read)
without Script (status.ScriptTooLong limit) left before now there read memory = absurd (past_told left limit (there refl).0 read.too_long)
without Script status.Done left before now there read memory = absurd read
without Script status.Usage left before now there read memory = absurd read
without Script status.KeeperFault left before now there read memory = absurd read
without Script (status.BadStore seq bad_row) left before now there read memory = absurd read
without Script status.SinkFault left before now there read memory = absurd read

-- no event has no text
pub IsTextWritten-nothing : (before now : Option (List ℕ)) (ended : Status) (first : State) (log : List Event) → now ≡ before → log ≡ []
    → IsTextWritten before now ended first log
IsTextWritten-nothing before now ended first log same none =
    let empty : log_text first log ≡ [] = ap (log_text first) none in
    let given : IsAppended before now [] = same ∙ IsAppended-nothing before in
    record {
      front = subst (IsPartAppended before now) (sym empty) (record { front = []; is_front = ([], refl); given = given });
      all = λ done. subst (IsAppended before now) (sym empty) given;
    }

-- some bytes are those that a source has left, where it tells them
pub ForScript-any : (left : Option (List ℕ)) (P : List ℕ → Type 0) → ((bytes : List ℕ) → P bytes) → ForScript left P
ForScript-any None P p = record { bytes = []; told = tt; holds = p [] }
ForScript-any (Some bytes) P p = record { bytes = bytes; told = refl; holds = p bytes }

-- a script that wasn't read isn't done
pub not_done : (ended : Status) (before now : ℕ) (left : Option (List ℕ)) → IsReadStatus ended before now left → ended ≡ status.Done → ⊥
not_done ended before now left read done = subst (λ e. IsReadStatus e before now left) done read

-- where no store was opened, the commit of an opening wasn't refused
pub unopened-kept : {K : Type 0} (store : K → Store) (began at_opening : Bool) (ended : Status) (held : Option (List Row)) (instances : List Instance)
    (keeper kept : K)
    → began ≡ false → at_opening ≡ false → kept ≡ keeper → IsOpeningRefused began at_opening ended held instances (store keeper) (store kept)
unopened-kept store began at_opening ended held instances keeper kept unbegun early same = rw (unbegun, early, same) (λ image left. left)
