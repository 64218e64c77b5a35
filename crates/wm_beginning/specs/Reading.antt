-- What a source tells, and what reading the commands of a script answers.
use Rattle.std.specs.Prelude.{◌≡◌, ℕ, List, Option, None, IfSome}
use Rattle.wm_beginning.specs.Causes.{IsPastLimit}
use Rattle.wm_ended.specs.declared.status.Status.{Status}
use Rattle.wm_ended.specs.declared.status.Status.TheVariants as status
use Rattle.wm_faults.specs.Faults.{Failed}
use Rattle.wm_machine.specs.declared.command.Command.{Command}
use Rattle.wm_script.specs.Limits.{first_limit}
use Rattle.wm_script.specs.Lines.{commands_in}

-- what a source tells: the bytes that it has left, where it tells them, and how many faults it has met
pub record Reads (S : Type 0) : Type 1 where
  pub left : S → Option (List ℕ)
  pub faults : S → ℕ

-- the same of its ghost members
abbrev pub reads_of : {S : Type 0} → (S → Option (List ℕ)) → (S → ℕ) → Reads S
reads_of left faults = record { left = left; faults = faults }

-- it holds of the bytes that the source had left, where it tells them, and else of some bytes
pub record ForScript (left : Option (List ℕ)) (P : List ℕ → Type 0) : Type 0 where
  pub bytes : List ℕ
  pub told : IfSome left (λ all. all ≡ bytes)
  pub holds : P bytes

-- the commands are those of the script, which passes no limit
abbrev pub AreCommandsOf : Option (List ℕ) → List Command → Type 0
AreCommandsOf left commands = ForScript left (λ bytes. (commands ≡ commands_in bytes) × (first_limit bytes ≡ None))

-- each status that ends a run before its store is opened, with its cause
abbrev pub IsReadStatus : Status → ℕ → ℕ → Option (List ℕ) → Type 0
IsReadStatus status.SourceFault before now left = Failed before now
IsReadStatus (status.ScriptTooLong limit) before now left = IsPastLimit limit before now left
IsReadStatus status.Memory before now left = now ≡ before
IsReadStatus _ before now left = ⊥
