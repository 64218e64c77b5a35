-- The lines of a run, by where they come from.
use Rattle.std.proofs.Common.{◌≡◌, ℕ, ◌<◌, ◌^◌, List, Option, Some, IsSomeAnd, refl, sym, ◌∙◌, subst, arith}
use Rattle.std.specs.List.{AllByRecursion}
use Rattle.wm_beginning.proofs.Unread.{ForScript-any, without}
use Rattle.wm_beginning.specs.Causes.{IsToldWithin}
use Rattle.wm_beginning.specs.Reading.{ForScript, IsReadStatus}
use Rattle.wm_cli.specs.Lines.{HaveLines, generated_groups, lines_of}
use Rattle.wm_ended.specs.declared.status.Status.{Status}
use Rattle.wm_ended.specs.declared.status.Status.TheVariants as status
use Rattle.wm_faults.specs.Faults.{Failed}
use Rattle.wm_generator.proofs.GeneratedWorks.{AreAskable-generated}
use Rattle.wm_generator.specs.Generated.{generated}
use Rattle.wm_machine.specs.Outcome.{IsAskable}
use Rattle.wm_machine.specs.declared.command.Command.{Command}
use Rattle.wm_script.proofs.BuiltCommands.{IsAskable-commands_in}
use Rattle.wm_script.specs.declared.limits.Limit.{Limit}
use Rattle.wm_words.specs.Run.{asked, options_of, AskForScript}
use Rattle.wm_words.specs.declared.run.Options.{Options as ReadOptions}
use Rattle.wm_words.specs.declared.run.Origin.{Origin}
use Rattle.wm_words.specs.declared.run.Origin.TheVariants.{Script, Seed}

pub AreAskable-lines_of : (origin : Origin) (bytes : List ℕ) → ((seed : ℕ) → origin ≡ Seed seed → seed < 2 ^ 64) → AllByRecursion IsAskable (lines_of origin bytes)
AreAskable-lines_of Script bytes fits = IsAskable-commands_in bytes
AreAskable-lines_of (Seed seed) bytes fits = AreAskable-generated seed generated_groups (fits seed refl) (omega arith)

-- those that a seed gives are the same whatever the script is
pub seed_lines : (left : Option (List ℕ)) (origin : Origin) (seed : ℕ) (commands : List Command) → origin ≡ Seed seed → commands ≡ generated seed generated_groups
    → ForScript left (λ bytes. commands ≡ lines_of origin bytes)
seed_lines left origin seed commands is given = ForScript-any left (λ bytes. commands ≡ lines_of origin bytes) (λ bytes. rw is given)

-- ---- a run without its lines

pub without_lines : (words : List (List ℕ)) (options : ReadOptions) (ended : Status) (left : Option (List ℕ)) (before now : ℕ)
    → Some (asked options) ≡ options_of words → HaveLines words left before now → IsReadStatus ended before now left
    → ((seed : ℕ) → options.origin ≡ Seed seed → ended ≡ status.Memory) → ended ≡ status.Memory
without_lines words options ended left before now are have read memory =
    without options.origin ended left before now
    (subst (λ found. IsSomeAnd found (λ given. given.origin ≡ Script → IsToldWithin left × ¬ Failed before now)) (sym are) have) read memory

-- where its script was too long, it had one
of_script : (origin : Origin) (ended : Status) (limit : Limit) → ((seed : ℕ) → origin ≡ Seed seed → ended ≡ status.Memory)
    → ended ≡ status.ScriptTooLong limit → origin ≡ Script
of_script Script ended limit memory is = refl
of_script (Seed seed) ended limit memory is =
    let clash : status.Memory ≡ status.ScriptTooLong limit = sym (memory seed refl) ∙ is in absurd cc

pub long_of_script : (words : List (List ℕ)) (options : ReadOptions) (ended : Status) (limit : Limit) → Some (asked options) ≡ options_of words
    → ((seed : ℕ) → options.origin ≡ Seed seed → ended ≡ status.Memory) → ended ≡ status.ScriptTooLong limit → AskForScript words
long_of_script words options ended limit are memory is =
    subst (λ found. IsSomeAnd found (λ given. given.origin ≡ Script)) are (of_script options.origin ended limit memory is)
