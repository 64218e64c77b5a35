-- The lines of a run.
use Rattle.std.specs.Prelude.{◌≡◌, ℕ, List, Option, IsSomeAnd}
use Rattle.wm_beginning.specs.Causes.{IsToldWithin}
use Rattle.wm_faults.specs.Faults.{Failed}
use Rattle.wm_words.specs.declared.run.Origin.{Origin}
use Rattle.wm_words.specs.declared.run.Origin.TheVariants as origin
use Rattle.wm_generator.specs.Generated.{generated}
use Rattle.wm_machine.specs.declared.command.Command.{Command}
use Rattle.wm_script.specs.Lines.{commands_in}
use Rattle.wm_words.specs.Run.{options_of}

-- how many groups a seed gives
abbrev pub generated_groups : ℕ
generated_groups = 400

-- the lines that a run executes: of a script those of its bytes, and of a seed those that it gives, whatever the bytes are
abbrev pub lines_of : Origin → List ℕ → List Command
lines_of origin.Script bytes = commands_in bytes
lines_of (origin.Seed seed) bytes = generated seed generated_groups

-- the words are right, and where they ask for a script, the source tells one that passes no limit, and doesn't fail
abbrev pub HaveLines : List (List ℕ) → Option (List ℕ) → ℕ → ℕ → Type 0
HaveLines words left before now =
    IsSomeAnd (options_of words) (λ options. options.origin ≡ origin.Script → IsToldWithin left × ¬ Failed before now)
