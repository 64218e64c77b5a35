-- What is still to be written.
use Rattle.std.specs.Prelude.{◌≡◌, ℕ, Bool, true, false, List, [], ◌++◌, Option}
use Rattle.wm_io.specs.Writing.{IsAppended}

-- bytes, and whether the last text, for which memory was refused, comes behind them
pub record PendingState : Type 0 where
  pub bytes : List ℕ
  pub untold : Bool

abbrev pub nothing : PendingState
nothing = record { bytes = []; untold = false }

-- bytes, with the last text behind them where that is still to be made
abbrev pub with_untold : Bool → List ℕ → List ℕ → List ℕ
with_untold true bytes last = bytes ++ last
with_untold false bytes last = bytes

-- the text that is pending, where this is the last one
abbrev pub still_pending : PendingState → List ℕ → List ℕ
still_pending pending last = with_untold pending.untold pending.bytes last

-- where the sink tells what it was given, this text came to its end, but for what is pending of it
pub record IsGivenBut (before now : Option (List ℕ)) (text pending : List ℕ) : Type 0 where
  pub written : List ℕ
  pub given : IsAppended before now written
  pub kept : text ≡ written ++ pending
