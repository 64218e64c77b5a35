-- What a sink tells, and what of a text was written to it.
use Rattle.std.specs.Prelude.{◌≡◌, ℕ, List, Option}
use Rattle.wm_io.specs.Writing.{IsAppended}
use Rattle.wm_ended.specs.Ended.{IsPartAppended}
use Rattle.wm_ended.specs.declared.status.Status.{Status}
use Rattle.wm_ended.specs.declared.status.Status.TheVariants.{Done}

-- what a sink tells: the bytes that it was given, where it tells them, and how many faults it has met
pub record Takes (W : Type 0) : Type 1 where
  pub given : W → Option (List ℕ)
  pub faults : W → ℕ

-- the same of its ghost members
abbrev pub takes_of : {W : Type 0} → (W → Option (List ℕ)) → (W → ℕ) → Takes W
takes_of given faults = record { given = given; faults = faults }

-- the sink was given a front of a text, and all of it on `Done`
pub record IsFrontWritten (before now : Option (List ℕ)) (ended : Status) (text : List ℕ) : Type 0 where
  pub front : IsPartAppended before now text
  pub all : ended ≡ Done → IsAppended before now text
