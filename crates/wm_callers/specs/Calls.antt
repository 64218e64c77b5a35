-- What the calls of a desk do to a pass.
use Rattle.std.specs.Prelude.{◌≡◌, ℕ, ◌+◌, List, [], ◌∷◌, ◌++◌, length}
use mathlib.Core.List.{IsPrefix}
use Rattle.wm_callers.specs.PassState.{PassState}
use Rattle.wm_callers.specs.Places.{places_of, ArePart}
use Rattle.wm_machine.specs.declared.command.Command.{Command}
use Rattle.wm_callers.specs.declared.entry.Signed.{Signed}
use Rattle.wm_callers.specs.declared.pass.Receipt.{Receipt}
use Rattle.wm_engine.specs.declared.trouble.Trouble.{Trouble}
use Rattle.wm_engine.specs.declared.trouble.Trouble.TheVariants as trouble

-- what was seen begins what is seen, which ends with this caller's number, this line, this command and this reply, at the place of the receipt
pub record IsCalled (line : ℕ) (command : Command) (receipt : Receipt) (old new : PassState) : Type 0 where
  pub between : List Signed
  pub seen_is : new.seen ≡ (old.seen ++ between) ++ record { caller = old.number; line = line; command = command; reply = receipt.reply } ∷ []
  pub place_is : receipt.place ≡ length (old.seen ++ between)
  pub mine_is : new.mine ≡ old.mine ++ receipt.place ∷ []
  pub number_is : new.number ≡ old.number
  pub units_are : new.units ≡ old.units
  pub own_places : ArePart new.mine (places_of new.number new.seen)

-- nothing has changed but that a fault of the keeper is counted
abbrev pub IsRefused : Trouble → PassState → PassState → Type 0
IsRefused trouble.KeeperFault old new = new ≡ record old { units = old.units + 1 }
IsRefused trouble.Memory old new = new ≡ old

-- what was seen begins what is seen, of which there are as many as was answered
pub record IsLooked (answer : ℕ) (old new : PassState) : Type 0 where
  pub seen_is : IsPrefix old.seen new.seen
  pub counted : answer ≡ length new.seen
  pub others : new ≡ record old { seen = new.seen }

-- what either has seen begins what the second sees
pub record IsMet (from_old into_old into_new : PassState) : Type 0 where
  pub later : IsPrefix into_old.seen into_new.seen
  pub met : IsPrefix from_old.seen into_new.seen
  pub others : into_new ≡ record into_old { seen = into_new.seen }
