-- What contracts see of the keepers of this crate, and what they show of it.
use Rattle.sqlite.specs.Held.{Held, held_code}
use Rattle.std.specs.Coded.{Coded, code_by, coded×, coded_ℕ}
use Rattle.std.specs.Prelude.{ℕ, Bool, true, Option, None, Some, refl}
use Rattle.wm_keeper.specs.Store.{Store}
use Rattle.wm_sqlite.specs.contracts.standing.Standing as standing
use Rattle.wm_sqlite.specs.declared.standing.Standing.{Standing}

-- a keeper over a connection, with what it knows of the table there, and how many faults it has met
pub record SqliteState (A : Type 0) : Type 0 where
  pub connection : Held A
  pub standing : Standing
  pub faults : ℕ

-- how a proof tells its values apart
abbrev pub sqlite_state_code : {A : Type 0} → Coded A → Coded (SqliteState A)
sqlite_state_code {A} store =
    code_by (Held A × (Standing × ℕ)) (coded× (held_code store) (coded× standing.the_row.coded coded_ℕ))
    (λ k. (k.connection, (k.standing, k.faults))) (λ p. record { connection = p.0; standing = p.1.0; faults = p.1.1 }) (λ _. refl)

-- a keeper over a file: whether one is open, and how many faults it has met
pub record FileState : Type 0 where
  pub is_open : Bool
  pub faults : ℕ

-- it tells neither rows nor what a crash may leave nor a name, and shows its count of faults alone: it is lost from the beginning
abbrev pub silent_store : ℕ → Store
silent_store faults = record { rows = None; images = λ image. ⊥; name = None; faults = faults; is_lost = true }

-- how many faults the keeper over the open file has met, none where no file is open
abbrev pub faults_of : {A : Type 0} → Option (SqliteState A) → ℕ
faults_of None = 0
faults_of (Some keeper) = keeper.faults
