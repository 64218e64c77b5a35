-- Lists of parts, each of which has its run.
use Rattle.std.specs.Prelude.{◌≡◌, ◌≢◌, ℕ, ◌==◌, Bool, not, List, filter}
use Rattle.wm_collections.specs.Lists.{HasOne}
use Rattle.wm_roll.specs.declared.part.Part.{Part}

-- two parts are of different runs
abbrev pub DifferInRun : Part → Part → Type 0
DifferInRun one other = one.run ≢ other.run

-- a part stands on a list
abbrev pub IsListed : List Part → Part → Type 0
IsListed listed part = HasOne (λ one. one ≡ part) listed

-- whether a part is that of a run
abbrev pub is_of : ℕ → Part → Bool
is_of run part = part.run == run

-- the parts but for that of a run
abbrev pub without : ℕ → List Part → List Part
without run parts = filter (λ part. not (is_of run part)) parts
