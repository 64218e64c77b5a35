-- What a source and a sink in memory keep, and how many bytes a call moves.
use Rattle.std.specs.Prelude.{◌≡◌, ℕ, ◌+◌, ◌-◌, ◌^◌, List, length, drop, min}
use Rattle.wm_io.specs.declared.source.Got.{Got}
use Rattle.wm_io.specs.declared.source.Got.TheVariants as got
use Rattle.wm_io.specs.declared.sink.Put.{Put}
use Rattle.wm_io.specs.declared.sink.Put.TheVariants as put

-- a count of 64 bits after one more, which stands still at the end of its type
abbrev pub one_more : ℕ → ℕ
one_more count = min (count + 1) (2 ^ 64 - 1)

-- a source in memory: the bytes left, the most that one call gives, the numbers of the calls that
-- fail, and how many calls and faults there were
pub record SourceState : Type 0 where
  pub left : List ℕ
  pub cut : ℕ
  pub failing : List ℕ
  pub calls : ℕ
  pub faults : ℕ

-- a sink in memory: the bytes given, the most that one call takes, the numbers of the calls that
-- fail, and how many calls and faults there were
pub record SinkState : Type 0 where
  pub given : List ℕ
  pub cut : ℕ
  pub failing : List ℕ
  pub calls : ℕ
  pub faults : ℕ

-- a read gave as many bytes as are left, the slice holds and the cut allows
abbrev pub GivesMost : Got → SourceState → ℕ → Type 0
GivesMost (got.Some count) source room = count ≡ min (min (length source.left) room) source.cut
GivesMost got.End source room = Unit {0}
GivesMost got.Failed source room = Unit {0}

-- a read left the slice as it was behind the bytes that it gave
abbrev pub KeepsTail : Got → List ℕ → List ℕ → Type 0
KeepsTail (got.Some count) before now = drop count now ≡ drop count before
KeepsTail got.End before now = now ≡ before
KeepsTail got.Failed before now = now ≡ before

-- a write took as many bytes as the piece has and the cut allows
abbrev pub TakesMost : Put → SinkState → ℕ → Type 0
TakesMost (put.Took count) sink len = count ≡ min len sink.cut
TakesMost put.Failed sink len = Unit {0}
TakesMost put.Memory sink len = Unit {0}
