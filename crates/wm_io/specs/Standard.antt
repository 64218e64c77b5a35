-- What a call does to the bytes of a std reader or writer behind it, where std knows them.
use Rattle.std.specs.Prelude.{ℕ, List, take, Option}
use Rattle.std.specs.Io.KnownBytes.{Keeps, Consumes, Appends, IsAtEnd}
use Rattle.wm_io.specs.declared.source.Got.{Got}
use Rattle.wm_io.specs.declared.source.Got.TheVariants as got
use Rattle.wm_io.specs.declared.sink.Put.{Put}
use Rattle.wm_io.specs.declared.sink.Put.TheVariants as put

-- an adapter of a std reader or writer: the bytes that the reader will give or the writer holds,
-- where std knows them, and how many faults there were
pub record StdState : Type 0 where
  pub known : Option (List ℕ)
  pub faults : ℕ

-- the bytes given stood in front of the reader's, the end comes only where the reader is at its
-- end, and a failed read takes nothing
abbrev pub ReadsKnown : Got → Option (List ℕ) → Option (List ℕ) → List ℕ → Type 0
ReadsKnown (got.Some count) before now slice = Consumes before now (take count slice)
ReadsKnown got.End before now slice = Keeps before now × IsAtEnd now
ReadsKnown got.Failed before now slice = Keeps before now

-- The writer got the bytes taken. At a failed write it may have got a part of the piece, since the
-- flush may be what failed. Memory is never what a write answers.
abbrev pub WritesKnown : Put → Option (List ℕ) → Option (List ℕ) → List ℕ → Type 0
WritesKnown (put.Took count) before now piece = Appends before now (take count piece)
WritesKnown put.Failed before now piece = (count : ℕ) × Appends before now (take count piece)
WritesKnown put.Memory before now piece = ⊥
