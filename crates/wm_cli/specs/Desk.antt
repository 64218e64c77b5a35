-- Which runs the calls of a desk hand out, and how many.
use Rattle.std.specs.Prelude.{ℕ}
use Rattle.wm_cli.specs.declared.desk.Start.{Start}
use Rattle.wm_cli.specs.declared.desk.Start.TheVariants as start

-- one where a run began
abbrev pub begun_in : {J : Type 0} → Start J → ℕ
begun_in (start.Begun work) = 1
begun_in _ = 0

-- it holds of the run that began, where one did
abbrev pub IfBegun : {J : Type 0} → Start J → (J → Type 0) → Type 0
IfBegun (start.Begun work) P = P work
IfBegun _ P = Unit {0}
