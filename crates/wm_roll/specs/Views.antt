-- What a contract sees of a roll and of a token.
use Rattle.std.specs.Prelude.{List}
use Rattle.atomic_table.specs.Seated.{TableId}
use Rattle.wm_roll.specs.declared.part.Part.{Part}

-- which roll it is, and the parts that are out
pub record RollView : Type 0 where
  pub table_id : TableId
  pub parts : List Part

-- which roll gave it, and the part that it was given for
pub record TokenView : Type 0 where
  pub table_id : TableId
  pub part : Part
