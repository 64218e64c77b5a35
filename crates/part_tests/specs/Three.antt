-- A graph to be tested on. This project's own choice.
use Rattle.std.specs.Prelude.{List, [], ◌∷◌, false}
use Rattle.wm_graph.specs.Nodes.{NodeFields}

-- three nodes, all unmarked: the second is after the first, and the third after both
abbrev pub three_nodes : List NodeFields
three_nodes =
    (record { seq = 1; before = []; done = false })
    ∷ (record { seq = 2; before = 1 ∷ []; done = false })
    ∷ (record { seq = 3; before = 1 ∷ 2 ∷ []; done = false })
    ∷ []
