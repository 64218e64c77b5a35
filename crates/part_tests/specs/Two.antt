-- Two works to be tested on.
use Rattle.std.specs.Prelude.{ℕ, List, [], ◌∷◌, ◌++◌, Some, None}
use Rattle.wm_index.specs.Entries.{Entry}

-- two works with these tags, the second under the name `n`
abbrev pub two_works : List ℕ → List ℕ → List (List ℕ) → List Entry
two_works first second tags =
    (record { seq = 1; id = Some first; name = None; tags = tags })
    ∷ (record { seq = 2; id = Some second; name = Some (110 ∷ []); tags = tags })
    ∷ []

-- and a third that has no id yet
abbrev pub with_third : List ℕ → List ℕ → List (List ℕ) → List Entry
with_third first second tags = two_works first second tags ++ (record { seq = 3; id = None; name = None; tags = tags }) ∷ []
