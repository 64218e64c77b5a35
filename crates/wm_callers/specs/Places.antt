-- Places of a caller's entries in a list of all entries.
use Rattle.std.specs.Prelude.{◌≡◌, ◌⊎◌, ℕ, ◌-◌, ◌==◌, suc, List, [], ◌∷◌, length, if◌then◌else◌}
use Rattle.wm_callers.specs.declared.entry.Signed.{Signed}

-- the places at which these entries, of which the first has this place, are of this caller
abbrev pub places_from : ℕ → ℕ → List Signed → List ℕ
places_from number place [] = []
places_from number place (entry ∷ entries) =
    if entry.caller == number then place ∷ places_from number (suc place) entries else places_from number (suc place) entries

abbrev pub places_of : ℕ → List Signed → List ℕ
places_of number entries = places_from number 0 entries

-- these stand among the others, in the same order
abbrev pub ArePart : List ℕ → List ℕ → Type 0
ArePart [] all = Unit {0}
ArePart (place ∷ places) [] = ⊥
ArePart (place ∷ places) (first ∷ all) = ((place ≡ first) × ArePart places all) ⊎ ArePart (place ∷ places) all

-- the longer of two beginnings of one list
abbrev pub longer : List Signed → List Signed → List Signed
longer [] others = others
longer (entry ∷ entries) [] = entry ∷ entries
longer (entry ∷ entries) (other ∷ others) = entry ∷ longer entries others

-- the place of the last
abbrev pub last_place : List Signed → ℕ
last_place entries = length entries - 1
