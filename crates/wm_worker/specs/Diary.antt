-- What a worker's calls add to the diary that it tells.
use Rattle.std.specs.Prelude.{ℕ, List, ◌++◌, map, Option, option_map, option_to_list}
use Rattle.wm_worker.specs.Answers.{given_of}
use Rattle.wm_worker.specs.declared.answer.Answer.{Answer}
use Rattle.wm_worker.specs.declared.answer.Entry.{Entry}
use Rattle.wm_worker.specs.declared.answer.Entry.TheVariants.{Gave}

-- a diary with more entries, where it is told
abbrev pub diary_with : List Entry → Option (List Entry) → Option (List Entry)
diary_with added diary = option_map (λ entries. entries ++ added) diary

-- the entries that the answer to turn k of a run adds: none where it was cut
abbrev pub turn_entries : ℕ → ℕ → Answer → List Entry
turn_entries run k answer = map (λ given. Gave run k given) (option_to_list (given_of answer))
