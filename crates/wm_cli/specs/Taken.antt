-- What a worker has written down of its run once it has made ready for it.
use Rattle.std.specs.Prelude.{ℕ, Bool, true, false, List, [], ◌∷◌, Option}
use Rattle.wm_worker.specs.Diary.{diary_with}
use Rattle.wm_worker.specs.declared.answer.Entry.{Entry}
use Rattle.wm_worker.specs.declared.answer.Entry.TheVariants.{Begun}

-- the diary of a worker that has made ready for its run: as it was, where it had before
abbrev pub diary_begun : Bool → ℕ → Option (List Entry) → Option (List Entry)
diary_begun true run diary = diary
diary_begun false run diary = diary_with (Begun run ∷ []) diary
