use Rattle.std.proofs.Common.{◌≡◌, ℕ, ◌+◌, ◌-◌, List, ◌++◌, length, Some, take, drop, ap, sym}
use Rattle.std.proofs.lemmas.List.{drop-drop, take-append-drop, take_rest}
use Rattle.wm_io.proofs.memory.MemorySourceSource.read.Goals as goal

-- the rest of the bytes is what was taken from its front, and then what is left behind that
rest-is : (bytes slice rest taken : List ℕ) (given count : ℕ) → drop given bytes ≡ rest → slice ≡ bytes
    → taken ≡ take count (take (length slice - given) (drop given slice)) → rest ≡ taken ++ drop (given + count) bytes
rest-is bytes slice rest taken given count is_rest same front =
    rw (← is_rest, front, same, take_rest, ← drop-drop count given bytes) (sym (take-append-drop count (drop given bytes)))

pub returns-clause-bytes : goal.returns-clause-bytes
returns-clause-bytes c =
    let left = ap (λ source. source.left) c.self.view_is in
    ap Some (rest-is _ _ _ _ _ _ left c.deref.ensures.value c.copy_front.ensures.front)
