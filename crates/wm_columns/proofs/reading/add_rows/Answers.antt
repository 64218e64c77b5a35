use Rattle.sqlite_trees.specs.View.{is_int}
use Rattle.sqlite_value.specs.Order.{column}
use Rattle.std.proofs.Common.{◌≡◌, ℕ, ◌+◌, ◌<◌, IsTrue, List, [], ◌∷◌, ◌++◌, length, get_or, map, take, sym, arith}
use Rattle.std.proofs.lemmas.Grind.{common_steps}
use Rattle.std.proofs.lemmas.List.{take_more}
use Rattle.std.specs.List.{AllByRecursion}
use Rattle.wm_collections.proofs.Lists.{All-push}
use Rattle.wm_columns.specs.Values.{row_of}
use Rattle.wm_columns.proofs.reading.add_rows.Goals as goal

-- one more that is made of the next
made_more : {S T : Type 0} (f : S → T) (given : List S) (i : ℕ) (x : S) (first made new : List T) (y : T) → i < length given → x ≡ get_or given i x
    → made ≡ first ++ map f (take i given) → y ≡ f x → new ≡ made ++ y ∷ [] → new ≡ first ++ map f (take (i + 1) given)
made_more f given i x first made new y within at so_far is added = grind (arith, common_steps)

-- one more of which it holds
All-next : {S : Type 0} (P : S → Type 0) (given : List S) (i : ℕ) (x : S) → i < length given → x ≡ get_or given i x
    → AllByRecursion P (take i given) → P x → AllByRecursion P (take (i + 1) given)
All-next P given i x within at all is = rw (take_more given i x within, sym at) (All-push P (take i given) x all is)

pub loop-row-preserved : goal.loop-row-preserved
loop-row-preserved c =
    let all = c.args.shown.now in
    let i = c.loop-row.row-index in
    let x = c.row-item.result in
    let within = c.loop-row-test.true in
    let at = c.row-item.is in
    let so_far = c.loop-row.invariant in
    let read = c.in_ok-row_of.ensures in (
      made_more row_of all i x _ _ _ _ within at so_far.0 read.row c.in_ok-push.ensures.items,
      All-next (λ r. IsTrue (is_int (column r 1))) all i x within at so_far.1 read.numbered,
    )
