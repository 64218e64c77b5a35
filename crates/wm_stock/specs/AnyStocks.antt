-- The stock workers as one type: in which order they stand, and their kinds and names.
use Rattle.std.specs.Prelude.{ℕ, List, [], ◌∷◌, codes}
use Rattle.wm_stock.specs.declared.any_stock.AnyStock.{AnyStock}
use Rattle.wm_stock.specs.declared.any_stock.AnyStock.TheVariants as stock
use Rattle.wm_worker.specs.declared.kind.Kind.{Kind}
use Rattle.wm_worker.specs.declared.kind.Kind.TheVariants as kind

-- one of each kind, in order
abbrev pub stocks : List AnyStock
stocks = stock.Echo ∷ stock.Sum ∷ stock.FailUntil ∷ stock.RetryUntil ∷ stock.Count ∷ stock.Wait ∷ []

abbrev pub stock_kind : AnyStock → Kind
stock_kind stock.Echo = kind.Echo
stock_kind stock.Sum = kind.Sum
stock_kind stock.FailUntil = kind.FailUntil
stock_kind stock.RetryUntil = kind.RetryUntil
stock_kind stock.Count = kind.Count
stock_kind stock.Wait = kind.Wait

abbrev pub stock_name : AnyStock → List ℕ
stock_name stock.Echo = codes "Echo"
stock_name stock.Sum = codes "Sum"
stock_name stock.FailUntil = codes "FailUntil"
stock_name stock.RetryUntil = codes "RetryUntil"
stock_name stock.Count = codes "Count"
stock_name stock.Wait = codes "Wait"
