-- What workers may give: it is Data, and there always is something.
use Rattle.std.proofs.Common.{◌≡◌, ℕ, ◌+◌, pos, ◌≤◌, Bool, cond, List, [], length, codes, Option, Some, None, refl, sym, subst, arith}
use Rattle.std.specs.Prelude.{int_lt}
use Rattle.std.proofs.lemmas.Bool.{cond_both}
use Rattle.std.proofs.lemmas.List.Sums.{sum_by-cons}
use Rattle.wm_data.specs.InType.{IsInType}
use Rattle.wm_data.specs.Size.{entry_size, payload, size_of, IsData}
use Rattle.wm_data.specs.declared.data.DataEntry.{DataEntry}
use Rattle.wm_data.specs.declared.value.Value.{Value}
use Rattle.wm_data.specs.declared.value.Value.TheVariants as value
use Rattle.wm_worker.proofs.Totals.{below_in_type, sum_in_type, turns_in_type}
use Rattle.wm_worker.specs.Answers.{entry_alone, has_reached, stock_answer, sum_of, turns_of, GivesData, IsGivenFor, MayGive}
use Rattle.wm_worker.specs.declared.answer.Given.{Given}
use Rattle.wm_worker.specs.declared.answer.Given.TheVariants as given
use Rattle.wm_worker.specs.declared.kind.Kind.{Kind}
use Rattle.wm_worker.specs.declared.kind.Kind.TheVariants as kind

-- no entry is Data
IsData-empty : IsData []
IsData-empty = record { ascending = tt; named = tt; in_type = tt; size = omega arith }

-- one small entry is Data
IsData-alone : (key : List ℕ) (content : Value) → 1 ≤ length key → length key ≤ 100 → payload content ≤ 8 → IsInType content → IsData (entry_alone key content)
IsData-alone key content named short small is =
    let entry : DataEntry = record { key = key; value = content } in
    let size : size_of (entry_alone key content) ≤ 10240 = rw (sum_by-cons entry_size entry []) (omega (arith, named, short, small)) in
    record { ascending = (tt, tt); named = (named, tt); in_type = (is, tt); size = size }

-- ---- what a stock worker gives is Data

reached_gives : (has : Bool) (input : List DataEntry) (other : Given) → IsData input → GivesData other → GivesData (cond has (given.Success input) other)
reached_gives has input other taken is = cond_both has (given.Success input) other GivesData (λ e. taken) (λ e. is)

stock_gives : (kind : Kind) (input : List DataEntry) (attempt k : ℕ) (stock : Given) → IsData input → stock_answer kind input attempt k ≡ Some stock
    → GivesData stock
stock_gives kind.Echo input attempt k stock taken is = let same : given.Success input ≡ stock = cc in subst GivesData same taken
stock_gives kind.Sum input attempt k stock taken is =
    let content : Value = value.Long (sum_of input) in
    let same : given.Success (entry_alone (codes "sum") content) ≡ stock = cc in
    subst GivesData same (IsData-alone (codes "sum") content (omega arith) (omega arith) (omega arith) (sum_in_type input taken.size taken.in_type))
stock_gives kind.FailUntil input attempt k stock taken is =
    let same : cond (has_reached input attempt) (given.Success input) (given.Failure []) ≡ stock = cc in
    subst GivesData same (reached_gives (has_reached input attempt) input (given.Failure []) taken IsData-empty)
stock_gives kind.RetryUntil input attempt k stock taken is =
    let same : cond (has_reached input attempt) (given.Success input) given.Retry ≡ stock = cc in
    subst GivesData same (reached_gives (has_reached input attempt) input given.Retry taken tt)
stock_gives kind.Count input attempt k stock taken is =
    let told : Given = given.More (Some (entry_alone (codes "turn") (value.Int (pos (k + 1))))) in
    let done : Given = given.Success (entry_alone (codes "turns") (value.Int (turns_of input))) in
    let more = int_lt (pos (k + 1)) (turns_of input) in
    let turns = turns_in_type input taken.in_type in
    let same : cond more told done ≡ stock = cc in
    subst GivesData same (cond_both more told done GivesData
    (λ e. IsData-alone (codes "turn") (value.Int (pos (k + 1))) (omega arith) (omega arith) (omega arith) (below_in_type (k + 1) (turns_of input) e turns))
    (λ e. IsData-alone (codes "turns") (value.Int (turns_of input)) (omega arith) (omega arith) (omega arith) turns))
stock_gives kind.Wait input attempt k stock taken is = let same : given.More None ≡ stock = cc in subst GivesData same tt
stock_gives kind.Custom input attempt k stock taken is = absurd (cc)

gives_by : (answer : Option Given) (gave : Given) → ((stock : Given) → answer ≡ Some stock → GivesData stock) → IsGivenFor answer gave → GivesData gave
gives_by None gave stock is = is
gives_by (Some one) gave stock is = subst GivesData (sym is) (stock one refl)

-- what a worker gives is Data, where what it took is
pub gives_data : (kind : Kind) (input : List DataEntry) (attempt k : ℕ) (gave : Given) → IsData input → MayGive kind input attempt k gave → GivesData gave
gives_data kind input attempt k gave taken may =
    gives_by (stock_answer kind input attempt k) gave (λ stock is. stock_gives kind input attempt k stock taken is) may

-- ---- something may be given

-- a worker of this kind may give this in such a turn
pub record Gives (kind : Kind) (input : List DataEntry) (attempt k : ℕ) : Type 0 where
  pub gave : Given
  pub may_give : MayGive kind input attempt k gave

gives_some : (kind : Kind) (input : List DataEntry) (attempt k : ℕ) (answer : Option Given) → stock_answer kind input attempt k ≡ answer
    → Gives kind input attempt k
gives_some kind input attempt k None is = record { gave = given.Retry; may_give = subst (λ answer. IsGivenFor answer given.Retry) (sym is) tt }
gives_some kind input attempt k (Some stock) is = record { gave = stock; may_give = subst (λ answer. IsGivenFor answer stock) (sym is) refl }

-- a worker has something to give in each turn
pub has_given : (kind : Kind) (input : List DataEntry) (attempt k : ℕ) → Gives kind input attempt k
has_given kind input attempt k = gives_some kind input attempt k (stock_answer kind input attempt k) refl
