-- What workers answer: the one answer of each stock kind, and what any worker may answer. Numbers are whole numbers. A sum is a Long's number
-- wherever the input is within the size of Data; elsewhere a Sum has no answer that a program could make.
use Rattle.std.specs.Prelude.{◌≡◌, ℕ, ℤ, pos, ◌+◌, ◌+ℤ◌, int_le, int_lt, Bool, List, [], ◌∷◌, map, fold, codes, Option, Some, None, unwrap_or, option_and_then, IfSome, if◌then◌else◌}
use Rattle.wm_data.specs.Entries.{value_at}
use Rattle.wm_data.specs.Size.{IsData}
use Rattle.wm_data.specs.declared.data.DataEntry.{DataEntry}
use Rattle.wm_data.specs.declared.value.Value.{Value}
use Rattle.wm_data.specs.declared.value.Value.TheVariants as value
use Rattle.wm_worker.specs.declared.answer.Answer.{Answer}
use Rattle.wm_worker.specs.declared.answer.Answer.TheVariants as answer
use Rattle.wm_worker.specs.declared.answer.Given.{Given}
use Rattle.wm_worker.specs.declared.answer.Given.TheVariants as given
use Rattle.wm_worker.specs.declared.kind.Kind.{Kind}
use Rattle.wm_worker.specs.declared.kind.Kind.TheVariants as kind
use Rattle.wm_worker.specs.declared.task.Task.{Task}

-- the number of an Int
abbrev pub number_of : Value → Option ℤ
number_of (value.Int n) = Some n
number_of _ = None

-- the number under a key that holds an Int
abbrev pub int_of : List DataEntry → List ℕ → Option ℤ
int_of input key = option_and_then number_of (value_at key input)

abbrev pub total : List ℤ → ℤ
total ns = fold ◌+ℤ◌ (pos 0) ns

-- what a value adds to a sum: an Int its number, an Ints the sum of its numbers
abbrev pub summand : Value → ℤ
summand (value.Int n) = n
summand (value.Ints ns) = total ns
summand _ = pos 0

-- the sum of all Int values and of all elements of Ints values
abbrev pub sum_of : List DataEntry → ℤ
sum_of input = total (map (λ entry. summand entry.value) input)

-- the attempt from which on a work succeeds: `until`, 2 where it is absent
abbrev pub until_of : List DataEntry → ℤ
until_of input = unwrap_or (int_of input (codes "until")) (pos 2)

-- the attempt is that one, or a later one
abbrev pub has_reached : List DataEntry → ℕ → Bool
has_reached input attempt = int_le (until_of input) (pos attempt)

abbrev pub at_least_one : ℤ → ℤ
at_least_one n = if int_lt n (pos 1) then pos 1 else n

-- how many turns there are to count: `turns`, 1 where it is absent or below 1
abbrev pub turns_of : List DataEntry → ℤ
turns_of input = at_least_one (unwrap_or (int_of input (codes "turns")) (pos 1))

-- Data with one entry
abbrev pub entry_alone : List ℕ → Value → List DataEntry
entry_alone key content = record { key = key; value = content } ∷ []

-- what a worker of a stock kind gives for this input in turn k of this attempt; none for Custom
abbrev pub stock_answer : Kind → List DataEntry → ℕ → ℕ → Option Given
stock_answer kind.Echo input attempt k = Some (given.Success input)
stock_answer kind.Sum input attempt k = Some (given.Success (entry_alone (codes "sum") (value.Long (sum_of input))))
stock_answer kind.FailUntil input attempt k = Some (if has_reached input attempt then given.Success input else given.Failure [])
stock_answer kind.RetryUntil input attempt k = Some (if has_reached input attempt then given.Success input else given.Retry)
stock_answer kind.Count input attempt k =
    Some (if int_lt (pos (k + 1)) (turns_of input)
    then given.More (Some (entry_alone (codes "turn") (value.Int (pos (k + 1)))))
    else given.Success (entry_alone (codes "turns") (value.Int (turns_of input))))
stock_answer kind.Wait input attempt k = Some (given.More None)
stock_answer kind.Custom input attempt k = None

-- what is given is Data
abbrev pub GivesData : Given → Type 0
GivesData (given.More progress) = IfSome progress IsData
GivesData (given.Success output) = IsData output
GivesData (given.Failure output) = IsData output
GivesData given.Retry = Unit {0}

-- the stock answer is given, and where there is none any Data
abbrev pub IsGivenFor : Option Given → Given → Type 0
IsGivenFor (Some stock) given = given ≡ stock
IsGivenFor None given = GivesData given

-- a worker of this kind may give this: the stock answer, and Custom any Data
abbrev pub MayGive : Kind → List DataEntry → ℕ → ℕ → Given → Type 0
MayGive kind input attempt k given = IsGivenFor (stock_answer kind input attempt k) given

-- what an answer gives; nothing where it was cut
abbrev pub given_of : Answer → Option Given
given_of (answer.More progress) = Some (given.More progress)
given_of (answer.Success output) = Some (given.Success output)
given_of (answer.Failure output) = Some (given.Failure output)
given_of answer.Retry = Some given.Retry
given_of (answer.Cut raised) = None

-- a worker of this kind may answer so in turn k of the task; Cut names the task's own run
abbrev pub MayAnswer : Kind → Task → ℕ → Answer → Type 0
MayAnswer kind task k (answer.More progress) = MayGive kind task.input task.attempt k (given.More progress)
MayAnswer kind task k (answer.Success output) = MayGive kind task.input task.attempt k (given.Success output)
MayAnswer kind task k (answer.Failure output) = MayGive kind task.input task.attempt k (given.Failure output)
MayAnswer kind task k answer.Retry = MayGive kind task.input task.attempt k given.Retry
MayAnswer kind task k (answer.Cut raised) = raised ≡ task.run
