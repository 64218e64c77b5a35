-- What is found by an id, among works of different ids in ascending number.
use Rattle.std.proofs.Common.{◌≡◌, ◌&&◌, ℕ, Bool, true, false, cond, List, [], ◌∷◌, filter, not, Option, Some, None, refl, sym, ◌∙◌, ap, subst, inl, inr}
use Rattle.std.specs.List.{AllByRecursion}
use Rattle.std.specs.Option.{is_some}
use Rattle.std.specs.Str.{bytes_eq}
use Rattle.std.proofs.lemmas.Bool.{cases_Bool}
use Rattle.wm_collections.specs.Lists.{AllLater, is_among}
use Rattle.wm_commands.specs.Cleared.{stays}
use Rattle.wm_machine.specs.Cancelled.{is_stored}
use Rattle.wm_machine.specs.Group.{numbers_in}
use Rattle.wm_machine.specs.Plan.{is_unfinished}
use Rattle.wm_machine.specs.Valid.{IsBefore}
use Rattle.wm_machine.specs.declared.record.Record.{Record}
use Rattle.wm_steps.proofs.IdNumbers.{has_id, id-none, id-number, number_with_id}
use Rattle.wm_unique.proofs.Numbered.{filter_both, grouped_filter, numbers_filter, numbers_passing}
use Rattle.wm_unique.specs.Plans.{grouped, AreNumbersOf}

-- an id is stored where a number is found by it
pub stored-found : (works : List Record) (id : List ℕ) → is_some (number_with_id works id) ≡ is_stored works id
stored-found [] id = refl
stored-found (work ∷ works) id =
    elim (cases_Bool (bytes_eq work.request.id id)) as (λ _. is_some (number_with_id (work ∷ works) id) ≡ is_stored (work ∷ works) id) [
      | inl is ↦ rw is refl
      | inr isnt ↦ rw isnt (stored-found works id)
    ]

-- ---- the works of a target

-- the unfinished ones of those that pass a test
pub open-found : (test : Record → Bool) (works : List Record) (numbers : List ℕ) → AllLater IsBefore works → numbers ≡ numbers_in (filter test works)
    → numbers_in (filter is_unfinished (grouped works numbers)) ≡ numbers_in (filter (λ work. is_unfinished work && test work) works)
open-found test works numbers order are =
    ap (λ ns. numbers_in (filter is_unfinished (grouped works ns))) are
    ∙ ap (λ (members : List Record). numbers_in (filter is_unfinished members)) (grouped_filter test works order)
    ∙ ap numbers_in (filter_both test is_unfinished works)
    ∙ ap numbers_in (swapped works) where
      swap : (a b : Bool) → (a && b) ≡ (b && a)
      swap true true = refl
      swap true false = refl
      swap false true = refl
      swap false false = refl

      swapped : (works : List Record) → filter (λ work. test work && is_unfinished work) works ≡ filter (λ work. is_unfinished work && test work) works
      swapped [] = refl
      swapped (work ∷ works) =
          ap (λ b. cond b (work ∷ filter (λ work. test work && is_unfinished work) works) (filter (λ work. test work && is_unfinished work) works))
          (swap (test work) (is_unfinished work))
          ∙ ap (λ (rest : List Record). cond (is_unfinished work && test work) (work ∷ rest) rest) (swapped works)

pub are-numbers : (test : Record → Bool) (works : List Record) (numbers : List ℕ) → AllLater IsBefore works → numbers ≡ numbers_in (filter test works)
    → AreNumbersOf works numbers
are-numbers test works numbers order are = subst (AreNumbersOf works) (sym are) (numbers_filter test works order)

abbrev pub numbers_of_id : Option ℕ → List ℕ
numbers_of_id None = []
numbers_of_id (Some number) = number ∷ []

-- no two works have one id
found-numbers : (works : List Record) (id : List ℕ) (found : Option ℕ) → AllLater IsBefore works → found ≡ number_with_id works id
    → numbers_of_id found ≡ numbers_in (filter (has_id id) works)
found-numbers works id None order none = id-none works id order none
found-numbers works id (Some number) order is = id-number works id number order is

-- those of an id that stay
pub id-stays : (works : List Record) (removed id : List ℕ) → AllLater IsBefore works
    → filter (λ number. not (is_among removed number)) (numbers_of_id (number_with_id works id))
    ≡ numbers_in (filter (λ work. bytes_eq work.request.id id && stays removed work) works)
id-stays works removed id order =
    ap (filter (λ number. not (is_among removed number))) (found-numbers works id (number_with_id works id) order refl)
    ∙ numbers_passing (λ number. not (is_among removed number)) (filter (has_id id) works) ∙ ap numbers_in (filter_both (has_id id) (stays removed) works)
