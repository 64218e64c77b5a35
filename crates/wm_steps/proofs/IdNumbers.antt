-- The number of the work of an id, among works of different ids.
use Rattle.std.proofs.Common.{◌≡◌, ℕ, Bool, true, false, List, [], ◌∷◌, filter, Option, Some, None, option_map, refl, sym, ◌∙◌, ap, inl, inr}
use Rattle.std.specs.List.{AllByRecursion}
use Rattle.std.specs.Str.{bytes_eq}
use Rattle.std.proofs.lemmas.Bool.{cases_Bool}
use Rattle.std.proofs.lemmas.Slice.Eq.{bytes_eq-Decides}
use Rattle.wm_collections.specs.Lists.{AllLater}
use Rattle.wm_machine.specs.Cancelled.{work_with_id}
use Rattle.wm_machine.specs.Group.{numbers_in}
use Rattle.wm_machine.specs.Valid.{IsBefore}
use Rattle.wm_machine.specs.declared.record.Record.{Record}

abbrev pub number_with_id : List Record → List ℕ → Option ℕ
number_with_id works id = option_map (λ (work : Record). work.seq) (work_with_id works id)

abbrev pub has_id : List ℕ → Record → Bool
has_id id work = bytes_eq work.request.id id

other_ids : (id : List ℕ) (work : Record) (works : List Record) → bytes_eq work.request.id id ≡ true → AllByRecursion (IsBefore work) works
    → filter (has_id id) works ≡ []
other_ids id work [] is order = refl
other_ids id work (later ∷ works) is order =
    let differs : bytes_eq later.request.id id ≡ false = elim (cases_Bool (bytes_eq later.request.id id)) as (λ _. bytes_eq later.request.id id ≡ false) [
      | inl also ↦ absurd (order.0.id ((bytes_eq-Decides work.request.id id).0 is ∙ sym ((bytes_eq-Decides later.request.id id).0 also)))
      | inr isnt ↦ isnt
    ] in
    rw differs (other_ids id work works is order.1)

abbrev numbers_of_id : Option ℕ → List ℕ
numbers_of_id None = []
numbers_of_id (Some number) = number ∷ []

-- no two works have one id
pub id-numbers : (works : List Record) (id : List ℕ) → AllLater IsBefore works → numbers_of_id (number_with_id works id) ≡ numbers_in (filter (has_id id) works)
id-numbers [] id order = refl
id-numbers (work ∷ works) id order =
    elim (cases_Bool (bytes_eq work.request.id id)) as (λ _. numbers_of_id (number_with_id (work ∷ works) id) ≡ numbers_in (filter (has_id id) (work ∷ works))) [
      | inl is ↦ rw is (ap (λ (rest : List Record). work.seq ∷ numbers_in rest) (sym (other_ids id work works is order.0)))
      | inr isnt ↦ rw isnt (id-numbers works id order.1)
    ]

pub id-number : (works : List Record) (id : List ℕ) (number : ℕ) → AllLater IsBefore works → Some number ≡ number_with_id works id
    → number ∷ [] ≡ numbers_in (filter (has_id id) works)
id-number works id number order found = ap numbers_of_id found ∙ id-numbers works id order

pub id-none : (works : List Record) (id : List ℕ) → AllLater IsBefore works → None ≡ number_with_id works id → [] ≡ numbers_in (filter (has_id id) works)
id-none works id order none = ap numbers_of_id none ∙ id-numbers works id order
