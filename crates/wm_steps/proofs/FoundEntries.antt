-- What an index finds among the entries of records is what stands among the records.
use Rattle.std.proofs.Common.{◌≡◌, ℕ, Bool, List, [], ◌∷◌, filter, Some, option_map, refl, ◌∙◌, ap, inl, inr}
use Rattle.std.specs.Str.{bytes_eq}
use Rattle.std.proofs.lemmas.Bool.{cases_Bool}
use Rattle.wm_index.specs.Entries.{by_id, by_name, by_tag, is_id, is_name, numbers_of, Entry}
use Rattle.wm_index.specs.Entries as index
use Rattle.wm_machine.specs.Cancelled.{work_with_id}
use Rattle.wm_machine.specs.Group.{members_of, numbers_in}
use Rattle.wm_machine.specs.Queried.{has_tag}
use Rattle.wm_machine.specs.declared.record.Record.{Record}
use Rattle.wm_steps.specs.Entries.{AreEntriesOf, IsEntryOf}

pub id-found : (works : List Record) (entries : List Entry) (id : List ℕ) → AreEntriesOf works entries
    → by_id entries id ≡ option_map (λ (work : Record). work.seq) (work_with_id works id)
id-found [] [] id are = refl
id-found [] (entry ∷ entries) id are = absurd are
id-found (work ∷ works) [] id are = absurd are
id-found (work ∷ works) (entry ∷ entries) id are =
    let rest = id-found works entries id are.1 in
    let same : is_id id entry.id ≡ bytes_eq work.request.id id = ap (is_id id) are.0.id in
    elim (cases_Bool (bytes_eq work.request.id id)) as (λ _. by_id (entry ∷ entries) id ≡ option_map (λ (w : Record). w.seq) (work_with_id (work ∷ works) id)) [
      | inl is ↦ (let here = same ∙ is in rw (is, here) (ap (λ n. Some n) are.0.seq))
      | inr isnt ↦ (let other = same ∙ isnt in rw (isnt, other) rest)
    ]

-- the numbers of the entries that pass a test are those of the records that pass another, where the two tests agree
found-numbers : (test : Entry → Bool) (on : Record → Bool) (works : List Record) (entries : List Entry)
    → ((work : Record) (entry : Entry) → IsEntryOf work entry → test entry ≡ on work) → AreEntriesOf works entries
    → numbers_of (filter test entries) ≡ numbers_in (filter on works)
found-numbers test on [] [] agree are = refl
found-numbers test on [] (entry ∷ entries) agree are = absurd are
found-numbers test on (work ∷ works) [] agree are = absurd are
found-numbers test on (work ∷ works) (entry ∷ entries) agree are =
    let rest = found-numbers test on works entries agree are.1 in
    let same = agree work entry are.0 in
    elim (cases_Bool (on work)) as (λ _. numbers_of (filter test (entry ∷ entries)) ≡ numbers_in (filter on (work ∷ works))) [
      | inl is ↦
          (let here = same ∙ is in
          rw (is, here) (ap (λ n. n ∷ numbers_of (filter test entries)) are.0.seq ∙ ap (λ numbers. work.seq ∷ numbers) rest))
      | inr isnt ↦ (let other = same ∙ isnt in rw (isnt, other) rest)
    ]

pub names-found : (works : List Record) (entries : List Entry) (name : List ℕ) → AreEntriesOf works entries
    → by_name entries name ≡ numbers_in (members_of works name)
names-found works entries name are =
    found-numbers (λ (entry : Entry). is_name name entry.name) (λ (work : Record). is_name name work.name) works entries
    (λ work entry is. ap (is_name name) is.name) are

pub tags-found : (works : List Record) (entries : List Entry) (tag : List ℕ) → AreEntriesOf works entries
    → by_tag entries tag ≡ numbers_in (filter (λ work. has_tag work.request.tags tag) works)
tags-found works entries tag are =
    found-numbers (λ (entry : Entry). index.has_tag entry.tags tag) (λ (work : Record). has_tag work.request.tags tag) works entries
    (λ work entry is. is.tags tag) are
