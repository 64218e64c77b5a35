-- What is told of works that are found by their numbers is what is told of all that a query asks for.
use Rattle.std.proofs.Common.{◌≡◌, ℕ, ◌+◌, ◌<◌, ◌==◌, ◌&&◌, Bool, true, false, cond, List, [], ◌∷◌, ◌++◌, filter, get_or, length, map, take, Some, None, option_map, refl, sym, ◌∙◌, ap, arith, inl, inr}
use Rattle.std.specs.List.{cons_option, list_any, AllByRecursion}
use Rattle.std.specs.Str.{bytes_eq}
use Rattle.std.proofs.lemmas.Bool.{and_parts, cases_Bool, eq-eqb, ne_eqb}
use Rattle.std.proofs.lemmas.List.{append-nil, map-append, take_more}
use Rattle.std.proofs.lemmas.List.Elements.{filter-append, filter_map-append}
use Rattle.wm_collections.specs.Lists.{AllLater}
use Rattle.wm_collections.proofs.Lists.{All-any, All-kept, All-with2, list_any-agree, map-filter}
use Rattle.wm_machine.proofs.Runnings.{WorksAscend, WorksAscend-in_order}
use Rattle.wm_machine.specs.Group.{is_name, numbers_in}
use Rattle.wm_machine.specs.Input.{work_numbered}
use Rattle.wm_machine.specs.Queried.{answer_to, any_or_empty, has_tag, is_state, matches}
use Rattle.wm_machine.specs.Shown.{info_of, infos_of}
use Rattle.wm_machine.specs.Valid.{IsBefore}
use Rattle.wm_machine.specs.declared.record.Record.{Record}
use Rattle.wm_machine.specs.declared.reply.WorkInfo.{WorkInfo}
use Rattle.wm_machine.specs.declared.state.State.{State}
use Rattle.wm_machine.specs.declared.state.WorkQuery.{WorkQuery}
use Rattle.wm_query.proofs.Groups.{any_of_group}
use Rattle.wm_request.specs.Batches.{has_id}
use Rattle.wm_settings.specs.Told.{infos_numbered, IsThere}
use Rattle.wm_settings.proofs.FoundNumbers.{bytes-swap}

-- ---- each work is found by its number

there-first : (work : Record) (works : List Record) → IsThere (work ∷ works) work
there-first work works = let hit = eq-eqb work.seq work.seq refl in rw hit refl

there-later : (work later : Record) (works : List Record) → work.seq < later.seq → IsThere works later → IsThere (work ∷ works) later
there-later work later works below there = let miss = ne_eqb work.seq later.seq (λ e. absurd (omega arith)) in rw miss there

there-each : (works : List Record) → WorksAscend works → AllByRecursion (IsThere works) works
there-each [] ascend = tt
there-each (work ∷ works) ascend = (
  there-first work works,
  All-with2 works (λ later below there. there-later work later works below there) ascend.0 (there-each works ascend.1),
)

pub all-there : (works all : List Record) → works ≡ all → AllLater IsBefore all → AllByRecursion (IsThere all) works
all-there works all same order = rw same (there-each all (WorksAscend-in_order all order))

-- so what is told of the works by their numbers is told of each
infos-found : (works members : List Record) → AllByRecursion (IsThere works) members → infos_numbered works (numbers_in members) ≡ map (info_of works) members
infos-found works [] there = refl
infos-found works (member ∷ members) there =
    ap (λ found. cons_option (option_map (info_of works) found) (infos_numbered works (numbers_in members))) there.0
    ∙ ap (λ rest. info_of works member ∷ rest) (infos-found works members there.1)

-- ---- one more

pub told-more : (test : WorkInfo → Bool) (tell : Record → WorkInfo) (works : List Record) (i : ℕ) (work : Record) (old new : List WorkInfo)
    → i < length works → work ≡ get_or works i work → new ≡ old ++ filter test (tell work ∷ []) → old ≡ filter test (map tell (take i works))
    → new ≡ filter test (map tell (take (i + 1) works))
told-more test tell works i work old new within is added so_far =
    added ∙ ap (λ told. told ++ filter test (tell work ∷ [])) so_far
    ∙ sym (filter-append test (map tell (take i works)) (tell work ∷ []))
    ∙ ap (filter test) (sym (map-append tell (take i works) (work ∷ [])))
    ∙ ap (λ seen. filter test (map tell seen)) (ap (λ one. take i works ++ one ∷ []) is ∙ sym (take_more works i work within))

pub numbered-more : (test : WorkInfo → Bool) (works : List Record) (numbers : List ℕ) (i : ℕ) (old new : List WorkInfo) → i < length numbers
    → new ≡ old ++ filter test (infos_numbered works (get_or numbers i 0 ∷ [])) → old ≡ filter test (infos_numbered works (take i numbers))
    → new ≡ filter test (infos_numbered works (take (i + 1) numbers))
numbered-more test works numbers i old new within added so_far =
    let number = get_or numbers i 0 in
    added ∙ ap (λ told. told ++ filter test (infos_numbered works (number ∷ []))) so_far
    ∙ sym (filter-append test (infos_numbered works (take i numbers)) (infos_numbered works (number ∷ [])))
    ∙ ap (filter test) (sym (filter_map-append (λ seq. option_map (info_of works) (work_numbered seq works)) (take i numbers) (number ∷ [])))
    ∙ ap (λ seen. filter test (infos_numbered works seen)) (sym (take_more numbers i 0 within))

-- a number that a work has, and one that none has
pub numbered-some : (test : WorkInfo → Bool) (works : List Record) (number : ℕ) (work : Record) (old new : List WorkInfo)
    → Some work ≡ work_numbered number works → new ≡ old ++ filter test (info_of works work ∷ [])
    → new ≡ old ++ filter test (infos_numbered works (number ∷ []))
numbered-some test works number work old new found is = is ∙ ap (λ one. old ++ filter test (cons_option (option_map (info_of works) one) [])) found

pub numbered-none : (test : WorkInfo → Bool) (works : List Record) (number : ℕ) (told : List WorkInfo) → None ≡ work_numbered number works
    → told ≡ told ++ filter test (infos_numbered works (number ∷ []))
numbered-none test works number told none =
    sym (append-nil told) ∙ ap (λ one. told ++ filter test (cons_option (option_map (info_of works) one) [])) none

-- ---- all that a query asks for are among those that are looked at

no-pass : (passes covered : Bool) → (passes ≡ true → covered ≡ true) → covered ≡ false → passes ≡ false
no-pass true true covers isnt = isnt
no-pass true false covers isnt = sym (covers refl)
no-pass false covered covers isnt = refl

filter-covered : {T : Type 0} (covered test : T → Bool) (xs : List T) → ((x : T) → test x ≡ true → covered x ≡ true)
    → filter test (filter covered xs) ≡ filter test xs
filter-covered covered test [] covers = refl
filter-covered covered test (x ∷ xs) covers =
    let rest = filter-covered covered test xs covers in
    elim (cases_Bool (covered x)) as (λ _. filter test (filter covered (x ∷ xs)) ≡ filter test (x ∷ xs)) [
      | inl is ↦ rw is (ap (λ list. cond (test x) (x ∷ list) list) rest)
      | inr isnt ↦ (let fails = no-pass (test x) (covered x) (covers x) isnt in rw (isnt, fails) rest)
    ]

-- what is told of the works of these numbers is what a query asks for, where each that it asks for is one of them
pub answered : (s : State) (query : WorkQuery) (covered : Record → Bool) (numbers : List ℕ) (told : List WorkInfo) → AllLater IsBefore s.works
    → numbers ≡ numbers_in (filter covered s.works) → ((work : Record) → matches query (info_of s.works work) ≡ true → covered work ≡ true)
    → told ≡ filter (matches query) (infos_numbered s.works numbers) → told ≡ answer_to s query
unfolding infos_of
answered s query covered numbers told order are covers is =
    let tell = info_of s.works in
    is ∙ ap (λ ns. filter (matches query) (infos_numbered s.works ns)) are
    ∙ ap (filter (matches query)) (infos-found s.works (filter covered s.works)
    (All-kept (IsThere s.works) covered s.works (there-each s.works (WorksAscend-in_order s.works order))))
    ∙ sym (map-filter tell (matches query) (filter covered s.works))
    ∙ ap (map tell) (filter-covered covered (λ work. matches query (tell work)) s.works covers)
    ∙ map-filter tell (matches query) s.works

-- and so where all are looked at
pub answered-all : (s : State) (query : WorkQuery) (works : List Record) (told : List WorkInfo) → works ≡ s.works
    → told ≡ filter (matches query) (map (info_of s.works) works) → told ≡ answer_to s query
unfolding infos_of
answered-all s query works told same is = is ∙ ap (λ all. filter (matches query) (map (info_of s.works) all)) same

-- ---- what a query names

record HasAsked (query : WorkQuery) (info : WorkInfo) : Type 0 where
  pub id : any_or_empty (λ id. bytes_eq info.id id) query.ids ≡ true
  pub name : any_or_empty (λ name. is_name name info.name) query.names ≡ true
  pub tag : any_or_empty (has_tag info.tags) query.tags ≡ true

has-asked : (query : WorkQuery) (info : WorkInfo) → matches query info ≡ true → HasAsked query info
unfolding matches
has-asked query info is =
    let id = any_or_empty (λ id. bytes_eq info.id id) query.ids in
    let name = any_or_empty (λ name. is_name name info.name) query.names in
    let state = any_or_empty (is_state info.state) query.states in
    let tag = any_or_empty (has_tag info.tags) query.tags in
    let last = and_parts (id && name && state) tag is in
    let third = and_parts (id && name) state last.0 in
    let two = and_parts id name third.0 in
    record { id = two.0; name = two.1; tag = last.1 }

pub covers-ids : (query : WorkQuery) (works : List Record) → (length query.ids == 0) ≡ false
    → (work : Record) → matches query (info_of works work) ≡ true → has_id query.ids work.request.id ≡ true
covers-ids query works some work is =
    list_any-agree (λ one. bytes_eq one work.request.id) (λ one. bytes_eq work.request.id one) query.ids
    (All-any query.ids (λ one. bytes-swap one work.request.id))
    ∙ any_of_group (λ one. bytes_eq work.request.id one) query.ids some ∙ (has-asked query (info_of works work) is).id

pub covers-names : (query : WorkQuery) (works : List Record) → (length query.names == 0) ≡ false
    → (work : Record) → matches query (info_of works work) ≡ true → list_any (λ name. is_name name work.name) query.names ≡ true
covers-names query works some work is =
    any_of_group (λ name. is_name name work.name) query.names some ∙ (has-asked query (info_of works work) is).name

pub covers-tags : (query : WorkQuery) (works : List Record) → (length query.tags == 0) ≡ false
    → (work : Record) → matches query (info_of works work) ≡ true → list_any (has_tag work.request.tags) query.tags ≡ true
covers-tags query works some work is = any_of_group (has_tag work.request.tags) query.tags some ∙ (has-asked query (info_of works work) is).tag
