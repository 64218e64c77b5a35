-- What is told of each work before and after a change differs for no other works than those that are compared.
use Rattle.std.proofs.Common.{◌≡◌, ℕ, ◌<◌, ◌≤◌, Bool, false, not, cond, eqb, List, [], ◌∷◌, ◌++◌, filter, filter_map, find, map, nat_le, Some, None, option_map, refl, sym, ◌∙◌, ap, arith, inl, inr}
use Rattle.std.specs.List.{AllByRecursion, list_any}
use Rattle.std.proofs.lemmas.Bool.{cases_Bool, le-leb, leb-true, or_parts}
use Rattle.std.proofs.lemmas.List.Elements.{filter-append}
use Rattle.wm_collections.proofs.Lists.{All-weaker, All-with2, filter-each, filter-none, list_all-agree, map-filter, map-same, map-twice, none_pass}
use Rattle.wm_machine.specs.First.{all_met, has_succeeded}
use Rattle.wm_machine.specs.Input.{work_numbered}
use Rattle.wm_machine.specs.Shown.{info_in, info_of, infos_of, shown_in}
use Rattle.wm_machine.specs.Valid.{IsRecord, Valid}
use Rattle.wm_machine.specs.declared.record.Record.{Record}
use Rattle.wm_machine.specs.declared.reply.WorkInfo.{WorkInfo}
use Rattle.wm_machine.specs.declared.state.State.{State}
use Rattle.wm_steps.proofs.ReplacedRecords.{next-above}
use Rattle.wm_changes.specs.StepChanges.{changed_state, Fits}
use Rattle.wm_changes.specs.declared.change.StepChange.{StepChange}
use Rattle.wm_observe.proofs.NoteLaws.{notes-differing}
use Rattle.wm_steps.proofs.RecordsAfter.{numbered-after, records-after, succeeded-after, then-untouched, All-left}
use Rattle.wm_observe.proofs.Same.{same_decides}
use Rattle.wm_observe.specs.Compared.{compared_pairs, may_differ, new_pair, pair_at}
use Rattle.wm_changes.specs.Touched.{then_of, touches}
use Rattle.wm_observe.specs.Notes.{differs, differs_in, has_number, notes, notes_between, pairs_of}
use Rattle.wm_observe.specs.declared.note.Pair.{Pair}

-- ---- what is told of a record that isn't compared

-- its prerequisites have succeeded where they had
met-after : (s : State) (change : StepChange) → Valid s → Fits s change → (work : Record) → IsRecord work → work.seq < s.next
    → list_any (touches change) work.prior ≡ false → all_met (changed_state change s).works work ≡ all_met s.works work
unfolding all_met
met-after s change valid fits work is below untouched =
    list_all-agree (has_succeeded (changed_state change s).works) (has_succeeded s.works) work.prior (All-with2 work.prior (λ number untouched earlier.
    let less = earlier.1 in
    succeeded-after s change valid fits number untouched (omega arith)) (none_pass (touches change) work.prior untouched) is.prior.earlier)

not-differing : (info : WorkInfo) → differs_in (Some info) (Some info) ≡ false
not-differing info = ap not ((same_decides info info).1 refl)

-- the same is told of it before and after
same_told : (s : State) (change : StepChange) → Valid s → Fits s change → (work : Record) → IsRecord work → work.seq < s.next
    → may_differ change work ≡ false → differs (pair_at change s.works (changed_state change s).works work) ≡ false
same_told s change valid fits work is below untouched =
    let after = (changed_state change s).works in
    let parts = or_parts (touches change work.seq) (list_any (touches change) work.prior) untouched in
    let met = met-after s change valid fits work is below parts.1 in
    let info : info_of after work ≡ info_of s.works work = ap (λ b. info_in work (shown_in work.phase b)) met in
    ap (λ then. differs_in (Some (info_of s.works work)) (option_map (info_of after) then)) (then-untouched change work parts.0)
    ∙ ap (λ now. differs_in (Some (info_of s.works work)) (Some now)) info ∙ not-differing (info_of s.works work)

-- ---- the pairs

find-info : (all works : List Record) (number : ℕ)
    → find (has_number number) (map (info_of all) works) ≡ option_map (info_of all) (work_numbered number works)
find-info all [] number = refl
find-info all (work ∷ works) number = elim (cases_Bool (eqb work.seq number)) [ inl e ↦ rw e refl | inr e ↦ rw e (find-info all works number) ]

not-le : (m n : ℕ) → n < m → nat_le m n ≡ false
not-le m n less = elim (cases_Bool (nat_le m n)) [
  | inl e ↦ let least = leb-true m n e in absurd (omega arith)
  | inr e ↦ e
]

-- the infos of the new records
news : (all works : List Record) (next : ℕ) (change : StepChange) (placed : List Record) → AllByRecursion (λ work. work.seq < next) works
    → AllByRecursion (λ work. next ≤ work.seq) placed
    → filter (λ (info : WorkInfo). nat_le next info.seq) (map (info_of all) (filter_map (then_of change) works ++ placed)) ≡ map (info_of all) placed
news all works next change placed below above =
    let left = filter_map (then_of change) works in
    let test : Record → Bool = λ work. nat_le next work.seq in
    let old = filter-none test left (All-weaker left (λ work less. not-le next work.seq less) (All-left (λ n. n < next) change works below)) in
    let new = filter-each test placed (All-weaker placed (λ work more. le-leb next work.seq more) above) in
    sym (map-filter (info_of all) (λ (info : WorkInfo). nat_le next info.seq) (left ++ placed))
    ∙ ap (map (info_of all)) (filter-append test left placed ∙ ap (λ (kept : List Record). kept ++ filter test placed) old ∙ new)

-- each record before, and then each new one
all-pairs : (s : State) (change : StepChange) → Valid s → Fits s change
    → (let after = (changed_state change s).works in
    pairs_of s (changed_state change s) ≡ map (pair_at change s.works after) s.works ++ map (new_pair after) change.placed)
unfolding infos_of
all-pairs s change valid fits =
    let after = (changed_state change s).works in
    let found : WorkInfo → Pair = λ before. record { before = Some before; after = find (has_number before.seq) (map (info_of after) after) } in
    let only : WorkInfo → Pair = λ info. record { before = None; after = Some info } in
    let old = map-twice (info_of s.works) found s.works
    ∙ map-same (λ work. found (info_of s.works work)) (pair_at change s.works after) s.works (All-weaker s.works (λ work is.
    ap (λ then. record { before = Some (info_of s.works work); after = then })
    (find-info after after work.seq ∙ ap (option_map (info_of after)) is)) (numbered-after s change valid fits)) in
    let new = ap (map only) (ap (λ (works : List Record). filter (λ (info : WorkInfo). nat_le s.next info.seq) (map (info_of after) works))
    (records-after s change valid fits)
    ∙ news after s.works s.next change change.placed valid.works.numbers (next-above s.next change.placed fits.placed))
    ∙ map-twice (info_of after) only change.placed in
    ap (λ (pairs : List Pair). pairs ++ map only (filter (λ (info : WorkInfo). nat_le s.next info.seq) (map (info_of after) after))) old
    ∙ ap (λ (pairs : List Pair). map (pair_at change s.works after) s.works ++ pairs) new

-- ---- those that differ

-- what may not differ needn't be compared
differing : {T : Type 0} (may : T → Bool) (pair : T → Pair) (xs : List T) → AllByRecursion (λ x. may x ≡ false → differs (pair x) ≡ false) xs
    → filter differs (map pair (filter may xs)) ≡ filter differs (map pair xs)
differing may pair [] same = refl
differing may pair (x ∷ xs) same =
    let rest = differing may pair xs same.1 in
    elim (cases_Bool (may x)) [
      | inl e ↦ rw e (ap (λ (pairs : List Pair). cond (differs (pair x)) (pair x ∷ pairs) pairs) rest)
      | inr e ↦ let no = same.0 e in rw (e, no) rest
    ]

-- the pairs that are made differ as all do
compared-differing : (s : State) (change : StepChange) → Valid s → Fits s change
    → filter differs (compared_pairs change s) ≡ filter differs (pairs_of s (changed_state change s))
compared-differing s change valid fits =
    let after = (changed_state change s).works in
    let at = pair_at change s.works after in
    let new = map (new_pair after) change.placed in
    let same = All-with2 s.works (λ work is below. same_told s change valid fits work is below) valid.works.records valid.works.numbers in
    filter-append differs (map at (filter (may_differ change) s.works)) new
    ∙ ap (λ (pairs : List Pair). pairs ++ filter differs new) (differing (may_differ change) at s.works same)
    ∙ sym (filter-append differs (map at s.works) new) ∙ ap (filter differs) (sym (all-pairs s change valid fits))

-- and so the observers are told of the step where they are told of those
pub compared-told : (s : State) (change : StepChange) → Valid s → Fits s change
    → notes s.observers (compared_pairs change s) ≡ notes_between s (changed_state change s)
compared-told s change valid fits =
    notes-differing s.observers (compared_pairs change s) (pairs_of s (changed_state change s)) (compared-differing s change valid fits)
