-- What a clearing asks of records and makes of them, by the numbers that it has.
use Rattle.std.proofs.Common.{◌≡◌, ℕ, ◌+◌, ◌<◌, ◌&&◌, ◌||◌, Bool, true, false, not, cond, eqb, List, [], ◌∷◌, ◌++◌, filter, filter_map, get_or, length, map, take, Option, Some, None, refl, sym, ◌∙◌, ap, subst, arith, inl, inr}
use Rattle.std.specs.List.{cons_option, list_any}
use Rattle.std.proofs.Math.Bool.{or-false}
use Rattle.std.proofs.lemmas.Bool.{cases_Bool, eqb-true, false≢true, ne_eqb, or_left, or_parts, or_right}
use Rattle.std.proofs.lemmas.List.{take_more}
use Rattle.std.proofs.lemmas.List.Elements.{filter_map-append}
use Rattle.std.proofs.lemmas.Simd.{map-map}
use Rattle.wm_collections.proofs.Lists.{All-any, All-weaker, filter-none, filter-same, list_any-agree, list_any-false, list_any-kept}
use Rattle.wm_collections.specs.Lists.{AllLater, is_among}
use Rattle.wm_commands.proofs.Clearings.{filter-map}
use Rattle.wm_commands.proofs.ClearingSteps.{passing-stored}
use Rattle.wm_commands.specs.Cleared.{becomes_cancelled, cleared, cleared_by, is_needed_then, is_removable_then, phase_then, removed_by, replaced_by_clearing, stays}
use Rattle.wm_collections.specs.Sets.{AreMerged}
use Rattle.wm_commands.specs.declared.clearing.Clearing.{Clearing}
use Rattle.wm_graph.specs.Descendants.{dependents}
use Rattle.wm_graph.specs.Nodes.{NodeFields}
use Rattle.wm_machine.proofs.Runnings.{WorksAscend, WorksAscend-in_order}
use Rattle.wm_machine.specs.Closed.{is_open}
use Rattle.wm_machine.specs.Group.{numbers_in}
use Rattle.wm_machine.specs.Pruned.{is_needed}
use Rattle.wm_machine.specs.Valid.{IsBefore}
use Rattle.wm_machine.specs.declared.record.Record.{Record}
use Rattle.wm_steps.proofs.ByNumbers.{replacements-numbered, ChangesAmong}
use Rattle.wm_graph.proofs.ListedNumbers.{rising-ascend}
use Rattle.wm_steps.proofs.Tests.{among-kept}
use Rattle.wm_changes.specs.Nodes.{is_there, node_of, nodes_of}
use Rattle.wm_graph.specs.Numbers.{Ascend}
use Rattle.wm_changes.specs.Replacements.{by_numbers, replacement_of}
use Rattle.wm_changes.specs.declared.change.Replacement.{Replacement}
use Rattle.wm_unique.proofs.Numbered.{any_numbered, filter_both, filter_numbered, grouped_filter, numbers_filter}
use Rattle.wm_unique.specs.Plans.{numbered_passes, AreNumbersOf}

-- ---- the record of a number

-- what is asked of the records of a number is asked of the one that is found
pub any_of_number : (test : Record → Bool) (number : ℕ) (works : List Record) → WorksAscend works
    → list_any (λ work. eqb work.seq number && test work) works ≡ numbered_passes test works number
any_of_number test number [] ascend = refl
any_of_number test number (work ∷ works) ascend = elim (cases_Bool (eqb work.seq number)) [
  | inl hit ↦
      let is = eqb-true work.seq number hit in
      let none : list_any (λ later. eqb later.seq number && test later) works ≡ false =
      list_any-false (λ later. eqb later.seq number && test later) works
      (All-weaker works (λ later less. ap (λ b. b && test later) (ne_eqb later.seq number (λ e. absurd (omega arith)))) ascend.0) in
      rw (hit, none) (or-false (test work))
  | inr miss ↦ rw miss (any_of_number test number works ascend.1)
]

-- one that passes is there
pub there-passing : (test : Record → Bool) (works : List Record) (number : ℕ) → numbered_passes test works number ≡ true → is_there works number ≡ true
there-passing test [] number is = absurd (false≢true is)
there-passing test (work ∷ works) number is = elim (cases_Bool (eqb work.seq number)) [
  | inl hit ↦ or_left _ _ hit
  | inr miss ↦ or_right _ _ (there-passing test works number (rw miss at is))
]

-- ---- those that come after one

-- whether a record has the work of a number as a prerequisite
abbrev comes_after : ℕ → Record → Bool
comes_after number work = is_among work.prior number

dependents-are : (works : List Record) (number : ℕ) → is_there works number ≡ true
    → dependents (nodes_of works) number ≡ numbers_in (filter (comes_after number) works)
dependents-are works number there =
    ap (map (λ (node : NodeFields). node.seq)) (filter-map (λ (node : NodeFields). is_among node.before number) (node_of works) works)
    ∙ map-map (λ (node : NodeFields). node.seq) (node_of works) (filter (λ work. is_among (node_of works work).before number) works)
    ∙ ap numbers_in (filter-same (λ work. is_among (node_of works work).before number) (comes_after number) works
    (All-any works (λ work. among-kept (is_there works) work.prior number there)))

-- whether one of them passes
any_dependent : (test : Record → Bool) (works : List Record) (number : ℕ) → AllLater IsBefore works → is_there works number ≡ true
    → list_any (numbered_passes test works) (dependents (nodes_of works) number) ≡ list_any (λ work. test work && is_among work.prior number) works
any_dependent test works number in_order there =
    let after = comes_after number in
    ap (list_any (numbered_passes test works)) (dependents-are works number there)
    ∙ any_numbered test works (numbers_in (filter after works)) in_order (numbers_filter after works in_order)
    ∙ ap (list_any test) (grouped_filter after works in_order) ∙ list_any-kept test after works

-- an unfinished one needs it
pub needed-dependents : (cancelled : List ℕ) (works : List Record) (number : ℕ) → AllLater IsBefore works → is_there works number ≡ true
    → list_any (numbered_passes (λ work. is_open (phase_then cancelled work)) works) (dependents (nodes_of works) number)
    ≡ is_needed_then cancelled works number
needed-dependents cancelled works number in_order there = any_dependent (λ work. is_open (phase_then cancelled work)) works number in_order there

and-none : (b : Bool) → (b && false) ≡ false
and-none true = refl
and-none false = refl

-- and so where none is cancelled
pub needed-now : (works : List Record) (number : ℕ) → is_needed_then [] works number ≡ is_needed works number
unfolding is_needed
needed-now works number =
    list_any-agree (λ work. is_open (phase_then [] work) && is_among work.prior number) (λ work. is_open work.phase && is_among work.prior number) works
    (All-any works (λ work. rw (and-none (is_open work.phase)) refl))

-- ---- those that are removed

-- whether the record of a number may be removed
pub removable-numbered : (cancelled : List ℕ) (all works : List Record) (number : ℕ)
    → numbered_passes (is_removable_then cancelled all) works number
    ≡ (numbered_passes (λ work. not (is_open (phase_then cancelled work))) works number && not (is_needed_then cancelled all number))
removable-numbered cancelled all [] number = refl
removable-numbered cancelled all (work ∷ works) number = elim (cases_Bool (eqb work.seq number)) [
  | inl hit ↦ rw (hit, eqb-true work.seq number hit) refl
  | inr miss ↦ rw miss (removable-numbered cancelled all works number)
]

-- those of the numbers that are let go
pub removed-numbered : (cancelled let_go : List ℕ) (works : List Record) → AllLater IsBefore works → AreNumbersOf works let_go
    → filter (numbered_passes (is_removable_then cancelled works) works) let_go ≡ removed_by cancelled let_go works
removed-numbered cancelled let_go works in_order are =
    filter_numbered (is_removable_then cancelled works) works let_go in_order are
    ∙ ap numbers_in (filter_both (λ work. is_among let_go work.seq) (is_removable_then cancelled works) works)

-- ---- the numbers of records ascend

pub numbers-ascend : (test : Record → Bool) (works : List Record) → AllLater IsBefore works → Ascend (numbers_in (filter test works))
numbers-ascend test works in_order = rising-ascend (numbers_in (filter test works)) (passing-stored test works in_order).ascend

pub let_go-ascend : (works : List Record) (let_go : List ℕ) → AllLater IsBefore works → AreNumbersOf works let_go → Ascend let_go
let_go-ascend works let_go in_order are = subst Ascend (sym are) (numbers-ascend (λ work. is_among let_go work.seq) works in_order)

-- none are numbers of works
pub none-numbers : (works : List Record) → AreNumbersOf works []
none-numbers works = ap numbers_in (sym (filter-none (λ work. is_among [] work.seq) works (All-any works (λ work. refl))))

-- ---- those that take the place of others

-- a record that is neither cancelled nor loses its name stays as it is
untouched-none : (clearing : Clearing) (work : Record) → is_among clearing.cancelled work.seq ≡ false → is_among clearing.unnamed work.seq ≡ false
    → cleared_by clearing work ≡ None
untouched-none clearing work cancelled unnamed =
    ap (λ b. cond (stays clearing.removed work && (b || becomes_cancelled clearing.cancelled work)) (Some (cleared clearing work)) None) unnamed
    ∙ ap (λ b. cond (stays clearing.removed work && (is_open work.phase && b)) (Some (cleared clearing work)) None) cancelled
    ∙ ap (λ b. cond (stays clearing.removed work && b) (Some (cleared clearing work)) None) (and-none (is_open work.phase))
    ∙ ap (λ b. cond b (Some (cleared clearing work)) None) (and-none (stays clearing.removed work))

changes-among : (clearing : Clearing) (numbers : List ℕ) (works : List Record) → AreMerged clearing.cancelled clearing.unnamed numbers
    → ChangesAmong (cleared_by clearing) numbers works
changes-among clearing numbers works merged =
    All-any works (λ work none.
    let parts = or_parts (is_among clearing.cancelled work.seq) (is_among clearing.unnamed work.seq) (sym (merged.each work.seq) ∙ none) in
    untouched-none clearing work parts.0 parts.1)

-- so they are those of these numbers
pub cleared-numbered : (clearing : Clearing) (numbers : List ℕ) (works : List Record) → AllLater IsBefore works
    → AreMerged clearing.cancelled clearing.unnamed numbers → by_numbers (cleared_by clearing) numbers works ≡ replaced_by_clearing clearing works
cleared-numbered clearing numbers works in_order merged =
    sym (replacements-numbered (cleared_by clearing) numbers works (WorksAscend-in_order works in_order) merged.ascending
    (changes-among clearing numbers works merged))

-- those of one number more
pub one-more : (change : Record → Option Record) (works : List Record) (numbers : List ℕ) (i : ℕ) (found : Option Replacement) → i < length numbers
    → found ≡ replacement_of change 0 works (get_or numbers i 0)
    → by_numbers change (take (i + 1) numbers) works ≡ by_numbers change (take i numbers) works ++ cons_option found []
one-more change works numbers i found within is =
    let each = replacement_of change 0 works in
    ap (filter_map each) (take_more numbers i 0 within) ∙ filter_map-append each (take i numbers) (get_or numbers i 0 ∷ [])
    ∙ ap (λ (o : Option Replacement). filter_map each (take i numbers) ++ cons_option o []) (sym is)
