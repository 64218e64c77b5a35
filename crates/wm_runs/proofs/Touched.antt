-- What a work that comes to an end may change are records of numbers that ascend from its own.
use Rattle.std.proofs.Common.{◌≡◌, ◌≢◌, ◌++◌, ℕ, is_some, ◌<◌, ◌≤◌, true, false, cond, eqb, not, List, [], ◌∷◌, slice_get, Option, Some, None, option_map, refl, sym, ◌∙◌, ap, subst, arith, inl, inr}
use Rattle.std.specs.List.{cons_option}
use Rattle.std.proofs.lemmas.List.{append-nil}
use Rattle.std.proofs.lemmas.List.Elements.{filter_map-append}
use Rattle.std.proofs.lemmas.Bool.{and_right, cases_Bool, eqb-false, eqb-true, false≢true, or_parts, true≢false}
use Rattle.std.proofs.lemmas.Map.Views.{any-filter_same}
use Rattle.wm_collections.proofs.Lists.{All-any, All-filter, AllLater-filter}
use Rattle.wm_collections.specs.Lists.{is_among, AllLater}
use Rattle.wm_machine.proofs.Runnings.{WorksAscend-in_order}
use Rattle.wm_machine.specs.Closed.{closed, is_open}
use Rattle.wm_machine.specs.First.{is_waiting}
use Rattle.wm_machine.specs.Input.{work_numbered}
use Rattle.wm_machine.specs.Valid.{IsBefore}
use Rattle.wm_machine.specs.declared.record.Record.{Record}
use Rattle.wm_steps.proofs.ByNumbers.{replacement-found, replacements-numbered}
use Rattle.wm_changes.specs.Replacements.{by_numbers, replacement_of}
use Rattle.wm_runs.specs.Reached.{change_by, numbers_of, others, reached_by, replaced_by}
use Rattle.wm_runs.specs.declared.reach.Reach.{Reach}
use Rattle.wm_runs.specs.declared.reach.Reach.TheVariants as reach
use Rattle.wm_graph.proofs.Tests.{eq-swap}
use Rattle.wm_graph.specs.Numbers.{RiseFrom}
use Rattle.wm_changes.specs.declared.change.Replacement.{Replacement}

-- ---- the record of one number

none-of : (found : Option Record) → is_some found ≡ false → found ≡ None
none-of None is = refl
none-of (Some work) is = absurd (true≢false is)

-- what the record of a number becomes, where it is found and becomes another one
pub replacement-some : (change : Record → Option Record) (number : ℕ) (works : List Record) (index : ℕ) (work new : Record) → AllLater IsBefore works
    → work_numbered number works ≡ slice_get works index → slice_get works index ≡ Some work → change work ≡ Some new
    → replacement_of change 0 works number ≡ Some (record { index = index; work = new })
replacement-some change number works index work new order found at is =
    replacement-found change number works index work order found at
    ∙ ap (option_map (λ (new : Record). record { index = index; work = new })) is

-- and where it stays
pub replacement-stays : (change : Record → Option Record) (number : ℕ) (works : List Record) (index : ℕ) (work : Record) → AllLater IsBefore works
    → work_numbered number works ≡ slice_get works index → slice_get works index ≡ Some work → is_some (change work) ≡ false
    → replacement_of change 0 works number ≡ None
replacement-stays change number works index work order found at stays =
    replacement-found change number works index work order found at
    ∙ ap (option_map (λ (new : Record). record { index = index; work = new })) (none-of (change work) stays)

-- what is added to a list where there is something
pub added-none : (front : List Replacement) (found : Option Replacement) → found ≡ None → front ≡ front ++ cons_option found []
added-none front found none = rw none (sym (append-nil front))

pub added-some : (front new : List Replacement) (found : Option Replacement) (one : Replacement) → new ≡ front ++ one ∷ [] → found ≡ Some one
    → new ≡ front ++ cons_option found []
added-some front new found one pushed is = pushed ∙ ap (λ (o : Option Replacement). front ++ cons_option o []) (sym is)

-- ---- the numbers that are gone over

above-least : (seq number : ℕ) → not (eqb number seq) ≡ true → seq ≤ number → seq < number
above-least seq number differs least = elim (cases_Bool (eqb number seq)) [
  | inl same ↦ absurd (false≢true (sym (ap not same) ∙ differs))
  | inr other ↦
      let apart : number ≢ seq = eqb-false number seq other in
      grind arith
]

touched-ascend : (seq : ℕ) (numbers : List ℕ) → RiseFrom seq numbers → AllLater (λ number later. number < later) (seq ∷ others seq numbers)
touched-ascend seq numbers rise = (
  All-filter (λ number. not (eqb number seq)) numbers (λ number differs least. above-least seq number differs least) rise.least,
  AllLater-filter (λ number later. number < later) (λ number. not (eqb number seq)) numbers rise.ascending,
)

-- another number is among the others where it is among all
among-others : (seq number : ℕ) (numbers : List ℕ) → eqb number seq ≡ false → is_among (others seq numbers) number ≡ is_among numbers number
among-others seq number numbers differs =
    any-filter_same (λ one. eqb one number) (λ one. not (eqb one seq)) true
    (λ one is. let same = eqb-true one number is in rw (same, differs) refl) numbers

unreached : (to : Reach) (work : Record) → is_among (numbers_of to) work.seq ≡ false → reached_by to work ≡ None
unreached reach.Stays work none = refl
unreached (reach.Closes how numbers now) work none =
    ap (λ b. cond b (Some (closed how now work)) None) (and_right (is_open work.phase) (is_among numbers work.seq) none)
unreached (reach.Frees numbers now) work none =
    ap (λ b. cond b (Some (record work { enqueued_at = now })) None) (and_right (is_waiting work.phase) (is_among numbers work.seq) none)

-- nothing else changes
changes-touched : (itself : Record) (to : Reach) (work : Record) → is_among (itself.seq ∷ others itself.seq (numbers_of to)) work.seq ≡ false
    → change_by itself to work ≡ None
changes-touched itself to work none =
    let parts = or_parts (eqb itself.seq work.seq) (is_among (others itself.seq (numbers_of to)) work.seq) none in
    let other : eqb work.seq itself.seq ≡ false = eq-swap work.seq itself.seq ∙ parts.0 in
    rw other (unreached to work (sym (among-others itself.seq work.seq (numbers_of to) other) ∙ parts.1))

pub touched-replaced : (itself : Record) (to : Reach) (works : List Record) → AllLater IsBefore works → RiseFrom itself.seq (numbers_of to)
    → by_numbers (change_by itself to) (itself.seq ∷ others itself.seq (numbers_of to)) works ≡ replaced_by itself to works
touched-replaced itself to works order rise =
    sym (replacements-numbered (change_by itself to) (itself.seq ∷ others itself.seq (numbers_of to)) works (WorksAscend-in_order works order)
    (touched-ascend itself.seq (numbers_of to) rise) (All-any works (changes-touched itself to)))

-- the work itself and the others are all
pub replaced-all : (itself : Record) (to : Reach) (works : List Record) (numbers : List ℕ) → AllLater IsBefore works → RiseFrom itself.seq (numbers_of to)
    → numbers ≡ numbers_of to
    → by_numbers (change_by itself to) (itself.seq ∷ []) works ++ by_numbers (change_by itself to) (others itself.seq numbers) works
    ≡ replaced_by itself to works
replaced-all itself to works numbers order rise are =
    rw are (sym (filter_map-append (replacement_of (change_by itself to) 0 works) (itself.seq ∷ []) (others itself.seq (numbers_of to)))
    ∙ touched-replaced itself to works order rise)

-- what rises from the number of a record rises from that of one that has the same
pub same-rise : (seq : ℕ) (itself new : Record) (numbers : List ℕ) → itself ≡ new → new.seq ≡ seq → RiseFrom seq numbers → RiseFrom itself.seq numbers
same-rise seq itself new numbers is same rise = subst (λ n. RiseFrom n numbers) (sym (ap (λ (w : Record). w.seq) is ∙ same)) rise
