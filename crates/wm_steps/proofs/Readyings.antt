-- The entries that a step leaves are those of the works that are ready after it, and where it is undone those of the works before.
use Rattle.std.proofs.Common.{◌≡◌, ◌≢◌, ℕ, ◌<◌, ◌&&◌, ◌||◌, Bool, true, false, not, cond, eqb, List, [], ◌∷◌, ◌++◌, find, map, Option, Some, None, refl, sym, ◌∙◌, ap, subst, arith, inl, inr}
use Rattle.std.specs.List.{list_all, list_any, AllByRecursion}
use Rattle.std.specs.Option.{option_map_or}
use Rattle.std.proofs.Math.Bool.{or-false}
use Rattle.std.proofs.lemmas.Bool.{cases_Bool, eq-eqb, eqb-true, false≢true}
use Rattle.std.proofs.lemmas.Bool.Decides.{nat_tests}
use Rattle.std.proofs.lemmas.List.Folds.{list_all-append, list_all-map, list_any-append}
use Rattle.wm_collections.proofs.Lists.{All-any, All-find, All-of_one, All-weaker, All-with2, find-none, find-passes, find-stored, list_all-each, list_any-false, list_any_after}
use Rattle.wm_collections.specs.Lists.{HasOne}
use Rattle.wm_graph.specs.Marks.{unmet}
use Rattle.wm_graph.specs.Nodes.{NodeFields}
use Rattle.wm_machine.proofs.Runnings.{WorksAscend, WorksAscend-in_order}
use Rattle.wm_machine.proofs.Steps.{Valid-after}
use Rattle.wm_machine.specs.First.{all_met, is_waiting}
use Rattle.wm_machine.specs.Input.{work_numbered}
use Rattle.wm_machine.specs.Valid.{ArePriorSound, Valid}
use Rattle.wm_machine.specs.declared.record.Record.{Record}
use Rattle.wm_machine.specs.declared.state.State.{State}
use Rattle.wm_ready.specs.Entries.{has, is_same, Entry}
use Rattle.wm_steps.proofs.Moves.{are-moves, move_placed, move_removed, move_replaced, moves-apart, moves_beside, moves_of, same-then, untouched, AreApart, IsMove, Move}
use Rattle.wm_steps.proofs.Readies.{step-readiness}
use Rattle.wm_steps.proofs.Unmets.{ready-unmet}
use Rattle.wm_changes.specs.Nodes.{nodes_of}
use Rattle.wm_steps.specs.Readied.{are_put_back, are_replaced, comes, entry_of, is_entry_of, is_left_by, is_left_undone, is_settled, is_waiting_as, is_wanted, ArePut, AreLeft, AreReady, IsPutSome}
use Rattle.wm_changes.specs.Readiness.{is_ready_in, StaysReady}
use Rattle.wm_changes.specs.Touched.{touches}
use Rattle.wm_changes.specs.StepChanges.{changed_state, IsStepOf}
use Rattle.wm_changes.specs.declared.change.StepChange.{StepChange}

-- ---- by one of many

-- of those with different numbers one alone decides
any-one : (test : Move → Bool) (moves : List Move) (m : Move) → AreApart moves → HasOne (λ x. x ≡ m) moves
    → AllByRecursion (λ x. x.number ≢ m.number → test x ≡ false) moves → list_any test moves ≡ test m
any-one test [] m apart one off = absurd one
any-one test (x ∷ moves) m apart (inl here) off =
    let number : x.number ≡ m.number = ap (λ (y : Move). y.number) here in
    let rest = list_any-false test moves (All-with2 moves (λ y differs fails. fails (λ e. differs (number ∙ sym e))) apart.0 off.1) in
    ap (λ b. test x || b) rest ∙ or-false (test x) ∙ ap test here
any-one test (x ∷ moves) m apart (inr one) off =
    let differs = All-of_one (λ (y : Move). x.number ≢ y.number) moves m apart.0 one in
    ap (λ b. b || list_any test moves) (off.0 differs) ∙ any-one test moves m apart.1 one off.1

and-true : (b : Bool) → (b && true) ≡ b
and-true true = refl
and-true false = refl

all-one : (test : Move → Bool) (moves : List Move) (m : Move) → AreApart moves → HasOne (λ x. x ≡ m) moves
    → AllByRecursion (λ x. x.number ≢ m.number → test x ≡ true) moves → list_all test moves ≡ test m
all-one test [] m apart one off = absurd one
all-one test (x ∷ moves) m apart (inl here) off =
    let number : x.number ≡ m.number = ap (λ (y : Move). y.number) here in
    let rest = list_all-each test moves (All-with2 moves (λ y differs passes. passes (λ e. differs (number ∙ sym e))) apart.0 off.1) in
    ap (λ b. test x && b) rest ∙ and-true (test x) ∙ ap test here
all-one test (x ∷ moves) m apart (inr one) off =
    let differs = All-of_one (λ (y : Move). x.number ≢ y.number) moves m apart.0 one in
    ap (λ b. b && list_all test moves) (off.0 differs) ∙ all-one test moves m apart.1 one off.1

-- ---- entries and numbers

same-number : (one other : Entry) → is_same one other ≡ true → one.seq ≡ other.seq
same-number one other same = grind (arith, nat_tests)

apart_not-same : (one other : Entry) → other.seq ≢ one.seq → is_same one other ≡ false
apart_not-same one other differs = elim (cases_Bool (is_same one other)) as (λ _. is_same one other ≡ false) [
  | inl same ↦ absurd (differs (sym (same-number one other same)))
  | inr not ↦ not
]

and-not : (a b : Bool) → b ≡ false → (a && b) ≡ false
and-not true b e = e
and-not false b e = refl

-- ---- decisions

-- an entry that comes as a work's is left just where the work is free
come : (waits is_new met : Bool) → ((false || (waits && is_new)) && (true && (not (waits && is_new) || ((waits && met) && is_new)))) ≡ ((waits && met) && is_new)
come false is_new met = refl
come true false true = refl
come true false false = refl
come true true true = refl
come true true false = refl

-- also where it was another's, which waited
two : (was met_old is_old waits is_new met : Bool)
    → ((((was && met_old) && is_old) || (waits && is_new)) && ((not (was && is_old) || ((waits && met) && is_new)) && (not (waits && is_new) || ((waits && met) && is_new))))
    ≡ ((waits && met) && is_new)
two false met_old is_old waits is_new met = come waits is_new met
two true true false waits is_new met = come waits is_new met
two true false false waits is_new met = come waits is_new met
two true true true false is_new met = refl
two true true true true true true = refl
two true true true true true false = refl
two true true true true false true = refl
two true true true true false false = refl
two true false true false is_new met = refl
two true false true true true true = refl
two true false true true true false = refl
two true false true true false true = refl
two true false true true false false = refl

gone : (was met is_old : Bool) → ((((was && met) && is_old) || false) && ((not (was && is_old) || false) && true)) ≡ false
gone false met is_old = refl
gone true true true = refl
gone true true false = refl
gone true false is_old = refl

if-same : (b is : Bool) (names : List (List ℕ)) (entry : Entry) (work : Record) → is_same entry (entry_of names work) ≡ is
    → option_map_or (λ (new : Record). is_same entry (entry_of names new)) (cond b (Some work) None) false ≡ (b && is)
if-same true is names entry work same = same
if-same false is names entry work same = refl

-- ---- the entries that works want

module _ (names : List (List ℕ)) (entry : Entry) where
  abbrev is : Record → Bool
  is work = is_same entry (entry_of names work)

  is-apart : (work : Record) → work.seq ≢ entry.seq → is work ≡ false
  is-apart work differs = apart_not-same entry (entry_of names work) differs

  later_not : (all works : List Record) (number : ℕ) → number ≡ entry.seq → AllByRecursion (λ (w : Record). number < w.seq) works
      → list_any (is_entry_of names all entry) works ≡ false
  later_not all works number here above =
      list_any-false (is_entry_of names all entry) works (All-weaker works (λ w more. and-not (is_ready_in all w) (is w)
      (is-apart w (λ e. absurd (omega (arith, more, e, here))))) above)

  wanted_among : (all works : List Record) → WorksAscend works
      → list_any (is_entry_of names all entry) works ≡ option_map_or (is_entry_of names all entry) (work_numbered entry.seq works) false
  wanted_among all [] ascend = refl
  wanted_among all (work ∷ works) ascend =
      elim (cases_Bool (eqb work.seq entry.seq)) as (λ _. list_any (is_entry_of names all entry) (work ∷ works)
      ≡ option_map_or (is_entry_of names all entry) (work_numbered entry.seq (work ∷ works)) false) [
        | inl here ↦
            (let rest = later_not all works work.seq (eqb-true work.seq entry.seq here) ascend.0 in
            rw (here, rest) (or-false (is_entry_of names all entry work)))
        | inr other ↦
            (let fails = and-not (is_ready_in all work) (is work) (is-apart work (λ e. false≢true (sym other ∙ eq-eqb work.seq entry.seq e))) in
            rw (other, fails) (wanted_among all works ascend.1))
      ]

  -- an entry is wanted where the record of its number wants it
  wanted-at : (works : List Record) → WorksAscend works
      → is_wanted names works entry ≡ option_map_or (is_entry_of names works entry) (work_numbered entry.seq works) false
  wanted-at works ascend = wanted_among works works ascend

  -- ---- what a change does, by its moves

  abbrev comes_by : Move → Bool
  comes_by m = option_map_or (is_waiting_as names entry) m.new false

  comes-moves : (change : StepChange) (works : List Record) → comes names change entry ≡ list_any comes_by (moves_of change works)
  comes-moves change works =
      let told = map (move_replaced works) change.told in
      let replaced = map (move_replaced works) change.replaced in
      let removed = map (move_removed works) change.removed in
      let placed = map move_placed change.placed in
      let none : list_any comes_by removed ≡ false =
      list_any_after comes_by (move_removed works) change.removed ∙ list_any-false (λ number. comes_by (move_removed works number)) change.removed (All-any change.removed (λ number. refl)) in
      sym (list_any-append comes_by told (moves_beside change works)
      ∙ ap (λ b. list_any comes_by told || b) (list_any-append comes_by replaced (removed ++ placed)
      ∙ ap (λ b. list_any comes_by replaced || b) (list_any-append comes_by removed placed ∙ ap (λ b. b || list_any comes_by placed) none
      ∙ list_any_after comes_by move_placed change.placed) ∙ ap (λ b. b || list_any (is_waiting_as names entry) change.placed) (list_any_after comes_by (move_replaced works) change.replaced))
      ∙ ap (λ b. b || (list_any (λ r. is_waiting_as names entry r.work) change.replaced || list_any (is_waiting_as names entry) change.placed))
      (list_any_after comes_by (move_replaced works) change.told))

  abbrev settled_by : List NodeFields → Move → Bool
  settled_by nodes m = is_settled names nodes m.old m.new entry

  settled-moves : (nodes : List NodeFields) (change : StepChange) (works : List Record)
      → is_left_by names nodes works change entry ≡ list_all (settled_by nodes) (moves_of change works)
  settled-moves nodes change works =
      let test = settled_by nodes in
      let told = map (move_replaced works) change.told in
      let replaced = map (move_replaced works) change.replaced in
      let removed = map (move_removed works) change.removed in
      let placed = map move_placed change.placed in
      sym (list_all-append test told (moves_beside change works)
      ∙ ap (λ b. list_all test told && b) (list_all-append test replaced (removed ++ placed)
      ∙ ap (λ b. list_all test replaced && b) (list_all-append test removed placed
      ∙ ap (λ b. list_all test removed && b) (list_all-map test move_placed change.placed)
      ∙ ap (λ b. b && list_all (λ work. is_settled names nodes None (Some work) entry) change.placed) (list_all-map test (move_removed works) change.removed))
      ∙ ap (λ b. b && (list_all (λ number. is_settled names nodes (work_numbered number works) None entry) change.removed
      && list_all (λ work. is_settled names nodes None (Some work) entry) change.placed)) (list_all-map test (move_replaced works) change.replaced))
      ∙ ap (λ b. b && (are_replaced names nodes works change.replaced entry
      && (list_all (λ number. is_settled names nodes (work_numbered number works) None entry) change.removed
      && list_all (λ work. is_settled names nodes None (Some work) entry) change.placed))) (list_all-map test (move_replaced works) change.told))

  -- what is removed isn't put back: it still is there
  abbrev undone_by : List NodeFields → Move → Bool
  undone_by nodes m = option_map_or (λ (work : Record). is_settled names nodes (Some work) m.old entry) m.new true

  undone-moves : (nodes : List NodeFields) (change : StepChange) (works : List Record)
      → is_left_undone names nodes works change entry ≡ list_all (undone_by nodes) (moves_of change works)
  undone-moves nodes change works =
      let test = undone_by nodes in
      let told = map (move_replaced works) change.told in
      let replaced = map (move_replaced works) change.replaced in
      let removed = map (move_removed works) change.removed in
      let placed = map move_placed change.placed in
      let all : list_all test removed ≡ true =
      list_all-map test (move_removed works) change.removed ∙ list_all-each (λ number. test (move_removed works number)) change.removed (All-any change.removed (λ number. refl)) in
      sym (list_all-append test told (moves_beside change works)
      ∙ ap (λ b. list_all test told && b) (list_all-append test replaced (removed ++ placed)
      ∙ ap (λ b. list_all test replaced && b) (list_all-append test removed placed ∙ ap (λ b. b && list_all test placed) all
      ∙ list_all-map test move_placed change.placed)
      ∙ ap (λ b. b && list_all (λ work. is_settled names nodes (Some work) None entry) change.placed) (list_all-map test (move_replaced works) change.replaced))
      ∙ ap (λ b. b && (are_put_back names nodes works change.replaced entry
      && list_all (λ work. is_settled names nodes (Some work) None entry) change.placed)) (list_all-map test (move_replaced works) change.told))

  -- ---- those that are free are those that are ready

  abbrev FreeIn : List NodeFields → List Record → Option Record → Type 0
  FreeIn nodes works None = Unit {0}
  FreeIn nodes works (Some work) = (is_waiting work.phase && eqb (unmet nodes work.seq) 0) ≡ is_ready_in works work

  -- a move settles its entry
  settle-move : (nodes : List NodeFields) (works after : List Record) (old new : Option Record) → FreeIn nodes after new
      → ((option_map_or (is_entry_of names works entry) old false || option_map_or (is_waiting_as names entry) new false) && is_settled names nodes old new entry)
      ≡ option_map_or (is_entry_of names after entry) new false
  settle-move nodes works after None None free = refl
  settle-move nodes works after (Some old) None free = gone (is_waiting old.phase) (all_met works old) (is old)
  settle-move nodes works after None (Some new) free =
      let met = eqb (unmet nodes new.seq) 0 in
      ap (λ b. (false || (is_waiting new.phase && is new)) && (true && (not (is_waiting new.phase && is new) || b))) (if-same (is_waiting new.phase && met) (is new) names entry new refl)
      ∙ come (is_waiting new.phase) (is new) met ∙ ap (λ b. b && is new) free
  settle-move nodes works after (Some old) (Some new) free =
      let met = eqb (unmet nodes new.seq) 0 in
      ap (λ b. ((is_ready_in works old && is old) || (is_waiting new.phase && is new)) && ((not (is_waiting old.phase && is old) || b) && (not (is_waiting new.phase && is new) || b)))
      (if-same (is_waiting new.phase && met) (is new) names entry new refl)
      ∙ two (is_waiting old.phase) (all_met works old) (is old) (is_waiting new.phase) (is new) met ∙ ap (λ b. b && is new) free

  -- and is undone
  undo-move : (nodes : List NodeFields) (works : List Record) (there : Bool) (number : ℕ) (old new : Option Record) → FreeIn nodes works old
      → (option_map_or (is_entry_of names works entry) old false ≡ true → there ≡ true)
      → (option_map_or (is_waiting_as names entry) new false ≡ false → there ≡ option_map_or (is_entry_of names works entry) old false)
      → (there && undone_by nodes (record { number = number; old = old; new = new })) ≡ option_map_or (is_entry_of names works entry) old false
  undo-move nodes works there number old None free still others = and-true there ∙ others refl
  undo-move nodes works there number None (Some new) free still others =
      elim (cases_Bool (is_waiting_as names entry new)) as (λ _. (there && ((not (is_waiting_as names entry new) || false) && true)) ≡ false) [
        | inl e ↦ rw e (and-not there false refl)
        | inr e ↦ (let gone = others e in rw (gone) refl)
      ]
  undo-move nodes works there number (Some old) (Some new) free still others =
      let met = eqb (unmet nodes old.seq) 0 in
      let ready = is_ready_in works old && is old in
      ap (λ b. there && ((not (is_waiting_as names entry new) || b) && (not (is_waiting_as names entry old) || b)))
      (if-same (is_waiting old.phase && met) (is old) names entry old refl ∙ ap (λ b. b && is old) free)
      ∙ decide ready (is_waiting_as names entry new) (is_waiting_as names entry old) still others where
        decide : (ready is_new is_old : Bool) → (ready ≡ true → there ≡ true) → (is_new ≡ false → there ≡ ready)
            → (there && ((not is_new || ready) && (not is_old || ready))) ≡ ready
        decide true true true one two = rw (one refl) refl
        decide true true false one two = rw (one refl) refl
        decide true false true one two = rw (one refl) refl
        decide true false false one two = rw (one refl) refl
        decide false true is_old one two = and-not there false refl
        decide false false is_old one two = rw (two refl) refl

  -- ---- off its number

  abbrev HasNumber : ℕ → Option Record → Type 0
  HasNumber number None = Unit {0}
  HasNumber number (Some work) = work.seq ≡ number

  found-number : (number : ℕ) (works : List Record) (found : Option Record) → found ≡ work_numbered number works → HasNumber number found
  found-number number works None is = tt
  found-number number works (Some work) is = eqb-true work.seq number (find-passes (λ (w : Record). eqb w.seq number) works work (sym is))

  comes-off : (number : ℕ) (new : Option Record) → HasNumber number new → number ≢ entry.seq → option_map_or (is_waiting_as names entry) new false ≡ false
  comes-off number None has differs = refl
  comes-off number (Some work) has differs = and-not (is_waiting work.phase) (is work) (is-apart work (λ e. differs (sym has ∙ e)))

  left-off : (number : ℕ) (nodes : List NodeFields) (old new : Option Record) → HasNumber number old → HasNumber number new → number ≢ entry.seq
      → is_settled names nodes old new entry ≡ true
  left-off number nodes None None one other differs = refl
  left-off number nodes (Some old) None one other differs =
      let apart : is_waiting_as names entry old ≡ false = comes-off number (Some old) one differs in rw apart refl
  left-off number nodes None (Some new) one other differs =
      let apart : is_waiting_as names entry new ≡ false = comes-off number (Some new) other differs in rw apart refl
  left-off number nodes (Some old) (Some new) one other differs =
      let apart : is_waiting_as names entry old ≡ false = comes-off number (Some old) one differs in
      let also : is_waiting_as names entry new ≡ false = comes-off number (Some new) other differs in
      rw (apart, also) refl

  undone-off : (number : ℕ) (nodes : List NodeFields) (m : Move) → HasNumber number m.old → HasNumber number m.new → number ≢ entry.seq
      → (new : Option Record) → m.new ≡ new → undone_by nodes m ≡ true
  undone-off number nodes m one other differs None is = rw is refl
  undone-off number nodes m one other differs (Some work) is =
      let has : work.seq ≡ number = subst (HasNumber number) is other in
      rw is (left-off number nodes (Some work) m.old has one differs)

-- ---- the step

module _ (names : List (List ℕ)) (s : State) (change : StepChange) (valid : Valid s) (step : IsStepOf s change) where
  abbrev after : List Record
  after = (changed_state change s).works

  abbrev moves : List Move
  moves = moves_of change s.works

  valid_after : Valid (changed_state change s)
  valid_after = subst Valid (sym step.state) (Valid-after s change.event valid step.legal)

  ascend : WorksAscend s.works
  ascend = WorksAscend-in_order s.works valid.works.in_order

  ascend_after : WorksAscend after
  ascend_after = WorksAscend-in_order after valid_after.works.in_order

  apart : AreApart moves
  apart = moves-apart s change step.fits

  are : AllByRecursion (IsMove s.works after) moves
  are = are-moves s change valid step

  free-found : (works : List Record) → Valid s → AllByRecursion (λ work. ArePriorSound works work.phase work.prior) works → (nodes : List NodeFields) → nodes ≡ nodes_of works
      → (number : ℕ) (found : Option Record) → found ≡ work_numbered number works → (entry : Entry) → FreeIn names entry nodes works found
  free-found works valid sound nodes nodes_are number None is entry = tt
  free-found works valid sound nodes nodes_are number (Some work) is entry =
      let same : work.seq ≡ number = eqb-true work.seq number (find-passes (λ (w : Record). eqb w.seq number) works work (sym is)) in
      ap (λ (ns : List NodeFields). is_waiting work.phase && eqb (unmet ns work.seq) 0) nodes_are
      ∙ ready-unmet works work sound (ap (λ n. work_numbered n works) same ∙ sym is)

  abbrev Misses : Entry → Move → Type 0
  Misses entry m = eqb m.number entry.seq ≡ false

  -- what comes has a number that the change touches
  comes-not : (entry : Entry) → AllByRecursion (Misses entry) moves → comes names change entry ≡ false
  comes-not entry misses =
      comes-moves names entry change s.works ∙ list_any-false (comes_by names entry) moves (All-with2 moves (λ m miss is.
      comes-off names entry m.number m.new (found-number names entry m.number after m.new is.is) (λ e. false≢true (sym miss ∙ eq-eqb m.number entry.seq e))) misses are)

  comes-one : (entry : Entry) (m : Move) → HasOne (λ x. x ≡ m) moves → m.number ≡ entry.seq → comes names change entry ≡ option_map_or (is_waiting_as names entry) m.new false
  comes-one entry m one here =
      comes-moves names entry change s.works ∙ any-one (comes_by names entry) moves m apart one (All-weaker moves (λ x is differs.
      comes-off names entry x.number x.new (found-number names entry x.number after x.new is.is) (λ e. differs (e ∙ sym here))) are)

  -- ---- settled

  module _ (nodes : List NodeFields) (nodes_are : nodes ≡ nodes_of after) (old prepared settled : List Entry) (were : AreReady names s.works old)
      (put : ArePut (comes names change) old prepared) (left : AreLeft (is_left_by names nodes s.works change) prepared settled) where
    settled-here : (entry : Entry) (m : Move) → HasOne (λ x. x ≡ m) moves → m.number ≡ entry.seq → has settled entry ≡ is_wanted names after entry
    settled-here entry m one here =
        let is = All-of_one (IsMove s.works after) moves m are one in
        let wanted : is_wanted names s.works entry ≡ option_map_or (is_entry_of names s.works entry) m.old false =
        wanted-at names entry s.works ascend ∙ ap (λ n. option_map_or (is_entry_of names s.works entry) (work_numbered n s.works) false) (sym here)
        ∙ ap (λ found. option_map_or (is_entry_of names s.works entry) found false) (sym is.was) in
        let now : is_wanted names after entry ≡ option_map_or (is_entry_of names after entry) m.new false =
        wanted-at names entry after ascend_after ∙ ap (λ n. option_map_or (is_entry_of names after entry) (work_numbered n after) false) (sym here)
        ∙ ap (λ found. option_map_or (is_entry_of names after entry) found false) (sym is.is) in
        let passes : is_left_by names nodes s.works change entry ≡ is_settled names nodes m.old m.new entry =
        settled-moves names entry nodes change s.works ∙ all-one (settled_by names entry nodes) moves m apart one (All-weaker moves (λ x be differs.
        left-off names entry x.number nodes x.old x.new (found-number names entry x.number s.works x.old be.was) (found-number names entry x.number after x.new be.is)
        (λ e. differs (e ∙ sym here))) are) in
        left entry ∙ ap (λ b. b && is_left_by names nodes s.works change entry) (put entry)
        ∙ ap (λ b. (b || comes names change entry) && is_left_by names nodes s.works change entry) (were entry ∙ wanted)
        ∙ ap (λ b. (option_map_or (is_entry_of names s.works entry) m.old false || b) && is_left_by names nodes s.works change entry) (comes-one entry m one here)
        ∙ ap (λ b. (option_map_or (is_entry_of names s.works entry) m.old false || option_map_or (is_waiting_as names entry) m.new false) && b) passes
        ∙ settle-move names entry nodes s.works after m.old m.new (free-found after valid valid_after.works.sound nodes nodes_are m.number m.new is.is entry) ∙ sym now

    stays-wanted : (entry : Entry) → touches change entry.seq ≡ false → (found : Option Record) → work_numbered entry.seq s.works ≡ found
        → option_map_or (is_entry_of names s.works entry) found false ≡ option_map_or (is_entry_of names after entry) found false
    stays-wanted entry untouched None is = refl
    stays-wanted entry untouched (Some work) is =
        let same : work.seq ≡ entry.seq = eqb-true work.seq entry.seq (find-passes (λ (w : Record). eqb w.seq entry.seq) s.works work is) in
        elim (All-find (StaysReady s.works after change) (λ (w : Record). eqb w.seq entry.seq) s.works work is (step-readiness s change valid step))
        as (λ _. is_entry_of names s.works entry work ≡ is_entry_of names after entry work) [
          | inl touched ↦ absurd (false≢true (sym (ap (touches change) same ∙ untouched) ∙ touched))
          | inr ready ↦ ap (λ b. b && is_same entry (entry_of names work)) ready
        ]

    settled-elsewhere : (entry : Entry) → AllByRecursion (Misses entry) moves → has settled entry ≡ is_wanted names after entry
    settled-elsewhere entry misses =
        let passes : is_left_by names nodes s.works change entry ≡ true =
        settled-moves names entry nodes change s.works ∙ list_all-each (settled_by names entry nodes) moves (All-with2 moves (λ m miss be.
        left-off names entry m.number nodes m.old m.new (found-number names entry m.number s.works m.old be.was) (found-number names entry m.number after m.new be.is)
        (λ e. false≢true (sym miss ∙ eq-eqb m.number entry.seq e))) misses are) in
        left entry ∙ ap (λ b. has prepared entry && b) passes ∙ and-true (has prepared entry) ∙ put entry
        ∙ ap (λ b. has old entry || b) (comes-not entry misses) ∙ or-false (has old entry) ∙ were entry ∙ wanted-at names entry s.works ascend
        ∙ stays-wanted entry (untouched s change valid step entry.seq misses) (work_numbered entry.seq s.works) refl
        ∙ ap (λ found. option_map_or (is_entry_of names after entry) found false) (sym (same-then s change valid step entry.seq misses))
        ∙ sym (wanted-at names entry after ascend_after)

    settled-by : (entry : Entry) (found : Option Move) → find (λ (m : Move). eqb m.number entry.seq) moves ≡ found → has settled entry ≡ is_wanted names after entry
    settled-by entry None is = settled-elsewhere entry (find-none (λ (m : Move). eqb m.number entry.seq) moves is)
    settled-by entry (Some m) is =
        settled-here entry m (find-stored (λ (m : Move). eqb m.number entry.seq) moves m is)
        (eqb-true m.number entry.seq (find-passes (λ (m : Move). eqb m.number entry.seq) moves m is))

    pub settled-ready : AreReady names after settled
    settled-ready entry = settled-by entry (find (λ (m : Move). eqb m.number entry.seq) moves) refl

  -- ---- undone

  module _ (nodes : List NodeFields) (nodes_are : nodes ≡ nodes_of s.works) (old begun undone : List Entry) (were : AreReady names s.works old)
      (put : IsPutSome (comes names change) old begun) (left : AreLeft (is_left_undone names nodes s.works change) begun undone) where
    undone-here : (entry : Entry) (m : Move) → HasOne (λ x. x ≡ m) moves → m.number ≡ entry.seq → has undone entry ≡ is_wanted names s.works entry
    undone-here entry m one here =
        let is = All-of_one (IsMove s.works after) moves m are one in
        let wanted : is_wanted names s.works entry ≡ option_map_or (is_entry_of names s.works entry) m.old false =
        wanted-at names entry s.works ascend ∙ ap (λ n. option_map_or (is_entry_of names s.works entry) (work_numbered n s.works) false) (sym here)
        ∙ ap (λ found. option_map_or (is_entry_of names s.works entry) found false) (sym is.was) in
        let passes : is_left_undone names nodes s.works change entry ≡ undone_by names entry nodes m =
        undone-moves names entry nodes change s.works ∙ all-one (undone_by names entry nodes) moves m apart one (All-weaker moves (λ x be differs.
        undone-off names entry x.number nodes x (found-number names entry x.number s.works x.old be.was) (found-number names entry x.number after x.new be.is)
        (λ e. differs (e ∙ sym here)) x.new refl) are) in
        left entry ∙ ap (λ b. has begun entry && b) passes
        ∙ undo-move names entry nodes s.works (has begun entry) m.number m.old m.new
        (free-found s.works valid valid.works.sound nodes nodes_are m.number m.old is.was entry)
        (λ e. put.still entry (were entry ∙ wanted ∙ e)) (λ e. put.others entry (comes-one entry m one here ∙ e) ∙ were entry ∙ wanted) ∙ sym wanted

    undone-elsewhere : (entry : Entry) → AllByRecursion (Misses entry) moves → has undone entry ≡ is_wanted names s.works entry
    undone-elsewhere entry misses =
        let passes : is_left_undone names nodes s.works change entry ≡ true =
        undone-moves names entry nodes change s.works ∙ list_all-each (undone_by names entry nodes) moves (All-with2 moves (λ m miss be.
        undone-off names entry m.number nodes m (found-number names entry m.number s.works m.old be.was) (found-number names entry m.number after m.new be.is)
        (λ e. false≢true (sym miss ∙ eq-eqb m.number entry.seq e)) m.new refl) misses are) in
        left entry ∙ ap (λ b. has begun entry && b) passes ∙ and-true (has begun entry) ∙ put.others entry (comes-not entry misses) ∙ were entry

    undone-by : (entry : Entry) (found : Option Move) → find (λ (m : Move). eqb m.number entry.seq) moves ≡ found → has undone entry ≡ is_wanted names s.works entry
    undone-by entry None is = undone-elsewhere entry (find-none (λ (m : Move). eqb m.number entry.seq) moves is)
    undone-by entry (Some m) is =
        undone-here entry m (find-stored (λ (m : Move). eqb m.number entry.seq) moves m is)
        (eqb-true m.number entry.seq (find-passes (λ (m : Move). eqb m.number entry.seq) moves m is))

    pub undone-ready : AreReady names s.works undone
    undone-ready entry = undone-by entry (find (λ (m : Move). eqb m.number entry.seq) moves) refl
