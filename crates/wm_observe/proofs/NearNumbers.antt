-- The numbers near those that a change touches are those of the records that it may tell another thing of.
use Rattle.std.proofs.Common.{◌≡◌, ℕ, ◌+◌, ◌<◌, ◌==◌, ◌&&◌, ◌||◌, Bool, true, false, cond, eqb, List, [], ◌∷◌, ◌++◌, length, map, filter, get_or, take, refl, sym, ◌∙◌, ap, arith}
use Rattle.std.specs.List.{AllByRecursion, list_any}
use Rattle.std.specs.Ordering.{is_eq, nat_cmp}
use Rattle.std.specs.BTreeSet.{BTreeSet, Updates}
use Rattle.std.proofs.Math.Bool.{or-false}
use Rattle.std.proofs.lemmas.Bool.{eq-eqb, ne_eqb}
use Rattle.std.proofs.lemmas.Bool.Decides.{nat_tests}
use Rattle.std.proofs.lemmas.List.{take_more}
use Rattle.std.proofs.lemmas.List.Folds.{list_any-append}
use Rattle.wm_collections.specs.Lists.{is_among, HasOne}
use Rattle.wm_collections.proofs.Lists.{All-any, All-append, All-map, All-weaker, All-with2, HasOne-weaker, list_any-agree, list_any-false, list_any-kept, list_any-one, list_any-stored, list_any_after}
use Rattle.wm_graph.specs.Descendants.{dependents}
use Rattle.wm_collections.specs.Sets.{has_number}
use Rattle.wm_graph.specs.Nodes.{NodeFields}
use Rattle.wm_machine.proofs.Runnings.{WorksAscend, WorksAscend-in_order}
use Rattle.wm_machine.specs.Valid.{Valid}
use Rattle.wm_machine.specs.declared.record.Record.{Record}
use Rattle.wm_machine.specs.declared.state.State.{State}
use Rattle.wm_observe.specs.Compared.{may_differ}
use Rattle.wm_observe.specs.Near.{is_near, is_near_any, is_near_replaced, HaveDiffering, IsWith}
use Rattle.wm_steps.proofs.Lookups.{stored-at}
use Rattle.wm_steps.proofs.ReplacedRecords.{keeps_number, told_keep, KeepsNumber}
use Rattle.wm_graph.proofs.Tests.{eq-swap}
use Rattle.wm_steps.proofs.Tests.{among-kept, any-or, any-swap}
use Rattle.wm_changes.specs.Nodes.{is_there, node_of, nodes_of}
use Rattle.wm_changes.specs.StepChanges.{seqs_of, Fits}
use Rattle.wm_changes.specs.Touched.{touches}
use Rattle.wm_changes.specs.declared.change.Replacement.{Replacement}
use Rattle.wm_changes.specs.declared.change.StepChange.{StepChange}

-- ---- numbers that are added to a set

with-case : (o a one : Bool) → ((o || a) || one) ≡ (o || (a || (one || false)))
with-case true a one = refl
with-case false true one = refl
with-case false false true = refl
with-case false false false = refl

-- those of one more of some
pub with-more : {T : Type 0} (test : T → ℕ → Bool) (xs : List T) (i : ℕ) (d x : T) → i < length xs → x ≡ get_or xs i d → (first old new : BTreeSet ℕ)
    → IsWith (λ number. list_any (λ y. test y number) (take i xs)) first old → IsWith (test x) old new
    → IsWith (λ number. list_any (λ y. test y number) (take (i + 1) xs)) first new
with-more {T} test xs i d x within is first old new so_far more number =
    let before = has_number first number in
    let some = list_any (λ y. test y number) (take i xs) in
    let taken : take (i + 1) xs ≡ take i xs ++ x ∷ [] = take_more xs i d within ∙ ap (λ (y : T). take i xs ++ y ∷ []) (sym is) in
    more number ∙ ap (λ b. b || test x number) (so_far number) ∙ with-case before some (test x number)
    ∙ ap (λ b. before || b) (sym (list_any-append (λ y. test y number) (take i xs) (x ∷ [])))
    ∙ ap (λ (ys : List T). before || list_any (λ y. test y number) ys) (sym taken)

set-case : (o new hit : Bool) → new ≡ cond hit true o → new ≡ (o || hit)
set-case true true true is = is
set-case true true false is = is
set-case true false true is = is
set-case true false false is = is
set-case false new true is = is
set-case false new false is = is

-- one number
pub with-one : (number : ℕ) (old new : BTreeSet ℕ) → Updates nat_cmp old new number true → IsWith (λ other. eqb number other) old new
with-one number old new updates other =
    let test : is_eq (nat_cmp number other) ≡ (number == other) = grind (arith, nat_tests) in
    set-case (has_number old other) (has_number new other) (eqb number other) (updates.0 other ∙ ap (λ b. cond b true (has_number old other)) test)

or-behind : (o a b : Bool) → ((o || a) || b) ≡ (o || (a || b))
or-behind true a b = refl
or-behind false a b = refl

-- a number and those of its dependents
pub with-near : (works : List Record) (touched : ℕ) (found : List ℕ) (first second third : BTreeSet ℕ) → found ≡ dependents (nodes_of works) touched
    → Updates nat_cmp first second touched true → IsWith (is_among found) second third → IsWith (is_near works touched) first third
with-near works touched found first second third are updates more number =
    more number ∙ ap (λ b. b || is_among found number) (with-one touched first second updates number)
    ∙ or-behind (has_number first number) (eqb touched number) (is_among found number)
    ∙ ap (λ (numbers : List ℕ). has_number first number || (eqb touched number || is_among numbers number)) are

-- ---- what a change touches, in one list

abbrev replaced_numbers : List Replacement → List ℕ
replaced_numbers replaced = map (λ one. one.work.seq) replaced

-- the numbers of the records that a change removes, and of those in whose place it puts another
abbrev touched_by : StepChange → List ℕ
touched_by change = change.removed ++ (replaced_numbers change.told ++ replaced_numbers change.replaced)

any-parts : {T : Type 0} (test : T → Bool) (xs ys zs : List T)
    → list_any test (xs ++ (ys ++ zs)) ≡ (list_any test xs || (list_any test ys || list_any test zs))
any-parts test xs ys zs = list_any-append test xs (ys ++ zs) ∙ ap (λ b. list_any test xs || b) (list_any-append test ys zs)

parts-case : (n a b c : Bool) → n ≡ false → (((n || a) || b) || c) ≡ (a || (b || c))
parts-case n a b c none = rw none (or-behind a b c)

-- all that are near what a change touches
all-near : (works : List Record) (change : StepChange) (none first second third : BTreeSet ℕ) → ((number : ℕ) → has_number none number ≡ false)
    → IsWith (is_near_any works change.removed) none first → IsWith (is_near_replaced works change.told) first second
    → IsWith (is_near_replaced works change.replaced) second third
    → (number : ℕ) → has_number third number ≡ is_near_any works (touched_by change) number
all-near works change none first second third empty removed told replaced number =
    let near : List ℕ → Bool = λ touched. is_near_any works touched number in
    let put : List Replacement → Bool = λ touched. is_near_replaced works touched number in
    let same : (touched : List Replacement) → put touched ≡ near (replaced_numbers touched) =
    λ touched. sym (list_any_after (λ one. is_near works one number) (λ (one : Replacement). one.work.seq) touched) in
    replaced number ∙ ap (λ b. b || put change.replaced) (told number) ∙ ap (λ b. (b || put change.told) || put change.replaced) (removed number)
    ∙ parts-case (has_number none number) (near change.removed) (put change.told) (put change.replaced) (empty number)
    ∙ ap (λ b. near change.removed || (b || put change.replaced)) (same change.told)
    ∙ ap (λ b. near change.removed || (near (replaced_numbers change.told) || b)) (same change.replaced)
    ∙ sym (any-parts (λ one. is_near works one number) change.removed (replaced_numbers change.told) (replaced_numbers change.replaced))

-- ---- the dependents of a record that is there

-- what is asked of the record of a number is asked of that record
abbrev IsAskedAlone : List Record → Record → Type 0
IsAskedAlone works work = (test : Record → Bool) → list_any (λ (other : Record). eqb other.seq work.seq && test other) works ≡ test work

asked_alone : (works : List Record) → WorksAscend works → AllByRecursion (IsAskedAlone works) works
asked_alone [] ascend = tt
asked_alone (work ∷ works) ascend = (
  λ test.
      let hit = eq-eqb work.seq work.seq refl in
      let others = list_any-false (λ (other : Record). eqb other.seq work.seq && test other) works (All-weaker works (λ other above.
      ap (λ b. b && test other) (ne_eqb other.seq work.seq (λ e. absurd (omega arith)))) ascend.0) in
      ap (λ b. (b && test work) || list_any (λ (other : Record). eqb other.seq work.seq && test other) works) hit ∙ ap (λ b. test work || b) others ∙ or-false (test work),
  All-with2 works (λ later above alone test.
      ap (λ b. (b && test work) || list_any (λ (other : Record). eqb other.seq later.seq && test other) works)
      (ne_eqb work.seq later.seq (λ e. absurd (omega arith))) ∙ alone test) ascend.0 (asked_alone works ascend.1),
)

-- whether a number is one of its dependents is asked of the record of that number
dependent-asked : (works : List Record) (touched number : ℕ) → is_among (dependents (nodes_of works) touched) number
    ≡ list_any (λ (work : Record). eqb work.seq number && is_among (filter (is_there works) work.prior) touched) works
dependent-asked works touched number =
    let needs : NodeFields → Bool = λ node. is_among node.before touched in
    list_any_after (λ one. eqb one number) (λ (node : NodeFields). node.seq) (filter needs (nodes_of works))
    ∙ list_any-kept (λ (node : NodeFields). eqb node.seq number) needs (nodes_of works)
    ∙ list_any_after (λ (node : NodeFields). eqb node.seq number && needs node) (node_of works) works

-- a record's number is near one that is there where it is that, or one of the record's prerequisites is
near-one : (works : List Record) (touched : ℕ) (work : Record) → IsAskedAlone works work → is_there works touched ≡ true
    → is_near works touched work.seq ≡ (eqb touched work.seq || is_among work.prior touched)
near-one works touched work alone there =
    ap (λ b. eqb touched work.seq || b)
    (dependent-asked works touched work.seq ∙ alone (λ other. is_among (filter (is_there works) other.prior) touched)
    ∙ among-kept (is_there works) work.prior touched there)

among-turned : (touched prior : List ℕ) → list_any (λ one. is_among prior one) touched ≡ list_any (is_among touched) prior
among-turned touched prior =
    any-swap (λ one number. eqb number one) touched prior
    ∙ list_any-agree (λ number. list_any (λ one. eqb number one) touched) (is_among touched) prior
    (All-any prior (λ number. list_any-agree (λ one. eqb number one) (λ one. eqb one number) touched (All-any touched (λ one. eq-swap number one))))

near-any : (works : List Record) (touched : List ℕ) (work : Record) → IsAskedAlone works work → AllByRecursion (λ one. is_there works one ≡ true) touched
    → is_near_any works touched work.seq ≡ (is_among touched work.seq || list_any (is_among touched) work.prior)
near-any works touched work alone there =
    list_any-agree (λ one. is_near works one work.seq) (λ one. eqb one work.seq || is_among work.prior one) touched
    (All-weaker touched (λ one is. near-one works one work alone is) there)
    ∙ any-or (λ one. eqb one work.seq) (λ one. is_among work.prior one) touched
    ∙ ap (λ b. is_among touched work.seq || b) (among-turned touched work.prior)

-- ---- what a change touches is there

seq-there : (works : List Record) (number : ℕ) → HasOne (λ other. other ≡ number) (seqs_of works) → is_there works number ≡ true
seq-there works number one =
    sym (list_any_after (λ other. eqb other number) (λ (work : Record). work.seq) works)
    ∙ list_any-stored (λ other. eqb other number) (seqs_of works) number one (eq-eqb number number refl)

replaced-there : (works : List Record) (replaced : List Replacement) → AllByRecursion (KeepsNumber works) replaced
    → AllByRecursion (λ number. is_there works number ≡ true) (replaced_numbers replaced)
replaced-there works replaced keep =
    All-map (λ number. is_there works number ≡ true) (λ (one : Replacement). one.work.seq) replaced
    (λ one is. seq-there works one.work.seq (stored-at (seqs_of works) one.index one.work.seq is)) keep

touched-there : (s : State) (change : StepChange) → Fits s change → AllByRecursion (λ number. is_there s.works number ≡ true) (touched_by change)
touched-there s change fits =
    let There : ℕ → Type 0 = λ number. is_there s.works number ≡ true in
    let told = replaced-there s.works change.told (told_keep s.works change.told fits.told) in
    let replaced = replaced-there s.works change.replaced (All-weaker change.replaced (keeps_number s.works) fits.replaced) in
    let removed = All-weaker change.removed (λ number one.
    list_any-one (λ (work : Record). eqb work.seq number) s.works (HasOne-weaker s.works (λ work is. eq-eqb work.seq number is) one)) fits.removed in
    All-append There change.removed (replaced_numbers change.told ++ replaced_numbers change.replaced) removed
    (All-append There (replaced_numbers change.told) (replaced_numbers change.replaced) told replaced)

touches-among : (change : StepChange) (number : ℕ) → touches change number ≡ is_among (touched_by change) number
touches-among change number =
    let hit : ℕ → Bool = λ one. eqb one number in
    let any : List Replacement → Bool = λ replaced. list_any (λ (one : Replacement). eqb one.work.seq number) replaced in
    let told = list_any_after hit (λ (one : Replacement). one.work.seq) change.told in
    let replaced = list_any_after hit (λ (one : Replacement). one.work.seq) change.replaced in
    ap (λ b. is_among change.removed number || (b || any change.replaced)) (sym told)
    ∙ ap (λ b. is_among change.removed number || (is_among (replaced_numbers change.told) number || b)) (sym replaced)
    ∙ sym (any-parts hit change.removed (replaced_numbers change.told) (replaced_numbers change.replaced))

differs-among : (change : StepChange) (work : Record)
    → may_differ change work ≡ (is_among (touched_by change) work.seq || list_any (is_among (touched_by change)) work.prior)
differs-among change work =
    ap (λ b. b || list_any (touches change) work.prior) (touches-among change work.seq)
    ∙ ap (λ b. is_among (touched_by change) work.seq || b)
    (list_any-agree (touches change) (is_among (touched_by change)) work.prior (All-any work.prior (touches-among change)))

-- ---- those of which it may differ

pub have_differing : (s : State) (change : StepChange) → Valid s → Fits s change → (none first second third : BTreeSet ℕ)
    → ((number : ℕ) → has_number none number ≡ false) → IsWith (is_near_any s.works change.removed) none first
    → IsWith (is_near_replaced s.works change.told) first second → IsWith (is_near_replaced s.works change.replaced) second third
    → HaveDiffering change s.works third
have_differing s change valid fits none first second third empty removed told replaced =
    let there = touched-there s change fits in
    All-weaker s.works (λ work alone.
    all-near s.works change none first second third empty removed told replaced work.seq
    ∙ near-any s.works (touched_by change) work alone there ∙ sym (differs-among change work))
    (asked_alone s.works (WorksAscend-in_order s.works valid.works.in_order))
