-- The records of a batch that are placed one after another, and those that they are placed after.
use Rattle.std.proofs.Common.{◌≡◌, ◌≢◌, ℕ, ◌+◌, ◌<◌, pos, Bool, true, false, eqb, List, [], ◌∷◌, ◌++◌, append_assoc, drop, filter, get_or, length, length-append, map, take, ◌&&◌, ◌||◌, Option, refl, sym, ◌∙◌, ap, arith, inl, inr}
use Rattle.std.specs.List.{AllByRecursion, list_any}
use Rattle.std.proofs.lemmas.Bool.{and_parts, cond_both, or_cases, or_left, or_right}
use Rattle.std.proofs.lemmas.Int.{ints}
use Rattle.std.proofs.lemmas.List.{drop_more, flat_map_more, map-append, take_more}
use Rattle.std.proofs.lemmas.List.Elements.{filter-append}
use Rattle.std.proofs.lemmas.List.Folds.{list_any-append}
use Rattle.std.proofs.lemmas.Simd.{map-map}
use Rattle.std.specs.Str.{bytes_eq}
use Rattle.wm_commands.proofs.Clearings.{cleared-id, cleared-number, cleared-phase, filter-map}
use Rattle.wm_commands.specs.Cleared.{cleared, phase_then, stays, with_cleared}
use Rattle.wm_commands.specs.Placed.{is_done, is_then, placed_record, placed_records, with_placed}
use Rattle.wm_commands.specs.declared.clearing.Clearing.{Clearing}
use Rattle.wm_keeper.specs.Keeper.{changed_number, AreOfDifferentNumbers}
use Rattle.wm_keeper.specs.declared.row.Change.{Change}
use Rattle.wm_collections.proofs.Lists.{All-any, All-append, All-weaker, HasOne-weaker, any_passes, filter-same, list_any-agree, list_any-kept, list_any-one, list_any_after, map-same}
use Rattle.wm_machine.specs.Enqueued.{new_numbers, numbers_of, placed_after, prior_of, with_work}
use Rattle.wm_machine.specs.Valid.{IsRecord}
use Rattle.wm_machine.specs.declared.record.How.{How}
use Rattle.wm_machine.specs.declared.record.Record.{Record}
use Rattle.wm_machine.specs.declared.state.State.{State}
use Rattle.wm_request.specs.declared.request.Node.{Node}
use Rattle.wm_steps.proofs.Nodes.{there-each}
use Rattle.wm_steps.proofs.StepFits.{unplaced}
use Rattle.wm_changes.specs.Nodes.{is_there}
use Rattle.wm_changes.specs.StepChanges.{put_work, seqs_of, HaveNextNumbers, NameEarlier}
use Rattle.wm_unique.proofs.Numbered.{filter_both}

and-swap : (a b : Bool) → (a && b) ≡ (b && a)
and-swap true true = refl
and-swap true false = refl
and-swap false true = refl
and-swap false false = refl

and-back : (a b c : Bool) → ((a && b) && c) ≡ (a && (c && b))
and-back true b c = and-swap b c
and-back false b c = refl

-- ---- the records placed

-- with none placed it is the state itself
pub with_none : (s : State) → with_placed s [] ≡ s
with_none s = unplaced s s.works s.works refl

-- one more is placed after those that are
with_one : (s : State) (before : List Record) (work : Record) → with_work (with_placed s before) work ≡ with_placed s (before ++ work ∷ [])
with_one s before work =
    let next : s.next + length before + 1 ≡ s.next + length (before ++ work ∷ []) = omega (arith, length-append before (work ∷ [])) in
    ap (λ (works : List Record). record s { works = works; next = s.next + length before + 1 }) (append_assoc s.works before (work ∷ []))
    ∙ ap (λ n. record s { works = s.works ++ (before ++ work ∷ []); next = n }) next

-- those placed first, and then the others
with_more : (s : State) (work : Record) (later : List Record) → with_placed (with_work s work) later ≡ with_placed s (work ∷ later)
with_more s work later =
    let next : s.next + 1 + length later ≡ s.next + length (work ∷ later) = omega arith in
    ap (λ (works : List Record). record s { works = works; next = s.next + 1 + length later }) (append_assoc s.works (work ∷ []) later)
    ∙ ap (λ n. record s { works = s.works ++ (work ∷ later); next = n }) next

-- the state after all are placed
pub placed-with : (s : State) (name : Option (List ℕ)) (after : List ℕ) (nodes : List Node)
    → placed_after s name after nodes ≡ with_placed s (placed_records s name after nodes)
placed-with s name after [] = sym (with_none s)
placed-with s name after (node ∷ nodes) =
    let work = placed_record s name after node in
    placed-with (with_work s work) name after nodes ∙ with_more s work (placed_records (with_work s work) name after nodes)

-- one work more is placed
pub placed-on : (s : State) (name : Option (List ℕ)) (after : List ℕ) (before : List Record) (work : Record) (nodes : List Node) (i : ℕ) (node : Node)
    → i < length nodes → node ≡ get_or nodes i node → work ≡ placed_record (with_placed s before) name after node
    → (before ++ work ∷ []) ++ placed_records (with_placed s (before ++ work ∷ [])) name after (drop (i + 1) nodes)
    ≡ before ++ placed_records (with_placed s before) name after (drop i nodes)
placed-on s name after before work nodes i node within is made =
    let left : drop i nodes ≡ node ∷ drop (i + 1) nodes = drop_more nodes i node within ∙ ap (λ n. n ∷ drop (i + 1) nodes) (sym is) in
    append_assoc before (work ∷ []) (placed_records (with_placed s (before ++ work ∷ [])) name after (drop (i + 1) nodes))
    ∙ ap (λ (t : State). before ++ (work ∷ placed_records t name after (drop (i + 1) nodes))) (sym (with_one s before work))
    ∙ ap (λ (w : Record). before ++ (w ∷ placed_records (with_work (with_placed s before) w) name after (drop (i + 1) nodes))) made
    ∙ ap (λ (ns : List Node). before ++ placed_records (with_placed s before) name after ns) (sym left)

-- ---- those that are stored and those that are placed

-- the numbers of the records with an id
abbrev pub numbers_with : List Record → List ℕ → List ℕ
numbers_with works id = map (λ (work : Record). work.seq) (filter (λ (work : Record). bytes_eq work.request.id id) works)

-- one id more
pub numbers-more : (works placed : List Record) (ids : List (List ℕ)) (i : ℕ) (id : List ℕ) → i < length ids → id ≡ get_or ids i id
    → (numbers_of (works ++ placed) (take i ids) ++ numbers_with works id) ++ numbers_with placed id ≡ numbers_of (works ++ placed) (take (i + 1) ids)
numbers-more works placed ids i id within is =
    let all = works ++ placed in
    let both : numbers_with works id ++ numbers_with placed id ≡ numbers_with all id =
    sym (map-append (λ (work : Record). work.seq) (filter (λ (work : Record). bytes_eq work.request.id id) works)
    (filter (λ (work : Record). bytes_eq work.request.id id) placed))
    ∙ ap (map (λ (work : Record). work.seq)) (sym (filter-append (λ (work : Record). bytes_eq work.request.id id) works placed)) in
    append_assoc (numbers_of all (take i ids)) (numbers_with works id) (numbers_with placed id) ∙ ap (λ rest. numbers_of all (take i ids) ++ rest) both
    ∙ flat_map_more (numbers_with all) [] (take i ids) id ∙ ap (numbers_of all) (ap (λ x. take i ids ++ x ∷ []) is ∙ sym (take_more ids i id within))

-- what holds of records that stay, once they are cleared
filter-cleared : (test : Record → Bool) (clearing : Clearing) (works : List Record) → ((work : Record) → test (cleared clearing work) ≡ test work)
    → filter test (with_cleared clearing works) ≡ map (cleared clearing) (filter (λ work. test work && stays clearing.removed work) works)
filter-cleared test clearing works same =
    filter-map test (cleared clearing) (filter (stays clearing.removed) works)
    ∙ ap (map (cleared clearing)) (filter_both (stays clearing.removed) (λ work. test (cleared clearing work)) works
    ∙ filter-same (λ work. stays clearing.removed work && test (cleared clearing work)) (λ work. test work && stays clearing.removed work) works (All-any works
    (λ work. ap (λ b. stays clearing.removed work && b) (same work) ∙ and-swap (stays clearing.removed work) (test work))))

-- the numbers of the records with an id, once they are cleared
pub numbers-cleared : (clearing : Clearing) (works : List Record) (id : List ℕ)
    → map (λ (work : Record). work.seq) (filter (λ work. bytes_eq work.request.id id && stays clearing.removed work) works)
    ≡ numbers_with (with_cleared clearing works) id
numbers-cleared clearing works id =
    let kept = filter (λ work. bytes_eq work.request.id id && stays clearing.removed work) works in
    sym (ap (map (λ (work : Record). work.seq)) (filter-cleared (λ work. bytes_eq work.request.id id) clearing works
    (λ work. ap (λ id_of. bytes_eq id_of id) (cleared-id clearing work))) ∙ map-map (λ (work : Record). work.seq) (cleared clearing) kept
    ∙ map-same (λ (work : Record). (cleared clearing work).seq) (λ (work : Record). work.seq) kept (All-any kept (cleared-number clearing)))

-- whether the record of a number is finished in a way, once they are cleared
any_cleared : (clearing : Clearing) (works : List Record) (number : ℕ) (way : How)
    → list_any (λ work. eqb work.seq number && is_done way work.phase) (with_cleared clearing works)
    ≡ list_any (λ work. eqb work.seq number && is_then clearing way work) works
any_cleared clearing works number way =
    list_any_after (λ work. eqb work.seq number && is_done way work.phase) (cleared clearing) (filter (stays clearing.removed) works)
    ∙ list_any-kept (λ work. eqb (cleared clearing work).seq number && is_done way (cleared clearing work).phase) (stays clearing.removed) works
    ∙ list_any-agree (λ work. (eqb (cleared clearing work).seq number && is_done way (cleared clearing work).phase) && stays clearing.removed work)
    (λ work. eqb work.seq number && is_then clearing way work) works (All-any works (λ work.
    ap (λ n. (eqb n number && is_done way (cleared clearing work).phase) && stays clearing.removed work) (cleared-number clearing work)
    ∙ ap (λ p. (eqb work.seq number && is_done way p) && stays clearing.removed work) (cleared-phase clearing work)
    ∙ and-back (eqb work.seq number) (is_done way (phase_then clearing.cancelled work)) (stays clearing.removed work)))

-- and so of one that is stored or placed
pub any_either : (clearing : Clearing) (works placed : List Record) (number : ℕ) (way : How)
    → list_any (λ work. eqb work.seq number && is_done way work.phase) (with_cleared clearing works ++ placed)
    ≡ (list_any (λ work. eqb work.seq number && is_then clearing way work) works || list_any (λ work. eqb work.seq number && is_done way work.phase) placed)
any_either clearing works placed number way =
    let test = λ (work : Record). eqb work.seq number && is_done way work.phase in
    list_any-append test (with_cleared clearing works) placed ∙ ap (λ b. b || list_any test placed) (any_cleared clearing works number way)

-- ---- their numbers

pub seqs-new : (s : State) (name : Option (List ℕ)) (after : List ℕ) (nodes : List Node)
    → seqs_of (placed_records s name after nodes) ≡ new_numbers s.next nodes
seqs-new s name after [] = refl
seqs-new s name after (node ∷ nodes) = ap (λ rest. s.next ∷ rest) (seqs-new (with_work s (placed_record s name after node)) name after nodes)

pub numbered : (s : State) (name : Option (List ℕ)) (after : List ℕ) (nodes : List Node) → HaveNextNumbers s.next (placed_records s name after nodes)
numbered s name after [] = tt
numbered s name after (node ∷ nodes) = (refl, numbered (with_work s (placed_record s name after node)) name after nodes)

pub as_many : (s : State) (name : Option (List ℕ)) (after : List ℕ) (nodes : List Node) → length (placed_records s name after nodes) ≡ length nodes
as_many s name after [] = refl
as_many s name after (node ∷ nodes) = let rest = as_many (with_work s (placed_record s name after node)) name after nodes in omega (arith, rest)

-- the rows of later ones have other numbers
pub later-numbers : (number next : ℕ) (works : List Record) → number < next → HaveNextNumbers next works
    → AllByRecursion (λ (later : Change). pos number ≢ changed_number later) (map put_work works)
later-numbers number next [] below numbered = tt
later-numbers number next (work ∷ works) below numbered = (
  λ same. let is = numbered.0 in let clash : pos number ≡ pos work.seq = same in absurd (omega (arith, ints)),
  later-numbers number (next + 1) works (omega arith) numbered.1,
)

pub apart : (next : ℕ) (works : List Record) → HaveNextNumbers next works → AreOfDifferentNumbers (map put_work works)
apart next [] numbered = tt
apart next (work ∷ works) numbered =
    (later-numbers work.seq (next + 1) works (let is = numbered.0 in omega arith) numbered.1, apart (next + 1) works numbered.1)

-- ---- their prerequisites

-- the numbers that are found are those of records that are there
numbers-there : (all : List Record) (keep : Record → Bool) (works : List Record) → AllByRecursion (λ work. is_there all work.seq ≡ true) works
    → AllByRecursion (λ number. is_there all number ≡ true) (map (λ (work : Record). work.seq) (filter keep works))
numbers-there all keep [] there = tt
numbers-there all keep (work ∷ works) there =
    let rest = numbers-there all keep works there.1 in
    cond_both (keep work) (work ∷ filter keep works) (filter keep works)
    (λ (kept : List Record). AllByRecursion (λ number. is_there all number ≡ true) (map (λ (work : Record). work.seq) kept)) (λ e. (there.0, rest)) (λ e. rest)

prior-there : (works : List Record) (ids : List (List ℕ)) → AllByRecursion (λ number. is_there works number ≡ true) (numbers_of works ids)
prior-there works [] = tt
prior-there works (id ∷ ids) =
    All-append _ (numbers_with works id) (numbers_of works ids)
    (numbers-there works (λ (work : Record). bytes_eq work.request.id id) works (there-each works)) (prior-there works ids)

-- those of a new work are there, where those are that it comes after if it names none
placed-prior : (all works : List Record) (after : List ℕ) (ids : List (List ℕ))
    → ((number : ℕ) → is_there works number ≡ true → is_there all number ≡ true) → AllByRecursion (λ number. is_there all number ≡ true) after
    → AllByRecursion (λ number. is_there all number ≡ true) (prior_of works after ids)
placed-prior all works [] ids more afters = All-weaker (numbers_of works ids) more (prior-there works ids)
placed-prior all works (one ∷ after) [] more afters = afters
placed-prior all works (one ∷ after) (id ∷ ids) more afters = All-weaker (numbers_of works (id ∷ ids)) more (prior-there works (id ∷ ids))

-- what is there is there beside one more
there-before : (works : List Record) (work : Record) (number : ℕ) → is_there works number ≡ true → is_there (works ++ work ∷ []) number ≡ true
there-before works work number is = list_any-append (λ (w : Record). eqb w.seq number) works (work ∷ []) ∙ or_left _ _ is

there-beside : (all works : List Record) (work : Record) → ((number : ℕ) → is_there works number ≡ true → is_there all number ≡ true) → (number : ℕ)
    → is_there (works ++ work ∷ []) number ≡ true → is_there (all ++ work ∷ []) number ≡ true
there-beside all works work more number is =
    let parts : (is_there works number || (eqb work.seq number || false)) ≡ true =
    sym (list_any-append (λ (w : Record). eqb w.seq number) works (work ∷ [])) ∙ is in
    let either : (is_there all number || (eqb work.seq number || false)) ≡ true = elim (or_cases (is_there works number) (eqb work.seq number || false) parts) [
      | inl before ↦ or_left _ _ (more number before)
      | inr last ↦ or_right _ _ last
    ] in
    list_any-append (λ (w : Record). eqb w.seq number) all (work ∷ []) ∙ either

-- each new record names records before it, which may be more than those of the state
pub named-earlier : (s : State) (all : List Record) (name : Option (List ℕ)) (after : List ℕ) (nodes : List Node)
    → ((number : ℕ) → is_there s.works number ≡ true → is_there all number ≡ true) → AllByRecursion (λ number. is_there all number ≡ true) after
    → AllByRecursion IsRecord (placed_records s name after nodes) → NameEarlier all (placed_records s name after nodes)
named-earlier s all name after [] more afters records = tt
named-earlier s all name after (node ∷ nodes) more afters records =
    let work = placed_record s name after node in
    let is : IsRecord work = records.0 in (
      record { few = is.prior.few; different = is.prior.different; there = placed-prior all s.works after node.after more afters },
      named-earlier (with_work s work) (all ++ work ∷ []) name after nodes (there-beside all s.works work more)
          (All-weaker after (there-before all work) afters) records.1,
    )

-- what is there once the records are cleared was there
pub there-cleared : (clearing : Clearing) (works : List Record) (number : ℕ) → is_there (with_cleared clearing works) number ≡ true
    → is_there works number ≡ true
there-cleared clearing works number is =
    let kept : Record → Bool = λ work. eqb (cleared clearing work).seq number && stays clearing.removed work in
    let passes : list_any kept works ≡ true = sym (list_any_after (λ work. eqb work.seq number) (cleared clearing) (filter (stays clearing.removed) works)
    ∙ list_any-kept (λ work. eqb (cleared clearing work).seq number) (stays clearing.removed) works) ∙ is in
    list_any-one (λ work. eqb work.seq number) works
    (HasOne-weaker works (λ work e. ap (λ n. eqb n number) (sym (cleared-number clearing work)) ∙ (and_parts _ _ e).0) (any_passes kept works passes))
