-- The works of a group are a batch without a fault, each of a request within its limits, so the commands that a seed gives are askable.
use Rattle.std.proofs.Common.{◌≡◌, ℕ, zero, suc, ◌+◌, ◌*◌, ◌%◌, ◌==◌, ◌^◌, ◌<◌, ◌≤◌, Bool, true, false, cond, List, [], ◌∷◌, ◌++◌, length, None, Ok, refl, sym, ap, ◌∙◌, append_assoc, add-one, add-suc, arith}
use Rattle.std.specs.Prelude.{codes}
use Rattle.std.specs.Int.{from_be_bytes, to_be_bytes, w128}
use Rattle.std.specs.List.{AllByRecursion}
use Rattle.std.specs.Str.{bytes_eq}
use Rattle.std.proofs.lemmas.Bool.{false_from_ne_true}
use Rattle.std.proofs.lemmas.List.{length-append}
use Rattle.uuid.proofs.OrderLemmas.{from_be_bytes-to_be_bytes_16}
use Rattle.wm_chain.proofs.Sound.{IsBatch-sound}
use Rattle.wm_chain.specs.Walk.{fault_in}
use Rattle.wm_data.specs.Size.{IsData}
use Rattle.wm_machine.proofs.Placings.{bytes_eq-same}
use Rattle.wm_machine.specs.Built.{AreAsked}
use Rattle.wm_machine.specs.Outcome.{IsAskable}
use Rattle.wm_machine.specs.declared.command.Command.{Command}
use Rattle.wm_request.proofs.Limits.{IsShortText-is_short}
use Rattle.wm_request.specs.Building.{built_of, is_short, one_time_of}
use Rattle.wm_request.specs.Requests.{AreTags, IsRequest}
use Rattle.wm_schedule.specs.Moments.{IsDelay}
use Rattle.wm_generator.specs.Generated.{after_groups, class_of, drawn, drawn_input, drawn_on, drawn_work, first_work, generated, group_of, groups_of, id_of, is_late, late_tag, next_number, works_of}

-- ---- ids

low_differ : (seed low other : ℕ) → seed < 2 ^ 64 → low < other → other < 2 ^ 64
    → to_be_bytes w128 (seed * 2 ^ 64 + low) ≡ to_be_bytes w128 (seed * 2 ^ 64 + other) → seed * 2 ^ 64 + low ≡ seed * 2 ^ 64 + other
low_differ seed low other fits less within same =
    sym (from_be_bytes-to_be_bytes_16 (seed * 2 ^ 64 + low) (omega arith)) ∙ ap (from_be_bytes w128) same
    ∙ from_be_bytes-to_be_bytes_16 (seed * 2 ^ 64 + other) (omega arith)

-- two works of a group have different ids
apart : (seed group place other : ℕ) → seed < 2 ^ 64 → group < 2 ^ 32 → place < other → other ≤ 5
    → bytes_eq (id_of seed group place) (id_of seed group other) ≡ false
unfolding id_of
apart seed group place other fits within less few =
    let one = to_be_bytes w128 (seed * 2 ^ 64 + (5 * group + place)) in
    let two = to_be_bytes w128 (seed * 2 ^ 64 + (5 * group + other)) in
    false_from_ne_true (bytes_eq one two) (λ is.
    let same = low_differ seed (5 * group + place) (5 * group + other) fits (omega arith) (omega arith) (bytes_eq-same one two is) in
    omega arith)

length-id_of : (seed group place : ℕ) → length (id_of seed group place) ≡ 16
unfolding id_of
length-id_of seed group place = refl

-- ---- no fault

pub faultless : (seed group number : ℕ) → seed < 2 ^ 64 → group < 2 ^ 32 → fault_in (works_of seed group number) ≡ None
unfolding works_of
faultless seed group number fits within =
    rw (
      apart seed group 1 2 fits within (omega arith) (omega arith),
      apart seed group 1 3 fits within (omega arith) (omega arith),
      apart seed group 1 4 fits within (omega arith) (omega arith),
      apart seed group 1 5 fits within (omega arith) (omega arith),
      apart seed group 2 3 fits within (omega arith) (omega arith),
      apart seed group 2 4 fits within (omega arith) (omega arith),
      apart seed group 2 5 fits within (omega arith) (omega arith),
      apart seed group 3 4 fits within (omega arith) (omega arith),
      apart seed group 3 5 fits within (omega arith) (omega arith),
      apart seed group 4 5 fits within (omega arith) (omega arith),
    ) refl

-- ---- classes

-- one of four, by three tests
one_of : Bool → Bool → Bool → List ℕ
one_of sum fail retry = cond sum (codes "Sum") (cond fail (codes "FailUntil") (cond retry (codes "RetryUntil") (codes "Echo")))

short-one_of : (sum fail retry : Bool) → is_short (one_of sum fail retry) ≡ true
unfolding one_of
short-one_of true fail retry = refl
short-one_of false true retry = refl
short-one_of false false true = refl
short-one_of false false false = refl

short-class_of : (group : ℕ) → is_short (class_of group) ≡ true
unfolding class_of one_of
short-class_of group = short-one_of (group % 4 == 0) (group % 4 == 1) (group % 4 == 2)

built-short : (id class : List ℕ) → is_short class ≡ true → built_of (one_time_of id class) ≡ Ok (one_time_of id class)
built-short id class short = rw short refl

pub built-class_of : (id : List ℕ) (group : ℕ) → built_of (one_time_of id (class_of group)) ≡ Ok (one_time_of id (class_of group))
built-class_of id group = built-short id (class_of group) (short-class_of group)

-- ---- requests

IsRequest-plain : (id class : List ℕ) → length id ≡ 16 → is_short class ≡ true → IsRequest (one_time_of id class)
IsRequest-plain id class sixteen short = record {
  id = sixteen;
  input = record { ascending = tt; named = tt; in_type = tt; size = omega arith };
  within = record {
    class_is = IsShortText-is_short class short;
    tags_are = record { few = omega arith; sorted = record { short = tt; ascending = tt } };
    backoff_is = record { least = omega arith; most = omega arith };
    delay_is = omega arith;
    period_is = tt;
    keep_is = omega arith;
    next_is = tt;
  };
}

IsData-drawn : (number : ℕ) → IsData (drawn_input number)
unfolding drawn drawn_input
IsData-drawn number = record {
  ascending = (tt, tt);
  named = (omega arith, tt);
  in_type = (record { sfits = omega arith }, tt);
  size = omega arith;
}

IsRequest-drawn : (id : List ℕ) (number : ℕ) → length id ≡ 16 → IsRequest (drawn_work id number)
IsRequest-drawn id number sixteen = record {
  id = sixteen;
  input = IsData-drawn (drawn_on number 2);
  within = (IsRequest-plain id (codes "Echo") sixteen refl).within;
}

-- one that may be late
IsDelay-late : (late : Bool) → IsDelay (cond late 86400000 0)
IsDelay-late true = omega arith
IsDelay-late false = omega arith

AreTags-late : (late : Bool) → AreTags (cond late (late_tag ∷ []) [])
AreTags-late true = record {
  few = omega arith;
  sorted = record { short = (record { not_empty = omega arith; short = omega arith }, tt); ascending = (tt, tt) };
}
AreTags-late false = record { few = omega arith; sorted = record { short = tt; ascending = tt } }

IsRequest-first : (seed group number : ℕ) → IsRequest (first_work seed group number)
IsRequest-first seed group number =
    let plain = IsRequest-drawn (id_of seed group 1) number (length-id_of seed group 1) in
    record {
      id = plain.id;
      input = plain.input;
      within = record {
        class_is = plain.within.class_is;
        tags_are = AreTags-late (is_late group);
        backoff_is = plain.within.backoff_is;
        delay_is = IsDelay-late (is_late group);
        period_is = tt;
        keep_is = plain.within.keep_is;
        next_is = tt;
      };
    }

-- ---- commands

AreAsked-works_of : (seed group number : ℕ) → seed < 2 ^ 64 → group < 2 ^ 32 → AreAsked (works_of seed group number)
unfolding works_of
AreAsked-works_of seed group number fits within = record {
  batch = IsBatch-sound (works_of seed group number) (omega arith) (faultless seed group number fits within);
  requests = (
    IsRequest-first seed group number,
    (
      IsRequest-drawn (id_of seed group 2) (drawn_on number 2) (length-id_of seed group 2),
      (
        IsRequest-drawn (id_of seed group 3) (drawn_on number 4) (length-id_of seed group 3),
        (
          IsRequest-plain (id_of seed group 4) (class_of group) (length-id_of seed group 4) (short-class_of group),
          (IsRequest-plain (id_of seed group 5) (codes "Echo") (length-id_of seed group 5) refl, tt),
        ),
      ),
    ),
  );
}

both : (commands more : List Command) → AllByRecursion IsAskable commands → AllByRecursion IsAskable more → AllByRecursion IsAskable (commands ++ more)
both [] more all others = others
both (command ∷ commands) more all others = (all.0, both commands more all.1 others)

AreAskable-groups_of : (seed groups : ℕ) → seed < 2 ^ 64 → groups ≤ 2 ^ 32 → AllByRecursion IsAskable (groups_of seed groups)
AreAskable-groups_of seed zero fits within = tt
AreAskable-groups_of seed (suc group) fits within =
    both (groups_of seed group) (group_of seed group (drawn_on seed (6 * group)) ∷ [])
    (AreAskable-groups_of seed group fits (omega (arith, add-one group)))
    (AreAsked-works_of seed group (drawn_on seed (6 * group)) fits (omega (arith, add-one group)), tt)

pub AreAskable-generated : (seed groups : ℕ) → seed < 2 ^ 64 → groups ≤ 2 ^ 32 → AllByRecursion IsAskable (generated seed groups)
unfolding generated
AreAskable-generated seed groups fits within = (
  tt,
  (
    tt,
    both (groups_of seed groups) after_groups (AreAskable-groups_of seed groups fits within)
        (tt, (tt, (tt, (tt, (tt, (omega arith, (tt, (tt, tt)))))))),
  ),
)

length-groups_of : (seed groups : ℕ) → length (groups_of seed groups) ≡ groups
length-groups_of seed zero = refl
length-groups_of seed (suc group) =
    length-append (groups_of seed group) (group_of seed group (drawn_on seed (6 * group)) ∷ []) ∙ ap (λ count. count + 1) (length-groups_of seed group) ∙ add-one group

-- two commands before the groups, and eight after them
pub length-generated : (seed groups : ℕ) → length (generated seed groups) ≡ groups + 10
unfolding generated
length-generated seed groups =
    let long = length-append (groups_of seed groups) after_groups in
    let many = length-groups_of seed groups in
    omega arith

-- ---- one group more

drawn_on-more : (number count more : ℕ) → drawn_on (drawn_on number count) more ≡ drawn_on number (count + more)
drawn_on-more number count zero =
    let none : count ≡ count + 0 = omega arith in
    ap (drawn_on number) none
drawn_on-more number count (suc more) = ap next_number (drawn_on-more number count more) ∙ ap (drawn_on number) (sym (add-suc count more))

-- six numbers more are drawn
pub drawn_on-six : (seed number group : ℕ) → number ≡ drawn_on seed (6 * group) → drawn_on number 6 ≡ drawn_on seed (6 * (group + 1))
drawn_on-six seed number group is =
    let six : 6 * group + 6 ≡ 6 * (group + 1) = omega arith in
    rw is (drawn_on-more seed (6 * group) 6 ∙ ap (drawn_on seed) six)

-- its command is put at the end
pub groups_of-more : (before old new : List Command) (seed group number : ℕ) (command : Command) → old ≡ before ++ groups_of seed group
    → number ≡ drawn_on seed (6 * group) → command ≡ group_of seed group number → new ≡ old ++ command ∷ [] → new ≡ before ++ groups_of seed (group + 1)
groups_of-more before old new seed group number command so_far drawn is pushed =
    let last : command ≡ group_of seed group (drawn_on seed (6 * group)) = is ∙ ap (group_of seed group) drawn in
    rw (pushed, so_far, last, add-one group) (append_assoc before (groups_of seed group) (group_of seed group (drawn_on seed (6 * group)) ∷ []))
