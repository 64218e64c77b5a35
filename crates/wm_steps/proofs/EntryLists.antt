-- Entries side by side with their records stay so through a step.
use Rattle.std.proofs.Common.{◌≡◌, ◌≢◌, ℕ, zero, suc, ◌<◌, ◌==◌, ◌||◌, ◌+◌, Bool, true, false, cond, nat_lt, List, [], ◌∷◌, ◌++◌, append_assoc, get_or, length, map, take, Option, None, Some, refl, sym, ◌∙◌, ap, subst, arith, inl, inr}
use Rattle.std.specs.List.{AllByRecursion, list_any}
use Rattle.std.specs.Str.{bytes_eq}
use Rattle.std.proofs.lemmas.Bool.{cases_Bool, eqb-true, ne_eqb}
use Rattle.std.proofs.lemmas.Bool.Decides.{nat_tests}
use Rattle.std.proofs.lemmas.List.{map-append, take_more}
use Rattle.std.proofs.lemmas.Slice.Eq.{bytes_eq-Decides}
use Rattle.wm_collections.proofs.Lists.{All-any, All-back, All-weaker, All-with2, list_any-false, list_any_after}
use Rattle.wm_collections.specs.Lists.{AllLater, NumbersAscend}
use Rattle.wm_index.specs.Entries.{changed_at, has_seq, keeping_tags, numbers_of, with_entry, Entry}
use Rattle.wm_machine.specs.declared.record.Record.{Record}
use Rattle.wm_steps.specs.Entries.{new_entry, settling, unnaming, with_changed, AreEntriesOf, HaveEntries}
use Rattle.wm_changes.specs.StepChanges.{seqs_of}
use Rattle.wm_changes.specs.declared.change.Replacement.{Replacement}

-- ---- numbers

pub entries-numbers : (works : List Record) (entries : List Entry) → AreEntriesOf works entries → numbers_of entries ≡ seqs_of works
entries-numbers [] [] are = refl
entries-numbers [] (entry ∷ entries) are = absurd are
entries-numbers (work ∷ works) [] are = absurd are
entries-numbers (work ∷ works) (entry ∷ entries) are =
    ap (λ n. n ∷ numbers_of entries) are.0.seq ∙ ap (λ numbers. work.seq ∷ numbers) (entries-numbers works entries are.1)

-- what holds of the number of each record holds of that of each entry
pub entries-each : (P : ℕ → Type 0) (works : List Record) (entries : List Entry) → AreEntriesOf works entries → AllByRecursion (λ work. P work.seq) works
    → AllByRecursion (λ entry. P entry.seq) entries
entries-each P [] [] are all = tt
entries-each P [] (entry ∷ entries) are all = absurd are
entries-each P (work ∷ works) [] are all = absurd are
entries-each P (work ∷ works) (entry ∷ entries) are all = (subst P (sym are.0.seq) all.0, entries-each P works entries are.1 all.1)

pub entries-append : (works more : List Record) (entries others : List Entry) → AreEntriesOf works entries → AreEntriesOf more others
    → AreEntriesOf (works ++ more) (entries ++ others)
entries-append [] more [] others are also = also
entries-append [] more (entry ∷ entries) others are also = absurd are
entries-append (work ∷ works) more [] others are also = absurd are
entries-append (work ∷ works) more (entry ∷ entries) others are also = (are.0, entries-append works more entries others are.1 also)

-- each of the first stands so to each behind
pub across : {T : Type 0} (R : T → T → Type 0) (xs ys : List T) → AllLater R (xs ++ ys) → AllByRecursion (λ y. AllByRecursion (λ x. R x y) xs) ys
across R [] ys all = All-any ys (λ y. tt)
across R (x ∷ xs) ys all = All-with2 ys (λ y one more. (one, more)) (All-back (R x) xs ys all.0) (across R xs ys all.1)

each-number : (P : ℕ → Type 0) (entries : List Entry) → AllByRecursion P (numbers_of entries) → AllByRecursion (λ entry. P entry.seq) entries
each-number P [] all = tt
each-number P (entry ∷ entries) all = (all.0, each-number P entries all.1)

-- ---- a change of one entry

-- a change leaves the numbers
abbrev pub KeepsSeq : (Entry → Entry) → Type 0
KeepsSeq change = (entry : Entry) → (change entry).seq ≡ entry.seq

pub settling-keeps : (work : Record) → KeepsSeq (settling work)
settling-keeps work entry = unnaming-keeps work.name (keeping_tags work.request.tags entry) where
  unnaming-keeps : (name : Option (List ℕ)) → KeepsSeq (unnaming name)
  unnaming-keeps None entry = refl
  unnaming-keeps (Some name) entry = refl

abbrev pub IsMissed : ℕ → Entry → Type 0
IsMissed seq entry = (entry.seq == seq) ≡ false

pub changed-missed : (change : Entry → Entry) (seq : ℕ) (entries : List Entry) → AllByRecursion (IsMissed seq) entries → changed_at change seq entries ≡ entries
changed-missed change seq [] missed = refl
changed-missed change seq (entry ∷ entries) missed = rw (missed.0) (ap (λ rest. entry ∷ rest) (changed-missed change seq entries missed.1))

pub missed-above : (seq : ℕ) (entries : List Entry) → AllByRecursion (λ entry. seq < entry.seq) entries → AllByRecursion (IsMissed seq) entries
missed-above seq entries above = All-weaker entries (λ entry less. ne_eqb entry.seq seq (λ e. absurd (omega (arith, less, e)))) above

pub missed-below : (seq : ℕ) (entries : List Entry) → AllByRecursion (λ entry. entry.seq < seq) entries → AllByRecursion (IsMissed seq) entries
missed-below seq entries below = All-weaker entries (λ entry less. ne_eqb entry.seq seq (λ e. absurd (omega (arith, less, e)))) below

abbrev changed-one : (Entry → Entry) → ℕ → Entry → Entry
changed-one change seq entry = cond (entry.seq == seq) (change entry) entry

-- changes of two numbers can be made in either order
one-commute : (f g : Entry → Entry) (m n : ℕ) → KeepsSeq f → KeepsSeq g → m ≢ n → (entry : Entry)
    → changed-one f m (changed-one g n entry) ≡ changed-one g n (changed-one f m entry)
one-commute f g m n keeps also differ entry =
    elim (cases_Bool (entry.seq == m)) as (λ _. changed-one f m (changed-one g n entry) ≡ changed-one g n (changed-one f m entry)) [
      | inl is ↦
          (let other : (entry.seq == n) ≡ false = ne_eqb entry.seq n (λ e. absurd (differ (sym (eqb-true entry.seq m is) ∙ e))) in
          let still : ((f entry).seq == n) ≡ false = subst (λ k. (k == n) ≡ false) (sym (keeps entry)) other in
          rw (other, is, still) refl)
      | inr isnt ↦
          elim (cases_Bool (entry.seq == n)) as (λ _. changed-one f m (changed-one g n entry) ≡ changed-one g n (changed-one f m entry)) [
            | inl here ↦
                (let still : ((g entry).seq == m) ≡ false = subst (λ k. (k == m) ≡ false) (sym (also entry)) isnt in
                rw (isnt, here, still) refl)
            | inr nor ↦ rw (isnt, nor, isnt) refl
          ]
    ]

pub changed-commute : (f g : Entry → Entry) (m n : ℕ) → KeepsSeq f → KeepsSeq g → m ≢ n → (entries : List Entry)
    → changed_at f m (changed_at g n entries) ≡ changed_at g n (changed_at f m entries)
changed-commute f g m n keeps also differ [] = refl
changed-commute f g m n keeps also differ (entry ∷ entries) =
    ap (λ (one : Entry). one ∷ changed_at f m (changed_at g n entries)) (one-commute f g m n keeps also differ entry)
    ∙ ap (λ rest. changed-one g n (changed-one f m entry) ∷ rest) (changed-commute f g m n keeps also differ entries)

-- two changes of one number are one
pub changed-twice : (f g : Entry → Entry) (seq : ℕ) → KeepsSeq g → (entries : List Entry)
    → changed_at f seq (changed_at g seq entries) ≡ changed_at (λ entry. f (g entry)) seq entries
changed-twice f g seq keeps [] = refl
changed-twice f g seq keeps (entry ∷ entries) =
    let rest = changed-twice f g seq keeps entries in
    elim (cases_Bool (entry.seq == seq)) as (λ _. changed_at f seq (changed_at g seq (entry ∷ entries)) ≡ changed_at (λ entry. f (g entry)) seq (entry ∷ entries)) [
      | inl is ↦
          (let still : ((g entry).seq == seq) ≡ true = subst (λ k. (k == seq) ≡ true) (sym (keeps entry)) is in
          rw (is, still) (ap (λ (more : List Entry). f (g entry) ∷ more) rest))
      | inr isnt ↦ rw (isnt, isnt) (ap (λ (more : List Entry). entry ∷ more) rest)
    ]

-- and a change leaves which numbers are there
pub numbers-changed : (change : Entry → Entry) (seq : ℕ) → KeepsSeq change → (entries : List Entry) → numbers_of (changed_at change seq entries) ≡ numbers_of entries
numbers-changed change seq keeps [] = refl
numbers-changed change seq keeps (entry ∷ entries) =
    let rest = numbers-changed change seq keeps entries in
    elim (cases_Bool (entry.seq == seq)) as (λ _. numbers_of (changed_at change seq (entry ∷ entries)) ≡ numbers_of (entry ∷ entries)) [
      | inl is ↦ rw is (ap (λ n. n ∷ numbers_of (changed_at change seq entries)) (keeps entry) ∙ ap (λ numbers. entry.seq ∷ numbers) rest)
      | inr isnt ↦ rw isnt (ap (λ numbers. entry.seq ∷ numbers) rest)
    ]

-- ---- records one after another

-- one record more
pub with_changed-more : (change : Record → Entry → Entry) (replaced : List Replacement) (i : ℕ) (r : Replacement) (entries : List Entry) → i < length replaced
    → r ≡ get_or replaced i r
    → with_changed change (take (i + 1) replaced) entries ≡ changed_at (change r.work) r.work.seq (with_changed change (take i replaced) entries)
with_changed-more change replaced i r entries within is =
    ap (λ some. with_changed change some entries) (take_more replaced i r within ∙ ap (λ one. take i replaced ++ one ∷ []) (sym is))
    ∙ pushed (take i replaced) entries where
      pushed : (some : List Replacement) (entries : List Entry)
          → with_changed change (some ++ r ∷ []) entries ≡ changed_at (change r.work) r.work.seq (with_changed change some entries)
      pushed [] entries = refl
      pushed (other ∷ some) entries = pushed some (changed_at (change other.work) other.work.seq entries)

-- the record at a place is there with all
pub at-there : (replaced : List Replacement) (i : ℕ) (r : Replacement) (entries : List Entry) → i < length replaced → r ≡ get_or replaced i r
    → HaveEntries replaced entries → has_seq entries r.work.seq ≡ true
at-there [] i r entries within is there = absurd (omega (arith, within))
at-there (other ∷ replaced) zero r entries within is there = subst (λ (one : Replacement). has_seq entries one.work.seq ≡ true) (sym is) there.0
at-there (other ∷ replaced) (suc i) r entries within is there = at-there replaced i r entries (omega (arith, within)) is there.1

pub numbers-with_changed : (change : Record → Entry → Entry) (replaced : List Replacement) (entries : List Entry) → ((work : Record) → KeepsSeq (change work))
    → numbers_of (with_changed change replaced entries) ≡ numbers_of entries
numbers-with_changed change [] entries keeps = refl
numbers-with_changed change (r ∷ later) entries keeps =
    numbers-with_changed change later (changed_at (change r.work) r.work.seq entries) keeps ∙ numbers-changed (change r.work) r.work.seq (keeps r.work) entries

-- entries of the same numbers have the same ones
pub has-numbers : (one other : List Entry) (seq : ℕ) → numbers_of one ≡ numbers_of other → has_seq one seq ≡ has_seq other seq
has-numbers one other seq same =
    sym (list_any_after (λ n. n == seq) (λ (entry : Entry). entry.seq) one) ∙ ap (list_any (λ n. n == seq)) same
    ∙ list_any_after (λ n. n == seq) (λ (entry : Entry). entry.seq) other

pub has-with_changed : (change : Record → Entry → Entry) (replaced : List Replacement) (entries : List Entry) (seq : ℕ)
    → ((work : Record) → KeepsSeq (change work)) → has_seq (with_changed change replaced entries) seq ≡ has_seq entries seq
has-with_changed change replaced entries seq keeps =
    has-numbers (with_changed change replaced entries) entries seq (numbers-with_changed change replaced entries keeps)

-- ---- one that is there, or isn't

pub other-bytes : (one other : List ℕ) → one ≢ other → bytes_eq one other ≡ false
other-bytes one other differ = elim (cases_Bool (bytes_eq one other)) as (λ _. bytes_eq one other ≡ false) [
  | inl is ↦ absurd (differ ((bytes_eq-Decides one other).0 is))
  | inr isnt ↦ isnt
]

pub absent-below : (seq : ℕ) (entries : List Entry) → AllByRecursion (λ entry. entry.seq < seq) entries → has_seq entries seq ≡ false
absent-below seq entries below = list_any-false (λ (entry : Entry). entry.seq == seq) entries (missed-below seq entries below)

both-false : (a b : Bool) → (a || b) ≡ false → (a ≡ false) × (b ≡ false)
both-false true b neither = absurd cc
both-false false b neither = (refl, neither)

pub missed-absent : (seq : ℕ) (entries : List Entry) → has_seq entries seq ≡ false → AllByRecursion (IsMissed seq) entries
missed-absent seq [] absent = tt
missed-absent seq (entry ∷ entries) absent =
    let both = both-false (entry.seq == seq) (has_seq entries seq) absent in
    (both.0, missed-absent seq entries both.1)

not_less : (a b : ℕ) → b < a → nat_lt a b ≡ false
not_less a b less = grind (arith, nat_tests)

-- one of a greater number comes behind all
pub with_entry-last : (entry : Entry) (entries : List Entry) → AllByRecursion (λ other. other.seq < entry.seq) entries → with_entry entry entries ≡ entries ++ entry ∷ []
with_entry-last entry [] below = refl
with_entry-last entry (other ∷ entries) below =
    rw (not_less entry.seq other.seq below.0) (ap (λ rest. other ∷ rest) (with_entry-last entry entries below.1))

-- a record at a place among new ones has a greater number than those before it
pub ahead : (entries : List Entry) (placed : List Record) (i : ℕ) (work : Record) → i < length placed → work ≡ get_or placed i work
    → NumbersAscend (numbers_of entries ++ seqs_of placed) → AllByRecursion (λ entry. entry.seq < work.seq) (entries ++ map new_entry (take i placed))
ahead entries [] i work within is ascend = absurd (omega (arith, within))
ahead entries (first ∷ placed) zero work within is ascend =
    let below = (across (λ m n. m < n) (numbers_of entries) (seqs_of (first ∷ placed)) ascend).0 in
    subst (λ (some : List Entry). AllByRecursion (λ entry. entry.seq < work.seq) some) (sym (append-none entries))
    (subst (λ (one : Record). AllByRecursion (λ entry. entry.seq < one.seq) entries) (sym is) (each-number (λ n. n < first.seq) entries below)) where
      append-none : (some : List Entry) → some ++ [] ≡ some
      append-none [] = refl
      append-none (one ∷ some) = ap (λ rest. one ∷ rest) (append-none some)
ahead entries (first ∷ placed) (suc i) work within is ascend =
    let more = entries ++ new_entry first ∷ [] in
    let numbers : numbers_of more ++ seqs_of placed ≡ numbers_of entries ++ seqs_of (first ∷ placed) =
    ap (λ numbers. numbers ++ seqs_of placed) (map-append (λ (entry : Entry). entry.seq) entries (new_entry first ∷ []))
    ∙ append_assoc (numbers_of entries) (first.seq ∷ []) (seqs_of placed) in
    subst (λ (some : List Entry). AllByRecursion (λ entry. entry.seq < work.seq) some) (append_assoc entries (new_entry first ∷ []) (map new_entry (take i placed)))
    (ahead more placed i work (omega (arith, within)) is (subst NumbersAscend (sym numbers) ascend))

-- and comes behind them
pub new-more : (entries : List Entry) (placed : List Record) (i : ℕ) (work : Record) → i < length placed → work ≡ get_or placed i work
    → (entries ++ map new_entry (take i placed)) ++ new_entry work ∷ [] ≡ entries ++ map new_entry (take (i + 1) placed)
new-more entries placed i work within is =
    append_assoc entries (map new_entry (take i placed)) (new_entry work ∷ [])
    ∙ ap (λ (more : List Entry). entries ++ more) (sym (map-append new_entry (take i placed) (work ∷ [])))
    ∙ ap (λ (some : List Record). entries ++ map new_entry some) (ap (λ one. take i placed ++ one ∷ []) is ∙ sym (take_more placed i work within))
