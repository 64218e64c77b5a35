-- Records that leave the entries of others as they are change nothing in a step.
use Rattle.std.proofs.Common.{◌≡◌, ◌≢◌, ℕ, zero, suc, ◌+◌, ◌<◌, ◌==◌, ◌||◌, true, not, is_some, List, [], ◌∷◌, ◌++◌, get_or, length, take, Option, None, Some, refl, sym, ◌∙◌, ap, subst, arith, inl, inr}
use Rattle.std.specs.List.{AllByRecursion}
use Rattle.std.specs.Str.{bytes_eq}
use Rattle.std.proofs.lemmas.Bool.{cases_Bool, eqb-true, or_left, or_right}
use Rattle.std.proofs.lemmas.List.{append-nil}
use Rattle.std.proofs.lemmas.Slice.Eq.{bytes_eq-Decides}
use Rattle.wm_collections.specs.Lists.{HasOne}
use Rattle.wm_collections.proofs.Lists.{All-of_one, All-stored, All-weaker, filter-each, filter-none}
use Rattle.wm_index.specs.Entries.{changed_at, has_tag, Entry}
use Rattle.wm_machine.proofs.Runnings.{WorksAscend}
use Rattle.wm_machine.specs.declared.record.Record.{Record}
use Rattle.wm_steps.proofs.EntryKept.{All-take}
use Rattle.wm_steps.proofs.EntryLists.{entries-each, with_changed-more, KeepsSeq}
use Rattle.wm_steps.proofs.Pointwise.{stored-item}
use Rattle.wm_steps.proofs.ReplacedRecords.{keeps_number, All-seq}
use Rattle.wm_steps.proofs.StepNodes.{AreApart}
use Rattle.wm_steps.specs.Entries.{settling, tagging, unnaming, with_changed, AreEntriesOf, AreLeaving, IsEntryOf, IsLeaving, LeavesEntry}
use Rattle.wm_changes.specs.StepChanges.{KeepsPlace}
use Rattle.wm_changes.specs.declared.change.Replacement.{Replacement}

-- an entry is as a record leaves it
pub record IsLeft (work : Record) (entry : Entry) : Type 0 where
  pub tagged : tagging work entry ≡ entry
  pub settled : settling work entry ≡ entry

-- where it has the number of that
abbrev pub IsLeftAt : Record → Entry → Type 0
IsLeftAt work entry = entry.seq ≡ work.seq → IsLeft work entry

-- ---- one entry

has-own : (tags : List (List ℕ)) → AllByRecursion (λ tag. has_tag tags tag ≡ true) tags
has-own [] = tt
has-own (tag ∷ tags) = (
  or_left (bytes_eq tag tag) (has_tag tags tag) ((bytes_eq-Decides tag tag).1 refl),
  All-weaker tags (λ other has. or_right (bytes_eq tag other) (has_tag tags other) has) (has-own tags),
)

named-still : (name was : Option (List ℕ)) (entry : Entry) → entry.name ≡ was → (not (is_some was) || is_some name) ≡ true → unnaming name entry ≡ entry
named-still None None entry is keeps = ap (λ (name : Option (List ℕ)). record entry { name = name }) (sym is)
named-still None (Some was) entry is keeps = absurd cc
named-still (Some name) was entry is keeps = refl

left-entry : (old new : Record) (entry : Entry) → IsEntryOf old entry → LeavesEntry old new → IsLeft new entry
left-entry old new entry is leaves =
    let same : (tag : List ℕ) → has_tag entry.tags tag ≡ has_tag new.request.tags tag =
    λ tag. is.tags tag ∙ ap (λ tags. has_tag tags tag) (sym leaves.tags) in
    let none = filter-none (λ tag. not (has_tag entry.tags tag)) new.request.tags
    (All-weaker new.request.tags (λ tag has. ap not (same tag ∙ has)) (has-own new.request.tags)) in
    let all = filter-each (has_tag new.request.tags) entry.tags (All-weaker entry.tags (λ tag has. sym (same tag) ∙ has) (has-own entry.tags)) in
    record {
      tagged = ap (λ (tags : List (List ℕ)). record entry { tags = tags }) (ap (λ more. entry.tags ++ more) none ∙ append-nil entry.tags);
      settled = ap (λ (tags : List (List ℕ)). unnaming new.name (record entry { tags = tags })) all ∙ named-still new.name old.name entry is.name leaves.name;
    }

-- ---- the entries of records

pub left-at : (works : List Record) (entries : List Entry) (i : ℕ) (new : Record) → AreEntriesOf works entries → WorksAscend works
    → KeepsPlace works (record { index = i; work = new }) → IsLeaving works (record { index = i; work = new }) → AllByRecursion (IsLeftAt new) entries
left-at [] entries i new are ascend keeps leaves = absurd keeps
left-at (work ∷ works) [] i new are ascend keeps leaves = absurd are
left-at (work ∷ works) (entry ∷ entries) zero new are ascend keeps leaves =
    let above : AllByRecursion (λ (w : Record). new.seq < w.seq) works = subst (λ n. AllByRecursion (λ (w : Record). n < w.seq) works) (sym keeps.seq) ascend.0 in (
      λ here. left-entry work new entry are.0 leaves,
      All-weaker entries (λ other less here. absurd (omega (arith, less, here))) (entries-each (λ n. new.seq < n) works entries are.1 above),
    )
left-at (work ∷ works) (entry ∷ entries) (suc i) new are ascend keeps leaves =
    let above : work.seq < new.seq =
    All-seq (λ n. work.seq < n) works i new.seq ascend.0 (keeps_number works (record { index = i; work = new }) keeps) in
    let first = are.0.seq in
    ((λ here. absurd (omega (arith, above, first, here))), left-at works entries i new are.1 ascend.1 keeps leaves)

left-same : (change : Entry → Entry) (seq : ℕ) (entries : List Entry) → AllByRecursion (λ entry. entry.seq ≡ seq → change entry ≡ entry) entries
    → changed_at change seq entries ≡ entries
left-same change seq [] left = refl
left-same change seq (entry ∷ entries) left =
    let rest = left-same change seq entries left.1 in
    elim (cases_Bool (entry.seq == seq)) as (λ _. changed_at change seq (entry ∷ entries) ≡ entry ∷ entries) [
      | inl is ↦
          rw is (ap (λ (one : Entry). one ∷ changed_at change seq entries) (left.0 (eqb-true entry.seq seq is)) ∙ ap (λ (more : List Entry). entry ∷ more) rest)
      | inr isnt ↦ rw isnt (ap (λ (more : List Entry). entry ∷ more) rest)
    ]

-- ---- after others

-- a record of the same number is the same
abbrev pub IsAlone : Record → Replacement → Type 0
IsAlone work r = r.work.seq ≡ work.seq → r.work ≡ work

alone : (replaced : List Replacement) (r : Replacement) → AreApart replaced → HasOne (λ x. x ≡ r) replaced → AllByRecursion (IsAlone r.work) replaced
alone [] r apart one = absurd one
alone (x ∷ replaced) r apart (inl here) = (
  λ same. ap (λ (y : Replacement). y.work) here,
  All-weaker replaced (λ y differs same. absurd (differs (ap (λ (z : Replacement). z.work.seq) here ∙ sym same))) apart.0,
)
alone (x ∷ replaced) r apart (inr one) = (
  λ same. absurd (All-of_one (λ (y : Replacement). x.work.seq ≢ y.work.seq) replaced r apart.0 one same),
  alone replaced r apart.1 one,
)

module _ (change : Record → Entry → Entry) (leaves : (work : Record) (entry : Entry) → IsLeft work entry → change work entry ≡ entry)
    (keeps : (work : Record) → KeepsSeq (change work)) where
  left-one : (work other : Record) (entries : List Entry) → (other.seq ≡ work.seq → other ≡ work) → AllByRecursion (IsLeftAt work) entries
      → AllByRecursion (IsLeftAt work) (changed_at (change other) other.seq entries)
  left-one work other [] alone left = tt
  left-one work other (entry ∷ entries) alone left =
      let rest = left-one work other entries alone left.1 in
      let still : entry.seq ≡ other.seq → IsLeftAt work (change other entry) =
      λ is here. let number : entry.seq ≡ work.seq = sym (keeps other entry) ∙ here in
      let same : change other entry ≡ entry = ap (λ w. change w entry) (alone (sym is ∙ number)) ∙ leaves work entry (left.0 number) in
      subst (IsLeft work) (sym same) (left.0 number) in
      elim (cases_Bool (entry.seq == other.seq)) as (λ _. AllByRecursion (IsLeftAt work) (changed_at (change other) other.seq (entry ∷ entries))) [
        | inl is ↦ rw is (still (eqb-true entry.seq other.seq is), rest)
        | inr isnt ↦ rw isnt (left.0, rest)
      ]

  pub left-after : (work : Record) (replaced : List Replacement) (entries : List Entry) → AllByRecursion (IsAlone work) replaced
      → AllByRecursion (IsLeftAt work) entries → AllByRecursion (IsLeftAt work) (with_changed change replaced entries)
  left-after work [] entries alone left = left
  left-after work (r ∷ later) entries alone left =
      left-after work later (changed_at (change r.work) r.work.seq entries) alone.1 (left-one work r.work entries alone.0 left)

  pub all-leaving : (works : List Record) (replaced : List Replacement) (entries : List Entry) → AreApart replaced
      → AllByRecursion (λ r. IsLeaving works r → AllByRecursion (IsLeftAt r.work) entries) replaced → AreLeaving change works replaced entries
  all-leaving works replaced entries apart left =
      All-weaker replaced (λ r one leaving count.
      let now = with_changed change (take count replaced) entries in
      let are = left-after r.work (take count replaced) entries (All-take (IsAlone r.work) replaced count (alone replaced r apart one))
      (All-of_one (λ (x : Replacement). IsLeaving works x → AllByRecursion (IsLeftAt x.work) entries) replaced r left one leaving) in
      left-same (change r.work) r.work.seq now (All-weaker now (λ entry is here. leaves r.work entry (is here)) are)) (All-stored replaced)

-- the one at a place changes nothing
pub leaving-more : (change : Record → Entry → Entry) (works : List Record) (replaced : List Replacement) (i : ℕ) (r : Replacement) (entries : List Entry)
    → i < length replaced → r ≡ get_or replaced i r → AreLeaving change works replaced entries → IsLeaving works r
    → with_changed change (take i replaced) entries ≡ with_changed change (take (i + 1) replaced) entries
leaving-more change works replaced i r entries within is leaving one =
    sym (with_changed-more change replaced i r entries within is
    ∙ All-of_one (λ (x : Replacement). IsLeaving works x → (count : ℕ)
    → changed_at (change x.work) x.work.seq (with_changed change (take count replaced) entries) ≡ with_changed change (take count replaced) entries)
    replaced r leaving (stored-item replaced i r within is) one i)

-- what is tagged has the tags that it is to have once it is settled
pub left-tagged : (works : List Record) (replaced : List Replacement) (entries : List Entry) → AreApart replaced
    → AllByRecursion (λ r. IsLeaving works r → AllByRecursion (IsLeftAt r.work) entries) replaced
    → AllByRecursion (λ r. IsLeaving works r → AllByRecursion (IsLeftAt r.work) (with_changed tagging replaced entries)) replaced
left-tagged works replaced entries apart left =
    All-weaker replaced (λ r one leaving.
    left-after tagging (λ work entry is. is.tagged) (λ work entry. refl) r.work replaced entries (alone replaced r apart one)
    (All-of_one (λ (x : Replacement). IsLeaving works x → AllByRecursion (IsLeftAt x.work) entries) replaced r left one leaving)) (All-stored replaced)
