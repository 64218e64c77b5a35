-- The marks of unique names stay right in a step that takes no work from its name, and where it does, none is left.
use Rattle.std.proofs.Common.{◌≡◌, ◌⊎◌, ℕ, zero, suc, ◌+◌, ◌==◌, ◌≤◌, ◌&&◌, ◌||◌, Bool, true, false, not, List, [], ◌∷◌, ◌++◌, filter, is_none, is_some, length, map, set, slice_get, Option, Some, None, refl, sym, ◌∙◌, ap, subst, arith, inl, inr}
use Rattle.std.specs.List.{AllByRecursion, list_any}
use Rattle.std.proofs.lemmas.Bool.{false≢true, ne_eqb}
use Rattle.std.proofs.lemmas.List.Elements.{filter-append}
use Rattle.std.proofs.lemmas.List.Folds.{list_any-append}
use Rattle.std.proofs.lemmas.Option.{none-some, same_Some}
use Rattle.wm_collections.proofs.Lists.{All-any, All-append, All-filter, All-from_filter, All-kept, All-map, All-unmap, All-weaker, All-with2, list_any_after, map-filter, none_pass}
use Rattle.wm_collections.specs.Lists.{is_among}
use Rattle.wm_keeper.specs.declared.row.Row.{Row}
use Rattle.wm_machine.specs.Group.{is_name, is_prior_of, leaves_of, members_of}
use Rattle.wm_machine.specs.Rows.{row_of}
use Rattle.wm_machine.specs.Valid.{Valid}
use Rattle.wm_machine.specs.declared.record.Record.{Record}
use Rattle.wm_machine.specs.declared.state.State.{State}
use Rattle.wm_steps.proofs.ReplacedRecords.{next-above}
use Rattle.wm_steps.proofs.StepNodes.{row-keeps}
use Rattle.wm_steps.specs.Covers.{is_unnamed, mark_after, mark_of, takes_members, AreCovered, IsMark}
use Rattle.wm_changes.specs.StepChanges.{changed_state, changed_works, with_replaced, without, Fits, KeepsPlace}
use Rattle.wm_changes.specs.declared.change.Replacement.{Replacement}
use Rattle.wm_changes.specs.declared.change.StepChange.{StepChange}
use Rattle.wm_steps.specs.declared.covers.Covers.{Covers}

-- ---- what a group's leaves go by

-- of a record its number, its unique name and its prerequisites
pub record Link : Type 0 where
  pub seq : ℕ
  pub name : Option (List ℕ)
  pub prior : List ℕ

abbrev pub link_of : Record → Link
link_of work = record { seq = work.seq; name = work.name; prior = work.prior }

abbrev pub links_of : List Record → List Link
links_of works = map link_of works

-- where it is a leaf among these, it isn't below a number
abbrev IsLeafFrom : ℕ → List Link → Link → Type 0
IsLeafFrom mark links link = not (list_any (λ (other : Link). is_among other.prior link.seq) links) ≡ true → mark ≤ link.seq

abbrev AreLeavesFrom : ℕ → List Record → List Record → Type 0
AreLeavesFrom mark all members = AllByRecursion (λ member. not (is_prior_of all member) ≡ true → mark ≤ member.seq) members

by-links : (mark : ℕ) (all members : List Record) → AreLeavesFrom mark all members → AllByRecursion (IsLeafFrom mark (links_of all)) (links_of members)
by-links mark all members from =
    All-map (IsLeafFrom mark (links_of all)) link_of members (λ member is leaf.
    is (ap not (sym (list_any_after (λ (other : Link). is_among other.prior member.seq) link_of all)) ∙ leaf)) from

from-links : (mark : ℕ) (all members : List Record) → AllByRecursion (IsLeafFrom mark (links_of all)) (links_of members) → AreLeavesFrom mark all members
from-links mark all members from =
    All-weaker members (λ member is leaf. is (ap not (list_any_after (λ (other : Link). is_among other.prior member.seq) link_of all) ∙ leaf))
    (All-unmap (IsLeafFrom mark (links_of all)) link_of members from)

member-links : (works : List Record) (name : List ℕ) → links_of (members_of works name) ≡ filter (λ (link : Link). is_name name link.name) (links_of works)
member-links works name = map-filter link_of (λ (link : Link). is_name name link.name) works

-- the same links have leaves from the same number on
same-leaves : (mark : ℕ) (works now : List Record) (name : List ℕ) → links_of now ≡ links_of works
    → AreLeavesFrom mark (members_of works name) (members_of works name) → AreLeavesFrom mark (members_of now name) (members_of now name)
same-leaves mark works now name same from =
    let links : links_of (members_of works name) ≡ links_of (members_of now name) =
    member-links works name ∙ ap (filter (λ (link : Link). is_name name link.name)) (sym same) ∙ sym (member-links now name) in
    from-links mark (members_of now name) (members_of now name)
    (subst (λ (links : List Link). AllByRecursion (IsLeafFrom mark links) links) links (by-links mark (members_of works name) (members_of works name) from))

no-later : (mark next more : ℕ) → mark ≤ next → mark ≤ next + more
no-later mark next more few = omega (arith, few)

either-false : (a b : Bool) → not (a || b) ≡ true → not a ≡ true
either-false true b none = none
either-false false b none = refl

-- works from a number on may be placed
placed-leaves : (mark : ℕ) (works placed : List Record) (name : List ℕ) → AllByRecursion (λ work. mark ≤ work.seq) placed
    → AreLeavesFrom mark (members_of works name) (members_of works name)
    → AreLeavesFrom mark (members_of (works ++ placed) name) (members_of (works ++ placed) name)
placed-leaves mark works placed name above from =
    let named : Record → Bool = λ work. is_name name work.name in
    let split = filter-append named works placed in
    subst (λ (members : List Record). AreLeavesFrom mark members members) (sym split)
    (All-append _ (filter named works) (filter named placed)
    (All-weaker (filter named works) (λ member is leaf.
    is (either-false (is_prior_of (filter named works) member) (is_prior_of (filter named placed) member)
    (ap not (sym (list_any-append (λ (other : Record). is_among other.prior member.seq) (filter named works) (filter named placed))) ∙ leaf))) from)
    (All-weaker (filter named placed) (λ member more leaf. more) (All-kept _ named placed above)))

-- ---- records in the places of others

abbrev pub KeepsLink : List Record → Replacement → Type 0
KeepsLink works replaced = slice_get (links_of works) replaced.index ≡ Some (link_of replaced.work)

links-set : (works : List Record) (i : ℕ) (new : Record) → slice_get (links_of works) i ≡ Some (link_of new) → links_of (set works i new) ≡ links_of works
links-set [] i new is = refl
links-set (work ∷ works) zero new is = ap (λ link. link ∷ links_of works) (sym (same_Some (link_of work) (link_of new) is))
links-set (work ∷ works) (suc i) new is = ap (λ rest. link_of work ∷ rest) (links-set works i new is)

links-replaced : (replaced : List Replacement) (works : List Record) → AllByRecursion (KeepsLink works) replaced
    → links_of (with_replaced replaced works) ≡ links_of works
links-replaced [] works keep = refl
links-replaced (r ∷ later) works keep =
    let same = links-set works r.index r.work keep.0 in
    links-replaced later (set works r.index r.work)
    (subst (λ links. AllByRecursion (λ (other : Replacement). slice_get links other.index ≡ Some (link_of other.work)) later) (sym same) keep.1) ∙ same

told-link : (works : List Record) (i : ℕ) (new : Record) → slice_get (map row_of works) i ≡ Some (row_of new) → slice_get (links_of works) i ≡ Some (link_of new)
told-link [] i new is = absurd (none-some (row_of new) is)
told-link (work ∷ works) zero new is =
    let row = same_Some (row_of work) (row_of new) is in
    let keeps = (row-keeps work new row).0 in
    rw (keeps.seq, keeps.prior, ap (λ (r : Row). r.name) row) refl
told-link (work ∷ works) (suc i) new is = told-link works i new is

name-kept : (old new : Option (List ℕ)) → (new ≡ old) ⊎ (new ≡ None) → (is_some old && is_none new) ≡ false → new ≡ old
name-kept old new (inl same) stays = same
name-kept None new (inr none) stays = none
name-kept (Some name) new (inr none) stays = absurd (false≢true (sym stays ∙ ap is_none none))

place-link : (works : List Record) (i : ℕ) (new : Record) → KeepsPlace works (record { index = i; work = new })
    → is_unnamed works (record { index = i; work = new }) ≡ false → slice_get (links_of works) i ≡ Some (link_of new)
place-link [] i new keeps stays = absurd keeps
place-link (work ∷ works) zero new keeps stays = rw (keeps.seq, keeps.prior, name-kept work.name new.name keeps.name stays) refl
place-link (work ∷ works) (suc i) new keeps stays = place-link works i new keeps stays

-- ---- a step

module _ (s : State) (change : StepChange) (valid : Valid s) (fits : Fits s change) where
  kept-links : list_any (is_unnamed s.works) change.replaced ≡ false → links_of (with_replaced change.replaced (with_replaced change.told s.works)) ≡ links_of s.works
  kept-links stays =
      let told = links-replaced change.told s.works (All-weaker change.told (λ r keeps. told-link s.works r.index r.work keeps) fits.told) in
      let keep : AllByRecursion (KeepsLink s.works) change.replaced =
      All-with2 change.replaced (λ r keeps stays. place-link s.works r.index r.work keeps stays) fits.replaced
      (none_pass (is_unnamed s.works) change.replaced stays) in
      links-replaced change.replaced (with_replaced change.told s.works)
      (subst (λ links. AllByRecursion (λ (r : Replacement). slice_get links r.index ≡ Some (link_of r.work)) change.replaced) (sym told) keep) ∙ told

  stays-mark : (name : List ℕ) (mark : ℕ) → change.removed ≡ [] → list_any (is_unnamed s.works) change.replaced ≡ false → IsMark s name mark
      → IsMark (changed_state change s) name mark
  stays-mark name mark none stays is =
      let now = with_replaced change.replaced (with_replaced change.told s.works) in
      let works : now ++ change.placed ≡ changed_works change s.works = ap (λ (numbers : List ℕ). without numbers now ++ change.placed) (sym none) in
      let old : AreLeavesFrom mark (members_of s.works name) (members_of s.works name) =
      All-from_filter (λ member. mark ≤ member.seq) (λ member. not (is_prior_of (members_of s.works name) member)) (members_of s.works name) is.leaves in
      let above = All-weaker change.placed (λ work more. omega (arith, more, is.next)) (next-above s.next change.placed fits.placed) in
      let all = placed-leaves mark now change.placed name above (same-leaves mark s.works now name (kept-links stays) old) in
      let members = members_of (now ++ change.placed) name in
      record {
        leaves = subst (λ (works : List Record). AllByRecursion (λ leaf. mark ≤ leaf.seq) (leaves_of (members_of works name))) works
            (All-filter (λ member. not (is_prior_of members member)) members (λ member leaf from. from leaf) all);
        next = no-later mark s.next (length change.placed) is.next;
      }

  no-mark : (t : State) (name : List ℕ) → IsMark t name 0
  no-mark t name = record {
    leaves = All-any (leaves_of (members_of t.works name)) (λ leaf. omega arith);
    next = omega arith;
  }

  after-mark : (name : List ℕ) (mark : ℕ) (numbers : List ℕ) (unnames : Bool) → change.removed ≡ numbers → list_any (is_unnamed s.works) change.replaced ≡ unnames
      → IsMark s name mark → IsMark (changed_state change s) name (mark_after (not (length numbers == 0) || unnames) mark)
  after-mark name mark [] false none stays is = stays-mark name mark none stays is
  after-mark name mark [] true none some is = no-mark (changed_state change s) name
  after-mark name mark (number ∷ numbers) unnames some any is =
      let more : (length (number ∷ numbers) == 0) ≡ false = ne_eqb (length (number ∷ numbers)) 0 (λ e. absurd (omega arith)) in
      rw more (no-mark (changed_state change s) name)

  -- the marks after a step
  pub covered-step : (made : State) (old new : Covers) → made ≡ changed_state change s
      → ((name : List ℕ) → mark_of new name ≡ mark_after (takes_members s.works change) (mark_of old name)) → AreCovered s old → AreCovered made new
  covered-step made old new made_is marks covered name =
      subst (λ (t : State). IsMark t name (mark_of new name)) (sym made_is) (subst (IsMark (changed_state change s) name) (sym (marks name))
      (after-mark name (mark_of old name) change.removed (list_any (is_unnamed s.works) change.replaced) refl refl (covered name)))
