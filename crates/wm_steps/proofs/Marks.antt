-- The mark of a name that is set, and those of the others.
use Rattle.std.proofs.Common.{◌≡◌, ℕ, Bool, true, false, cond, List, Option, Some, Result, Ok, Err, OnErr, OnOk, refl, sym, ◌∙◌, ap, subst, arith, inl, inr}
use Rattle.std.proofs.lemmas.Bool.{cases_Bool}
use Rattle.std.proofs.lemmas.Map.Text.{btree_map_updates_text}
use Rattle.std.proofs.lemmas.Slice.Eq.{bytes_eq-Decides}
use Rattle.std.specs.BTreeMap.{get_by_text, BTreeMap, Updates}
use Rattle.std.specs.Option.{unwrap_or}
use Rattle.std.specs.Prelude.{String}
use Rattle.std.specs.Str.{bytes_eq}
use Rattle.std.specs.String.{string_bytes, string_cmp}
use Rattle.wm_collections.proofs.Lists.{All-any}
use Rattle.wm_machine.specs.Group.{leaves_of, members_of}
use Rattle.wm_machine.specs.declared.state.State.{State}
use Rattle.wm_steps.specs.Covers.{mark_of, AreCovered, IsMark, IsMarked}
use Rattle.wm_steps.specs.declared.covers.Covers.{Covers}

set-at : (b : Bool) (mark : ℕ) (old : Option ℕ) → unwrap_or (cond b (Some mark) old) 0 ≡ cond b mark (unwrap_or old 0)
set-at true mark old = refl
set-at false mark old = refl

pub set-marked : {Y : Type 0} (name : List ℕ) (key : String Y) (mark : ℕ) (old new : BTreeMap (String Y) ℕ) → string_bytes key ≡ name
    → Updates string_cmp old new key (Some mark)
    → (other : List ℕ) → unwrap_or (get_by_text new other) 0 ≡ cond (bytes_eq name other) mark (unwrap_or (get_by_text old other) 0)
set-marked name key mark old new is updates other =
    ap (λ found. unwrap_or found 0) (btree_map_updates_text (string_bytes key) old new (Some mark) updates other)
    ∙ set-at (bytes_eq (string_bytes key) other) mark (get_by_text old other)
    ∙ ap (λ text. cond (bytes_eq text other) mark (unwrap_or (get_by_text old other) 0)) is

-- no name has a mark
pub unmarked : (s : State) (covers : Covers) → ((name : List ℕ) → mark_of covers name ≡ 0) → AreCovered s covers
unmarked s covers none name = record {
  leaves = All-any (leaves_of (members_of s.works name)) (λ leaf. omega (arith, none name));
  next = omega (arith, none name);
}

-- a name has a mark that it may have
pub covered-set : (s : State) (name : List ℕ) (mark : ℕ) {A E : Type 0} (result : Result A E) (old new : Covers) → OnOk result (IsMarked name mark old new)
    → OnErr result ((other : List ℕ) → mark_of new other ≡ mark_of old other) → IsMark s name mark → AreCovered s old → AreCovered s new
covered-set s name mark (Ok done) old new marked same is covered other = elim (cases_Bool (bytes_eq name other)) as (λ _. IsMark s other (mark_of new other)) [
  | inl here ↦
      (let own : mark_of new other ≡ mark = marked other ∙ ap (λ b. cond b mark (mark_of old other)) here in
      subst (IsMark s other) (sym own) (subst (λ text. IsMark s text mark) ((bytes_eq-Decides name other).0 here) is))
  | inr isnt ↦
      (let kept : mark_of new other ≡ mark_of old other = marked other ∙ ap (λ b. cond b mark (mark_of old other)) isnt in
      subst (IsMark s other) (sym kept) (covered other))
]
covered-set s name mark (Err refused) old new marked same is covered other = subst (IsMark s other) (sym (same other)) (covered other)
