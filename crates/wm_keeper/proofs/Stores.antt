-- What is known of what a keeper tells, once it may have stopped telling.
use Rattle.std.proofs.Common.{◌≡◌, ◌⊎◌, List, Option, Some, None, refl, sym, ap, ◌∙◌, subst, inl, inr}
use Rattle.std.specs.Prelude.{IfSome, IsSome, IsTrue, option_map}
use Rattle.wm_keeper.specs.Store.{Store, changed_rows, GoesOn, IsAtMost, IsCommitted, IsNotCommitted, IsStoreKept, KeepsTelling, TellsOn}
use Rattle.wm_keeper.specs.declared.row.Change.{Change}
use Rattle.wm_keeper.specs.declared.row.Row.{Row}

-- what holds of what was told holds of what is told still
pub IfSome-still : {T : Type 0} (P : T → Type 0) (this now : Option T) → IfSome this P → IsAtMost this now → IfSome now P
IfSome-still P this None holds at = tt
IfSome-still P None (Some told) holds at = absurd cc
IfSome-still P (Some x) (Some told) holds at = let same : x ≡ told = cc in subst P same holds

-- one call after another
pub IsAtMost-then : {T : Type 0} (this between now : Option T) → IsAtMost this between → IsAtMost between now → IsAtMost this now
IsAtMost-then this between None before then = tt
IsAtMost-then this None (Some told) before then = absurd cc
IsAtMost-then this (Some x) (Some told) before then = before ∙ then

-- what isn't changed is told still
pub IsAtMost-same : {T : Type 0} (this : Option T) → IsAtMost this this
IsAtMost-same None = tt
IsAtMost-same (Some told) = refl

-- ---- rows that are told

-- what is told of what was told before is told only where that was
pub IsSome-at_most : {T : Type 0} (before now : Option T) → IsAtMost before now → IfSome now (λ told. IsSome before)
IsSome-at_most before None at = tt
IsSome-at_most (Some x) (Some told) at = refl
IsSome-at_most None (Some told) at = absurd cc

-- and so is what a change made of it
pub IsSome-changed : {T : Type 0} (change : T → T) (before now : Option T) → IsAtMost (option_map change before) now → IfSome now (λ told. IsSome before)
IsSome-changed change before None at = tt
IsSome-changed change (Some x) (Some told) at = refl
IsSome-changed change None (Some told) at = absurd cc

IsSome-then : {T : Type 0} (before between now : Option T) → IfSome between (λ told. IsSome before) → IfSome now (λ told. IsSome between)
    → IfSome now (λ told. IsSome before)
IsSome-then before between None one two = tt
IsSome-then before (Some x) (Some told) one two = one
IsSome-then before None (Some told) one two = absurd cc

IsSome-same : {T : Type 0} (this : Option T) → IfSome this (λ told. IsSome this)
IsSome-same None = tt
IsSome-same (Some told) = refl

-- telling goes on through one call and another
pub KeepsTelling-then : (before between now : Store) → KeepsTelling before between → KeepsTelling between now → KeepsTelling before now
KeepsTelling-then before between now one two = record {
  rows = λ told. elim (one.rows told) [ inl still ↦ two.rows still | inr lost ↦ inr (two.lost lost) ];
  lost = λ lost. two.lost (one.lost lost);
}

pub GoesOn-then : (before between now : Store) → GoesOn before between → GoesOn between now → GoesOn before now
GoesOn-then before between now one two = record {
  rows = IsSome-then before.rows between.rows now.rows one.rows two.rows;
  images = λ image left. elim (two.images image left) [
    | inl old ↦ one.images image old
    | inr told ↦ inr (some_of before.rows between.rows one.rows told)
  ];
  keeps = KeepsTelling-then before between now one.keeps two.keeps;
}
  where
    some_of : {T : Type 0} (before between : Option T) → IfSome between (λ told. IsSome before) → IsSome between → IsSome before
    some_of before (Some told) goes_on some = goes_on
    some_of before None goes_on some = absurd cc

pub TellsOn-then : (before between now : Store) → TellsOn before between → TellsOn between now → TellsOn before now
TellsOn-then before between now one two = record {
  goes_on = GoesOn-then before between now one.goes_on two.goes_on;
  name = IsAtMost-then before.name between.name now.name one.name two.name;
}

-- and stays where nothing is changed
pub GoesOn-same : (this now : Store) → now.rows ≡ this.rows → ((image : List Row) → now.images image → this.images image) → now.is_lost ≡ this.is_lost
    → GoesOn this now
GoesOn-same this now rows images lost = record {
  rows = rw rows (IsSome-same this.rows);
  images = λ image left. inl (images image left);
  keeps = record { rows = λ told. inl (rw rows told); lost = λ is. lost ∙ is };
}

pub TellsOn-same : (this now : Store) → now.rows ≡ this.rows → ((image : List Row) → now.images image → this.images image) → now.is_lost ≡ this.is_lost
    → now.name ≡ this.name → TellsOn this now
TellsOn-same this now rows images lost name = record { goes_on = GoesOn-same this now rows images lost; name = rw name (IsAtMost-same this.name) }

-- ---- the calls of a keeper

-- a load, whatever it answers
pub GoesOn-loaded : (before now : Store) → IsStoreKept before now → KeepsTelling before now → GoesOn before now
GoesOn-loaded before now kept keeps = record {
  rows = IsSome-at_most before.rows now.rows kept.rows;
  images = λ image left. inl (kept.images image left);
  keeps = keeps;
}

-- rows that a change made something of were told
some_changed : {T : Type 0} (change : T → T) (before : Option T) (image : T) → option_map change before ≡ Some image → IsSome before
some_changed change (Some rows) image is = refl
some_changed change None image is = absurd cc

-- a commit that was made
pub GoesOn-committed : (changes : List Change) (before now : Store) → IsCommitted changes before now → KeepsTelling before now → GoesOn before now
GoesOn-committed changes before now made keeps = record {
  rows = IsSome-changed _ before.rows now.rows made.rows;
  images = λ image left. inr (some_changed _ before.rows image (made.images image left));
  keeps = keeps;
}

-- and one that was refused
pub GoesOn-refused : (changes : List Change) (before now : Store) → IsNotCommitted changes before now → KeepsTelling before now → GoesOn before now
GoesOn-refused changes before now refused keeps = record {
  rows = IsSome-at_most before.rows now.rows refused.rows;
  images = λ image left. elim (refused.images image left) [
    | inl old ↦ inl old
    | inr changed ↦ inr (some_changed _ before.rows image changed)
  ];
  keeps = keeps;
}
