-- What the groups have after a change of one of them, and changes one after another.
use Rattle.std.proofs.Common.{◌≡◌, ℕ, zero, suc, ◌+◌, ◌<◌, ◌==◌, ◌&&◌, ◌||◌, Bool, true, false, not, cond, List, [], ◌∷◌, get_or, length, take, refl, sym, ap, ◌∙◌, inl, inr, Option, Some, Result, Ok, Err, OnOk, OnErr}
use Rattle.std.proofs.Math.Bool.{and-false, and-true, or-false}
use Rattle.std.proofs.lemmas.Bool.{cases_Bool, eqb-true, false≢true, or_cases, or_left, or_right}
use Rattle.std.proofs.lemmas.List.{take_more}
use Rattle.std.proofs.lemmas.List.Folds.{list_any-append}
use Rattle.std.proofs.lemmas.Map.Text.{btree_map_updates_text}
use Rattle.std.specs.Prelude.{String}
use Rattle.std.specs.BTreeMap.{get_by_text, BTreeMap, UpdatesBy}
use Rattle.std.specs.Cmp.Lexicographic.{slice_cmp}
use Rattle.std.specs.Option.{unwrap_or}
use Rattle.std.specs.Ordering.{nat_cmp}
use Rattle.std.specs.Str.{bytes_eq}
use Rattle.std.specs.String.{string_bytes, string_cmp}
use Rattle.wm_collections.specs.Lists.{is_among}
use Rattle.wm_index.specs.Entries.{has_tag}
use Rattle.wm_index.specs.Groups.{has, is_just, numbers_at, IsJoined, IsParted, KeepsOthers, Table}
use Rattle.wm_index.proofs.Bools.{bytes-same, not-under, or-under}

-- ---- one group

module _ {Y : Type 0} (bs : List ℕ) (m n : BTreeMap (String Y) (List ℕ)) (w : Option (List ℕ))
    (updates : UpdatesBy string_cmp (λ k. slice_cmp nat_cmp bs (string_bytes k)) m n w) where
  after-at : (text : List ℕ) (b : Bool) → bytes_eq bs text ≡ b → numbers_at n text ≡ unwrap_or (cond b w (get_by_text m text)) []
  after-at text b is =
      ap (λ found. unwrap_or found []) (btree_map_updates_text bs m n w updates text ∙ ap (λ b. cond b w (get_by_text m text)) is)

  pub set-joined : (seq : ℕ) → ((number : ℕ) → is_among (unwrap_or w []) number ≡ (is_among (numbers_at m bs) number || seq == number))
      → IsJoined (bytes_eq bs) seq (has m) (has n)
  set-joined seq more text number =
      elim (cases_Bool (bytes_eq bs text)) as (λ _. has n text number ≡ (has m text number || (seq == number && bytes_eq bs text))) [
        | inl is ↦ ap (λ list. is_among list number) (after-at text true is) ∙ more number
            ∙ ap (λ t. is_among (numbers_at m t) number || seq == number) (bytes-same bs text is)
            ∙ ap (λ b. has m text number || b) (sym (ap (λ b. seq == number && b) is ∙ and-true (seq == number)))
        | inr isnt ↦ ap (λ list. is_among list number) (after-at text false isnt)
            ∙ sym (ap (λ b. has m text number || b) (ap (λ b. seq == number && b) isnt ∙ and-false (seq == number)) ∙ or-false (has m text number))
      ]

  pub set-parted : (seq : ℕ) → ((number : ℕ) → is_among (unwrap_or w []) number ≡ (is_among (numbers_at m bs) number && not (seq == number)))
      → IsParted (bytes_eq bs) seq (has m) (has n)
  set-parted seq less text number =
      elim (cases_Bool (bytes_eq bs text)) as (λ _. has n text number ≡ (has m text number && not (seq == number && bytes_eq bs text))) [
        | inl is ↦ ap (λ list. is_among list number) (after-at text true is) ∙ less number
            ∙ ap (λ t. is_among (numbers_at m t) number && not (seq == number)) (bytes-same bs text is)
            ∙ ap (λ b. has m text number && not b) (sym (ap (λ b. seq == number && b) is ∙ and-true (seq == number)))
        | inr isnt ↦ ap (λ list. is_among list number) (after-at text false isnt)
            ∙ sym (ap (λ b. has m text number && not b) (ap (λ b. seq == number && b) isnt ∙ and-false (seq == number)) ∙ and-true (has m text number))
      ]

pub just-gone : (numbers : List ℕ) (seq number : ℕ) → is_just seq numbers ≡ true → false ≡ (is_among numbers number && not (seq == number))
just-gone [] seq number just = absurd (false≢true just)
just-gone (one ∷ []) seq number just =
    elim (cases_Bool (seq == number)) as (λ _. false ≡ ((one == number || false) && not (seq == number))) [
      | inl is ↦ sym (ap (λ b. (one == number || false) && not b) is ∙ and-false (one == number || false))
      | inr isnt ↦ sym (rw (eqb-true one seq just, isnt) refl)
    ]
just-gone (one ∷ other ∷ numbers) seq number just = absurd (false≢true just)

-- ---- what an addition or a removal leaves of the others

pub joined-others : (test : List ℕ → Bool) (seq : ℕ) (old new : Table) → IsJoined test seq old new → KeepsOthers test seq old new
joined-others test seq old new joined text number other = joined text number ∙ ap (λ b. old text number || b) other ∙ or-false (old text number)

pub same-others : (test : List ℕ → Bool) (seq : ℕ) (old new : Table) → ((text : List ℕ) (number : ℕ) → new text number ≡ old text number) → KeepsOthers test seq old new
same-others test seq old new same text number other = same text number

pub parted-others : (test : List ℕ → Bool) (seq : ℕ) (old new : Table) → IsParted test seq old new → KeepsOthers test seq old new
parted-others test seq old new parted text number other = parted text number ∙ ap (λ b. old text number && not b) other ∙ and-true (old text number)

-- ---- one after another

pub joined-none : (test : List ℕ → Bool) (seq : ℕ) (table : Table) → ((text : List ℕ) → test text ≡ false) → IsJoined test seq table table
joined-none test seq table none text number =
    sym (ap (λ b. table text number || (seq == number && b)) (none text) ∙ ap (λ b. table text number || b) (and-false (seq == number)) ∙ or-false (table text number))

pub parted-none : (test : List ℕ → Bool) (seq : ℕ) (table : Table) → ((text : List ℕ) → test text ≡ false) → IsParted test seq table table
parted-none test seq table none text number =
    sym (ap (λ b. table text number && not (seq == number && b)) (none text) ∙ ap (λ b. table text number && not b) (and-false (seq == number))
    ∙ and-true (table text number))

pub joined-then : (one other both : List ℕ → Bool) (seq : ℕ) (old mid new : Table) → ((text : List ℕ) → both text ≡ (one text || other text))
    → IsJoined one seq old mid → IsJoined other seq mid new → IsJoined both seq old new
joined-then one other both seq old mid new is first next text number =
    next text number ∙ ap (λ b. b || (seq == number && other text)) (first text number)
    ∙ or-under (old text number) (seq == number) (one text) (other text)
    ∙ ap (λ b. old text number || (seq == number && b)) (sym (is text))

pub parted-then : (one other both : List ℕ → Bool) (seq : ℕ) (old mid new : Table) → ((text : List ℕ) → both text ≡ (one text || other text))
    → IsParted one seq old mid → IsParted other seq mid new → IsParted both seq old new
parted-then one other both seq old mid new is first next text number =
    next text number ∙ ap (λ b. b && not (seq == number && other text)) (first text number)
    ∙ not-under (old text number) (seq == number) (one text) (other text)
    ∙ ap (λ b. old text number && not (seq == number && b)) (sym (is text))

narrower : (s a b : Bool) → (a ≡ true → b ≡ true) → (s && b) ≡ false → (s && a) ≡ false
narrower false a b within none = refl
narrower true false b within none = refl
narrower true true b within none = absurd (false≢true (sym none ∙ within refl))

pub others-wider : (one both : List ℕ → Bool) (seq : ℕ) (old new : Table) → ((text : List ℕ) → one text ≡ true → both text ≡ true)
    → KeepsOthers one seq old new → KeepsOthers both seq old new
others-wider one both seq old new within keeps text number other = keeps text number (narrower (seq == number) (one text) (both text) (within text) other)

pub others-then : (test : List ℕ → Bool) (seq : ℕ) (old mid new : Table) → KeepsOthers test seq old mid → KeepsOthers test seq mid new → KeepsOthers test seq old new
others-then test seq old mid new first next text number other = next text number other ∙ first text number other

-- ---- some texts, one after another

pub tag-more : (tags : List (List ℕ)) (i : ℕ) (d : List ℕ) → i < length tags → (text : List ℕ)
    → has_tag (take (i + 1) tags) text ≡ (has_tag (take i tags) text || bytes_eq (get_or tags i d) text)
tag-more tags i d within text =
    ap (λ list. has_tag list text) (take_more tags i d within)
    ∙ list_any-append (λ own. bytes_eq own text) (take i tags) (get_or tags i d ∷ [])
    ∙ ap (λ b. has_tag (take i tags) text || b) (or-false (bytes_eq (get_or tags i d) text))

pub tag-front : (tags : List (List ℕ)) (i : ℕ) (text : List ℕ) → has_tag (take i tags) text ≡ true → has_tag tags text ≡ true
tag-front [] zero text has = has
tag-front [] (suc i) text has = has
tag-front (tag ∷ tags) zero text has = absurd (false≢true has)
tag-front (tag ∷ tags) (suc i) text has =
    elim (or_cases (bytes_eq tag text) (has_tag (take i tags) text) has) [ inl here ↦ or_left _ _ here | inr later ↦ or_right _ _ (tag-front tags i text later) ]

pub tag-at : (tags : List (List ℕ)) (i : ℕ) (d text : List ℕ) → i < length tags → bytes_eq (get_or tags i d) text ≡ true → has_tag tags text ≡ true
tag-at tags i d text within is = tag-front tags (i + 1) text (tag-more tags i d within text ∙ or_right _ _ is)

-- ---- a group that is found, and changed in place

pub numbers-found : {Y : Type 0} (bs : List ℕ) (m : BTreeMap (String Y) (List ℕ)) (group : List ℕ) → get_by_text m bs ≡ Some group → numbers_at m bs ≡ group
numbers-found bs m group found = ap (λ found. unwrap_or found []) found

-- what an insertion that may be refused leaves of the other numbers
pub others-kept : {A E : Type 0} (r : Result A E) (seq : ℕ) (old new : List ℕ) → OnOk r ((number : ℕ) → is_among new number ≡ (is_among old number || seq == number))
    → OnErr r (new ≡ old) → (number : ℕ) → (seq == number) ≡ false → is_among new number ≡ is_among old number
others-kept (Ok x) seq old new more same number other = more number ∙ ap (λ b. is_among old number || b) other ∙ or-false (is_among old number)
others-kept (Err e) seq old new more same number other = ap (λ list. is_among list number) same

pub set-others : {Y : Type 0} (bs : List ℕ) (m n : BTreeMap (String Y) (List ℕ)) (w : Option (List ℕ)) (seq : ℕ)
    → UpdatesBy string_cmp (λ k. slice_cmp nat_cmp bs (string_bytes k)) m n w
    → ((number : ℕ) → (seq == number) ≡ false → is_among (unwrap_or w []) number ≡ is_among (numbers_at m bs) number) → KeepsOthers (bytes_eq bs) seq (has m) (has n)
set-others bs m n w seq updates keeps text number other =
    elim (cases_Bool (bytes_eq bs text)) as (λ _. has n text number ≡ has m text number) [
      | inl is ↦
          (let apart : (seq == number) ≡ false = sym (and-true (seq == number)) ∙ sym (ap (λ b. seq == number && b) is) ∙ other in
          ap (λ list. is_among list number) (after-at bs m n w updates text true is) ∙ keeps number apart
          ∙ ap (λ t. is_among (numbers_at m t) number) (bytes-same bs text is))
      | inr isnt ↦ ap (λ list. is_among list number) (after-at bs m n w updates text false isnt)
    ]

-- ---- those that aren't among others, one after another

unkept-case : (h b n : Bool) → (b ≡ true → n ≡ true) → ((h || b) && n) ≡ ((h && n) || b)
unkept-case true true n is = is refl ∙ sym (ap (λ m. m || true) (is refl))
unkept-case true false n is = sym (or-false n)
unkept-case false true n is = is refl
unkept-case false false n is = refl

kept-case : (h b n : Bool) → (b ≡ true → n ≡ false) → ((h || b) && n) ≡ (h && n)
kept-case true b n is = refl
kept-case false true n is = is refl
kept-case false false n is = refl

module _ (own tags : List (List ℕ)) (i : ℕ) (d : List ℕ) (within : i < length own) where
  abbrev tag : List ℕ
  tag = get_or own i d

  pub unkept-more : has_tag tags tag ≡ false → (text : List ℕ)
      → (has_tag (take (i + 1) own) text && not (has_tag tags text)) ≡ ((has_tag (take i own) text && not (has_tag tags text)) || bytes_eq tag text)
  unkept-more others text =
      ap (λ b. b && not (has_tag tags text)) (tag-more own i d within text)
      ∙ unkept-case (has_tag (take i own) text) (bytes_eq tag text) (not (has_tag tags text)) (λ is. ap not (sym (ap (has_tag tags) (bytes-same tag text is)) ∙ others))

  pub kept-more : has_tag tags tag ≡ true → (text : List ℕ)
      → (has_tag (take (i + 1) own) text && not (has_tag tags text)) ≡ (has_tag (take i own) text && not (has_tag tags text))
  kept-more kept text =
      ap (λ b. b && not (has_tag tags text)) (tag-more own i d within text)
      ∙ kept-case (has_tag (take i own) text) (bytes_eq tag text) (not (has_tag tags text)) (λ is. ap not (sym (ap (has_tag tags) (bytes-same tag text is)) ∙ kept))

pub parted-same : (one other : List ℕ → Bool) (seq : ℕ) (old new : Table) → ((text : List ℕ) → other text ≡ one text) → IsParted one seq old new → IsParted other seq old new
parted-same one other seq old new same parted text number = parted text number ∙ ap (λ b. old text number && not (seq == number && b)) (sym (same text))
