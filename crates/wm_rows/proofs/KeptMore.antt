-- What is kept beside the records of the rows so far, with one record more.
use Rattle.std.proofs.Common.{◌≡◌, ℕ, Bool, true, false, ◌&&◌, ◌||◌, cond, List, [], ◌∷◌, ◌++◌, nat_cmp, String, Global, refl, sym, ap, ◌∙◌}
use Rattle.std.proofs.lemmas.List.Folds.{list_any-append}
use Rattle.std.proofs.lemmas.Map.Text.{is_eq-slice_cmp}
use Rattle.std.specs.BTreeSet.{BTreeSet, contains, contains_text, Updates}
use Rattle.std.specs.Cmp.Lexicographic.{slice_cmp}
use Rattle.std.specs.List.{list_any}
use Rattle.std.specs.Str.{bytes_eq}
use Rattle.wm_collections.proofs.Lists.{AllLater-push}
use Rattle.wm_machine.specs.Group.{is_name}
use Rattle.wm_machine.specs.Valid.{IsBefore}
use Rattle.wm_machine.specs.declared.record.Record.{Record}
use Rattle.wm_rows.proofs.Names.{or_last}
use Rattle.wm_rows.proofs.Soundness.{sound-facts}
use Rattle.wm_rows.specs.Kept.{IsKept}
use Rattle.wm_rows.specs.Sound.{is_periodic, is_sound_after}

or_none : (b : Bool) → (b || false) ≡ b
or_none true = refl
or_none false = refl

-- one more at the end of a list that is asked
any-last : {T : Type 0} (test : T → Bool) (xs : List T) (x : T) → list_any test (xs ++ x ∷ []) ≡ (list_any test xs || test x)
any-last test xs x = list_any-append test xs (x ∷ []) ∙ ap (λ b. list_any test xs || b) (or_none (test x))

module _ (works : List Record) (work : Record) (ids now_ids : BTreeSet (List ℕ)) (names now_names periodic now_periodic : BTreeSet (String Global)) where
  pub kept-more : IsKept works ids names periodic → is_sound_after works work ≡ true → Updates (slice_cmp nat_cmp) ids now_ids work.request.id true
      → ((other : List ℕ) → contains_text now_names other ≡ (contains_text names other || (true && is_name other work.name)))
      → ((other : List ℕ) → contains_text now_periodic other ≡ (contains_text periodic other || (is_periodic work && is_name other work.name)))
      → IsKept (works ++ work ∷ []) now_ids now_names now_periodic
  kept-more kept sound with_id with_name with_periodic = record {
    in_order = AllLater-push IsBefore works work kept.in_order (sound-facts works work sound).after;
    ids_are = λ id. with_id.0 id ∙ ap (λ same. cond same true (contains (slice_cmp nat_cmp) ids id)) (is_eq-slice_cmp work.request.id id)
        ∙ or_last (bytes_eq work.request.id id) (contains (slice_cmp nat_cmp) ids id) ∙ ap (λ b. b || bytes_eq work.request.id id) (kept.ids_are id)
        ∙ sym (any-last (λ (other : Record). bytes_eq other.request.id id) works work);
    names_are = λ name. with_name name ∙ ap (λ b. b || is_name name work.name) (kept.names_are name)
        ∙ sym (any-last (λ (other : Record). is_name name other.name) works work);
    periodic_are = λ name. with_periodic name ∙ ap (λ b. b || (is_periodic work && is_name name work.name)) (kept.periodic_are name)
        ∙ sym (any-last (λ (other : Record). is_periodic other && is_name name other.name) works work);
  }
