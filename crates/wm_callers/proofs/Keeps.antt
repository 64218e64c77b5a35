-- Seats that split and join keep the rule.
use Rattle.std.proofs.Common.{◌≡◌, ℕ, List, [], ◌∷◌, ◌++◌, set, refl, sym, ap, subst, ◌∙◌}
use Rattle.std.specs.List.{AllByRecursion}
use Rattle.std.proofs.lemmas.List.{append-nil}
use mathlib.Core.Option.{some}
use mathlib.Core.List.{IsPrefix}
use lib.ListN.{get_elem?}
use Rattle.atomic_table.specs.Table.{State, Splits, Joins}
use Rattle.atomic_table.proofs.Lists.{set_again, set_else}
use Rattle.wm_callers.specs.Places.{last_place, longer}
use Rattle.wm_callers.specs.Rule.{IsKept, IsKeptWith, Fits, all_by, owns_by, desk_view, pass_view, note_own, note_of, with_kept, with_longer, with_signed, fresh}
use Rattle.wm_callers.specs.declared.entry.Signed.{Signed}
use Rattle.wm_callers.specs.declared.view.DeskKnows.{DeskKnows}
use Rattle.wm_callers.specs.declared.view.Own.{Own}
use Rattle.wm_callers.specs.declared.view.PassKnows.{PassKnows}
use Rattle.wm_callers.specs.declared.view.View.{View}
use Rattle.wm_callers.specs.declared.view.View.TheVariants.{OfDesk, OfPass, Spent}
use Rattle.wm_callers.proofs.Lists.{longer-begins}
use Rattle.wm_callers.proofs.Views.{all-changed, all-same, all-given, owns-set, owns-at, owns-given}

abbrev pub Holds : State (Unit {0}) View → Type 0
Holds state = IsKept state.words state.views

pub opens : IsKept (0 ∷ []) (desk_view [] ∷ [])
opens = ([], record { desk = refl; counted = refl; fits = tt })

-- the rule speaks of the entries of the desk's own view
pub seen : (words : List ℕ) (views : List View) (id : ℕ) (desk : DeskKnows) → get_elem? views id ≡ some (OfDesk desk) → IsKept words views
    → IsKeptWith desk.all words views
seen words views id desk at kept =
    subst (λ (all : List Signed). IsKeptWith all words views) (sym (all-changed views id desk desk kept.0 at kept.1.desk).0) kept.1

-- what a view has seen, as a note, fits
note-fits : (all : List Signed) (words : List ℕ) (views : List View) (id : ℕ) (view : View) → get_elem? views id ≡ some view → IsKeptWith all words views
    → Fits all (note_own view)
note-fits all words views id (OfDesk desk) at kept =
    let same = (all-changed views id desk desk all at kept.desk).0 in
    ([], append-nil desk.all ∙ same)
note-fits all words views id (OfPass pass) at kept = (owns-at (Fits all) views id (OfPass pass) at kept.fits).0
note-fits all words views id Spent at kept = (all, refl)

-- ---- split_seat

-- a note of what a seat has seen
pub notes : (id : ℕ) (view : View) → Splits Holds id view view (note_of view)
notes id view state kept at =
    let same : set state.views id view ≡ state.views = set_again state.views id view at in
    let all = kept.0 in
    let note = note_of view in
    let done : IsKeptWith all state.words (state.views ++ note ∷ []) = record {
      desk = all-given state.views note refl ∙ kept.1.desk;
      counted = kept.1.counted;
      fits = owns-given (Fits all) state.views note kept.1.fits (note-fits all state.words state.views id view at kept.1, tt);
    } in
    rw same (all, done)

-- a pass that has seen and made nothing
pub passes : (id number : ℕ) (view : View) → Splits Holds id view view (pass_view (fresh number))
passes id number view state kept at =
    let same : set state.views id view ≡ state.views = set_again state.views id view at in
    let all = kept.0 in
    let new : View = pass_view (fresh number) in
    let done : IsKeptWith all state.words (state.views ++ new ∷ []) = record {
      desk = all-given state.views new refl ∙ kept.1.desk;
      counted = kept.1.counted;
      fits = owns-given (Fits all) state.views new kept.1.fits ((all, refl), tt);
    } in
    rw same (all, done)

-- ---- join_seat

-- a pass's or a note's seat is spent, once another view has changed
spent : (all : List Signed) (words : List ℕ) (views : List View) (id other : ℕ) (view both : View) (back : PassKnows) → get_elem? views id ≡ some view
    → get_elem? (set views id both) other ≡ some (OfPass back) → all_by both ≡ all_by view → AllByRecursion (Fits all) (owns_by both)
    → IsKeptWith all words views → IsKeptWith all words (set (set views id both) other Spent)
spent all words views id other view both back at there same more kept = record {
  desk = all-same (set views id both) other (OfPass back) Spent there refl ∙ all-same views id view both at same ∙ kept.desk;
  counted = kept.counted;
  fits = owns-set (Fits all) (set views id both) other Spent (owns-set (Fits all) views id both kept.fits more) tt;
}

-- the desk keeps what a pass or a note knows
pub keeps_known : (id other : ℕ) (view back : View) (all : List Signed) (own : Own) → view ≡ desk_view all → back ≡ pass_view own
    → Joins Holds id view other back (with_kept view back) Spent
keeps_known id other view back all own is token state kept at apart there =
    let mine : get_elem? state.views id ≡ some (desk_view all) = at ∙ ap some is in
    let both : View = OfDesk (record { all = all; kept = own ∷ [] }) in
    let its : get_elem? (set state.views id both) other ≡ some (pass_view own) =
    subst (λ (pair : View × View). get_elem? (set state.views id (with_kept pair.0 pair.1)) other ≡ some pair.1) (λ i. (is i, token i)) there in
    let before : get_elem? state.views other ≡ some (pass_view own) = sym (set_else state.views id other both apart) ∙ its in
    let its_kept = seen state.words state.views id (record { all = all; kept = [] }) mine kept in
    let fits = owns-at (Fits all) state.views other (pass_view own) before its_kept.fits in
    let done = spent all state.words state.views id other (desk_view all) both (record { own = own; kept = [] }) mine its refl fits its_kept in
    rw (is, token) (all, done)

-- a pass takes the longer of two lists, and keeps both
pub lengthens : (id other : ℕ) (view back : View) (own note : Own) → view ≡ pass_view own → back ≡ pass_view note
    → Joins Holds id view other back (with_longer view back) Spent
lengthens id other view back own note is token state kept at apart there =
    let mine : get_elem? state.views id ≡ some (pass_view own) = at ∙ ap some is in
    let longest : List Signed = longer own.seen note.seen in
    let both : View = OfPass (record { own = record own { seen = longest }; kept = own ∷ note ∷ [] }) in
    let its : get_elem? (set state.views id both) other ≡ some (pass_view note) =
    subst (λ (pair : View × View). get_elem? (set state.views id (with_longer pair.0 pair.1)) other ≡ some pair.1) (λ i. (is i, token i)) there in
    let before : get_elem? state.views other ≡ some (pass_view note) = sym (set_else state.views id other both apart) ∙ its in
    let all = kept.0 in
    let own_fits = (owns-at (Fits all) state.views id (pass_view own) mine kept.1.fits).0 in
    let note_fits = (owns-at (Fits all) state.views other (pass_view note) before kept.1.fits).0 in
    let new_fits : IsPrefix longest all = longer-begins own.seen note.seen all own_fits note_fits in
    let done = spent all state.words state.views id other (pass_view own) both (record { own = note; kept = [] }) mine its refl
    (new_fits, (own_fits, (note_fits, tt))) kept.1 in
    rw (is, token) (all, done)

-- a pass takes a list that ends with its own entry
pub signs : (id other : ℕ) (view back : View) (own note : Own) → view ≡ pass_view own → back ≡ pass_view note
    → Joins Holds id view other back (with_signed view back) Spent
signs id other view back own note is token state kept at apart there =
    let mine : get_elem? state.views id ≡ some (pass_view own) = at ∙ ap some is in
    let new : Own = record own { seen = note.seen; mine = own.mine ++ last_place note.seen ∷ [] } in
    let both : View = pass_view new in
    let its : get_elem? (set state.views id both) other ≡ some (pass_view note) =
    subst (λ (pair : View × View). get_elem? (set state.views id (with_signed pair.0 pair.1)) other ≡ some pair.1) (λ i. (is i, token i)) there in
    let before : get_elem? state.views other ≡ some (pass_view note) = sym (set_else state.views id other both apart) ∙ its in
    let all = kept.0 in
    let note_fits = owns-at (Fits all) state.views other (pass_view note) before kept.1.fits in
    let done = spent all state.words state.views id other (pass_view own) both (record { own = note; kept = [] }) mine its refl note_fits kept.1 in
    rw (is, token) (all, done)
