-- Steps at the word keep the rule, and tell what holds by it.
use Rattle.std.proofs.Common.{◌≡◌, ℕ, ◌+◌, ◌<◌, ◌%◌, ◌^◌, List, [], ◌∷◌, ◌++◌, set, slice_index, length, length-append, refl, sym, ap, subst, ◌∙◌, mod-eq_of_lt}
use mathlib.Core.Option.{some, none}
use mathlib.Core.List.{IsPrefix}
use lib.ListN.{get_elem?}
use Rattle.atomic_table.specs.Table.{Me, step, keeps, Allows}
use Rattle.wm_collections.proofs.Lists.{All-weaker}
use Rattle.wm_callers.specs.Places.{longer}
use Rattle.wm_callers.specs.Rule.{IsKeptWith, Fits, Compares, Adds, owns_in, desk_view, pass_view}
use Rattle.wm_callers.specs.declared.entry.Signed.{Signed}
use Rattle.wm_callers.specs.declared.view.Own.{Own}
use Rattle.wm_callers.specs.declared.view.View.{View}
use Rattle.wm_callers.specs.declared.view.View.TheVariants.{OfDesk, OfPass}
use Rattle.wm_callers.proofs.Lists.{prefix_trans, prefix_shorter, longer-first, longer-length}
use Rattle.wm_callers.proofs.Keeps.{seen, Holds}
use Rattle.wm_callers.proofs.Views.{all-changed, all-same, owns-set, owns-at}

mod_small : (n : ℕ) → n < 2 ^ 64 → n % 2 ^ 64 ≡ n
mod_small n small = mod-eq_of_lt small

-- a caller's facts in a longer list
fits-more : (all more : List Signed) (own : Own) → Fits all own → Fits (all ++ more) own
fits-more all more own fits = prefix_trans own.seen all (all ++ more) fits (more, refl)

-- ---- load

-- what the desk keeps is compared with its entries
pub compares_desk : (slots id : ℕ) (me : Me (Unit {0}) View) (all : List Signed) (own : Own) → me ≡ (OfDesk (record { all = all; kept = own ∷ [] }), [])
    → Allows Holds slots id me 0 (λ n. n) (Compares (step slots 0 0 0 none) me)
compares_desk slots id me all own is state kept homes at small =
    let view : View = OfDesk (record { all = all; kept = own ∷ [] }) in
    let mine : get_elem? state.views id ≡ some view = at ∙ ap (λ (m : Me (Unit {0}) View). some m.0) is in
    let its_kept = seen state.words state.views id (record { all = all; kept = own ∷ [] }) mine kept in
    let fits = owns-at (Fits all) state.views id view mine its_kept.fits in
    let new : View = desk_view all in
    let words : List ℕ = state.words in
    let done : IsKeptWith all (length all ∷ []) (set state.views id new) = record {
      desk = (all-changed state.views id (record { all = all; kept = own ∷ [] }) (record { all = all; kept = [] }) all mine its_kept.desk).1;
      counted = refl;
      fits = owns-set (Fits all) state.views id new its_kept.fits tt;
    } in (
      new,
      keeps,
      tt,
      rw its_kept.counted (all, done),
      subst (λ (m : Me (Unit {0}) View). Compares (step slots 0 0 0 none) m (slice_index state.words 0) (new, m.1)) (sym is) (fits, refl),
    )

-- what a pass keeps is compared with what it has seen
pub compares_pass : (slots id : ℕ) (me : Me (Unit {0}) View) (own note : Own)
    → me ≡ (OfPass (record { own = record own { seen = longer own.seen note.seen }; kept = own ∷ note ∷ [] }), [])
    → Allows Holds slots id me 0 (λ n. n) (Compares (step slots 0 0 0 none) me)
compares_pass slots id me own note is state kept homes at small =
    let longest : List Signed = longer own.seen note.seen in
    let view : View = OfPass (record { own = record own { seen = longest }; kept = own ∷ note ∷ [] }) in
    let mine : get_elem? state.views id ≡ some view = at ∙ ap (λ (m : Me (Unit {0}) View). some m.0) is in
    let all = kept.0 in
    let fits = owns-at (Fits all) state.views id view mine kept.1.fits in
    let new : View = pass_view (record own { seen = longest }) in
    let met : IsPrefix note.seen longest = prefix_shorter note.seen longest all fits.1.1.0 fits.0 (longer-length own.seen note.seen) in
    let done : IsKeptWith all (length all ∷ []) (set state.views id new) = record {
      desk = all-same state.views id view new mine refl ∙ kept.1.desk;
      counted = refl;
      fits = owns-set (Fits all) state.views id new kept.1.fits (fits.0, tt);
    } in (
      new,
      keeps,
      tt,
      rw kept.1.counted (all, done),
      subst (λ (m : Me (Unit {0}) View). Compares (step slots 0 0 0 none) m (slice_index state.words 0) (new, m.1)) (sym is)
          ((longer-first own.seen note.seen, (met, tt)), refl),
    )

-- ---- fetch_add

-- the desk has one entry more
pub adds : (slots id : ℕ) (me : Me (Unit {0}) View) (all : List Signed) (entry : Signed) → me ≡ (desk_view all, []) → length all + 1 < 2 ^ 64
    → Allows Holds slots id me 0 (λ n. (n + 1) % 2 ^ 64) (Adds entry (step slots 0 1 0 none) me)
adds slots id me all entry is room state kept homes at small =
    let mine : get_elem? state.views id ≡ some (desk_view all) = at ∙ ap (λ (m : Me (Unit {0}) View). some m.0) is in
    let its_kept = seen state.words state.views id (record { all = all; kept = [] }) mine kept in
    let next : List Signed = all ++ entry ∷ [] in
    let new : View = desk_view next in
    let found : slice_index state.words 0 ≡ length all = ap (λ ws. slice_index ws 0) its_kept.counted in
    let count : (length all + 1) % 2 ^ 64 ≡ length next = mod_small (length all + 1) room ∙ sym (length-append all (entry ∷ [])) in
    let done : IsKeptWith next ((length all + 1) % 2 ^ 64 ∷ []) (set state.views id new) = record {
      desk = (all-changed state.views id (record { all = all; kept = [] }) (record { all = next; kept = [] }) all mine its_kept.desk).1;
      counted = ap (λ n. n ∷ []) count;
      fits = owns-set (Fits next) state.views id new (All-weaker (owns_in state.views) (λ own fits. fits-more all (entry ∷ []) own fits) its_kept.fits) tt;
    } in (
      new,
      keeps,
      tt,
      rw its_kept.counted (next, done),
      subst (λ (m : Me (Unit {0}) View). Adds entry (step slots 0 1 0 none) m (slice_index state.words 0) (new, m.1)) (sym is) (found, refl),
    )
