-- Seats between two calls, and what a load told of the one that the desk kept.
use Rattle.std.proofs.Common.{◌≡◌, List, [], ◌∷◌, sym, ap, subst, ◌∙◌}
use Rattle.atomic_table.specs.Table.{Me}
use Rattle.atomic_table.specs.Seated.{TableId}
use Rattle.atomic_table.specs.declared.shared.Seat.{Seat}
use Rattle.wm_callers.specs.Rule.{Fits, Told, desk_view, pass_view, entries_of, known_by, all_of, own_of, IsDeskSeat, IsPassSeat}
use Rattle.wm_callers.specs.declared.entry.Signed.{Signed}
use Rattle.wm_callers.specs.declared.view.Own.{Own}
use Rattle.wm_callers.specs.declared.view.View.{View}
use Rattle.wm_callers.specs.declared.view.View.TheVariants.{OfDesk}

pub desk_rests : (table_id : TableId) (seat : Seat (Unit {0}) View) (all : List Signed) → seat.table_id ≡ table_id → table_id.words ≡ 1
    → seat.me ≡ (desk_view all, []) → (all_of seat ≡ all) × IsDeskSeat table_id seat
desk_rests table_id seat all own word is =
    let same : all_of seat ≡ all = ap (λ (m : Me (Unit {0}) View). entries_of m.0) is in
    (same, record { own = own; word = word; rest = is ∙ (λ i. (desk_view (sym same i), [])) })

pub pass_rests : (table_id : TableId) (seat : Seat (Unit {0}) View) (own : Own) → seat.table_id ≡ table_id
    → seat.me ≡ (pass_view own, []) → (own_of seat ≡ own) × IsPassSeat table_id seat
pass_rests table_id seat own its is =
    let same : own_of seat ≡ own = ap (λ (m : Me (Unit {0}) View). known_by m.0) is in
    (same, record { own = its; rest = is ∙ (λ i. (pass_view (sym same i), [])) })

-- what a load told of the one that the desk kept
pub kept_fits : (me : Me (Unit {0}) View) (all : List Signed) (own : Own) → me ≡ (OfDesk (record { all = all; kept = own ∷ [] }), []) → Told me.0 → Fits all own
kept_fits me all own is told = (subst (λ (m : Me (Unit {0}) View). Told m.0) is told).0
