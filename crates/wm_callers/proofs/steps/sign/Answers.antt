use Rattle.std.proofs.Common.{rules, [], ◌∷◌, ◌++◌, ap, ◌∙◌, sym}
use Rattle.wm_callers.proofs.Keeps.{notes, signs}
use Rattle.wm_callers.proofs.Rests.{desk_rests, pass_rests}
use Rattle.wm_callers.proofs.WordSteps.{adds}
use Rattle.wm_callers.proofs.Lists.{last_place-push}
use Rattle.wm_callers.specs.Places.{last_place}
use Rattle.wm_callers.specs.Rule.{all_of, no_own, own_of, note_of, with_entry, with_signed}
use Rattle.wm_callers.proofs.steps.sign.Goals as goal

pub fetch_add-place-requires : goal.fetch_add-place-requires
fetch_add-place-requires g c = (search rules, search rules, adds _ _ _ (all_of c.args.desk.now) _ c.requires.desk.rest c.requires.room)

pub split_seat-note-requires : goal.split_seat-note-requires
split_seat-note-requires g c = (search rules, search rules, notes _ _)

pub join_seat-requires : goal.join_seat-requires
join_seat-requires g c =
    let all = all_of c.args.desk.now in
    let entry = g.G.Given.entry in
    let desk_me = c.fetch_add-place.ensures.2.1 ∙ (λ i. (with_entry entry (c.requires.desk.rest i).0, (c.requires.desk.rest i).1)) in
    let note_me = c.split_seat-note.ensures.4 ∙ (λ i. (note_of (desk_me i).0, [])) in (
      search rules,
      search rules,
      search rules,
      search rules,
      signs _ _ _ _ (own_of c.args.pass.now) (record no_own { seen = all ++ entry ∷ [] }) (ap (λ m. m.0) c.requires.pass.rest)
          (ap (λ m. m.0) note_me),
    )

pub returns : goal.returns
returns g c =
    let all = all_of c.args.desk.now in
    let own = own_of c.args.pass.now in
    let entry = g.G.Given.entry in
    let next = all ++ entry ∷ [] in
    let desk_me = c.fetch_add-place.ensures.2.1 ∙ (λ i. (with_entry entry (c.requires.desk.rest i).0, (c.requires.desk.rest i).1)) in
    let note_me = c.split_seat-note.ensures.4 ∙ (λ i. (note_of (desk_me i).0, [])) in
    let pass_me = c.join_seat.ensures.2 ∙ (λ i. (with_signed (c.requires.pass.rest i).0 (note_me i).0, (c.requires.pass.rest i).1)) in
    let desk = desk_rests c.args.board.now.table_id c.split_seat-note.new.seat next (search rules) c.requires.desk.word
    (c.split_seat-note.ensures.2 ∙ desk_me) in
    let pass = pass_rests c.args.board.now.table_id c.join_seat.new.seat (record own { seen = next; mine = own.mine ++ last_place next ∷ [] })
    (search rules) pass_me in
    let place = last_place-push all entry ∙ sym c.fetch_add-place.ensures.2.0 in
    record {
      desk = desk.1;
      pass = pass.1;
      place = c.fetch_add-place.ensures.2.0;
      all = desk.0 ∙ ap (λ e. all ++ e ∷ []) (sym c.requires.given);
      own = pass.0 ∙ (λ i. record own { seen = sym desk.0 i; mine = own.mine ++ place i ∷ [] });
    }
