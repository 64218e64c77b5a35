use Rattle.std.proofs.Common.{rules, [], ap, ◌∙◌}
use Rattle.wm_callers.proofs.Keeps.{keeps_known, notes}
use Rattle.wm_callers.proofs.Rests.{desk_rests, kept_fits, pass_rests}
use Rattle.wm_callers.proofs.WordSteps.{compares_desk}
use Rattle.wm_callers.specs.Rule.{all_of, own_of, note_of, with_kept, cleared}
use Rattle.wm_callers.proofs.steps.show.Goals as goal

pub split_seat-note-requires : goal.split_seat-note-requires
split_seat-note-requires c = (search rules, search rules, notes _ _)

pub join_seat-requires : goal.join_seat-requires
join_seat-requires c = (
  search rules,
  search rules,
  search rules,
  search rules,
  keeps_known _ _ _ _ (all_of c.args.desk.now) (record (own_of c.args.pass.now) { mine = [] }) (ap (λ m. m.0) c.requires.desk.rest)
      (ap (λ m. m.0) (c.split_seat-note.ensures.4 ∙ (λ i. (note_of (c.requires.pass.rest i).0, [])))),
)

pub load-requires : goal.load-requires
load-requires c =
    let note_me = c.split_seat-note.ensures.4 ∙ (λ i. (note_of (c.requires.pass.rest i).0, [])) in (
      search rules,
      search rules,
      compares_desk _ _ _ (all_of c.args.desk.now) (record (own_of c.args.pass.now) { mine = [] })
          (c.join_seat.ensures.2 ∙ (λ i. (with_kept (c.requires.desk.rest i).0 (note_me i).0, (c.requires.desk.rest i).1))),
    )

pub returns : goal.returns
returns c =
    let all = all_of c.args.desk.now in
    let own = own_of c.args.pass.now in
    let note_me = c.split_seat-note.ensures.4 ∙ (λ i. (note_of (c.requires.pass.rest i).0, [])) in
    let desk_me = c.join_seat.ensures.2 ∙ (λ i. (with_kept (c.requires.desk.rest i).0 (note_me i).0, (c.requires.desk.rest i).1)) in
    let desk = desk_rests c.args.board.now.table_id c.load.new.seat all (search rules) c.requires.desk.word
    (c.load.ensures.2.1 ∙ (λ i. (cleared (desk_me i).0, (desk_me i).1))) in
    let pass = pass_rests c.args.board.now.table_id c.split_seat-note.new.seat own (search rules) (c.split_seat-note.ensures.2 ∙ c.requires.pass.rest) in
    let told = kept_fits _ all (record own { mine = [] }) desk_me c.load.ensures.2.0 in
    record {
      desk = desk.1;
      pass = pass.1;
      all = desk.0;
      own = pass.0;
      begins = rw (pass.0, desk.0) told;
    }
