use Rattle.std.proofs.Common.{rules, [], ap, ◌∙◌}
use Rattle.wm_callers.proofs.Keeps.{lengthens, notes}
use Rattle.wm_callers.proofs.Rests.{desk_rests, pass_rests}
use Rattle.wm_callers.proofs.WordSteps.{compares_pass}
use Rattle.wm_callers.proofs.Lists.{longer-second}
use Rattle.wm_callers.specs.Places.{longer}
use Rattle.wm_callers.specs.Rule.{all_of, no_own, own_of, note_of, with_longer, cleared}
use Rattle.wm_callers.proofs.steps.look.Goals as goal

pub split_seat-note-requires : goal.split_seat-note-requires
split_seat-note-requires c = (search rules, search rules, notes _ _)

pub join_seat-requires : goal.join_seat-requires
join_seat-requires c =
    let note_me = c.split_seat-note.ensures.4 ∙ (λ i. (note_of (c.requires.desk.rest i).0, [])) in (
      search rules,
      search rules,
      search rules,
      search rules,
      lengthens _ _ _ _ (own_of c.args.pass.now) (record no_own { seen = all_of c.args.desk.now }) (ap (λ m. m.0) c.requires.pass.rest) (ap (λ m. m.0) note_me),
    )

pub load-requires : goal.load-requires
load-requires c =
    let note_me = c.split_seat-note.ensures.4 ∙ (λ i. (note_of (c.requires.desk.rest i).0, [])) in (
      search rules,
      search rules,
      compares_pass _ _ _ (own_of c.args.pass.now) (record no_own { seen = all_of c.args.desk.now })
          (c.join_seat.ensures.2 ∙ (λ i. (with_longer (c.requires.pass.rest i).0 (note_me i).0, (c.requires.pass.rest i).1))),
    )

pub returns : goal.returns
returns c =
    let own = own_of c.args.pass.now in
    let all = all_of c.args.desk.now in
    let note_me = c.split_seat-note.ensures.4 ∙ (λ i. (note_of (c.requires.desk.rest i).0, [])) in
    let pass_me = c.join_seat.ensures.2 ∙ (λ i. (with_longer (c.requires.pass.rest i).0 (note_me i).0, (c.requires.pass.rest i).1)) in
    let desk = desk_rests c.args.board.now.table_id c.split_seat-note.new.seat all (search rules) c.requires.desk.word
    (c.split_seat-note.ensures.2 ∙ c.requires.desk.rest) in
    let pass = pass_rests c.args.board.now.table_id c.load.new.seat (record own { seen = longer own.seen all }) (search rules)
    (c.load.ensures.2.1 ∙ (λ i. (cleared (pass_me i).0, (pass_me i).1))) in
    record {
      desk = desk.1;
      pass = pass.1;
      all = desk.0;
      own = pass.0 ∙ ap (λ l. record own { seen = l }) (longer-second own.seen all c.requires.begins);
    }
