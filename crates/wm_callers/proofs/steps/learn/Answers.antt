use Rattle.std.proofs.Common.{rules, [], ap, ◌∙◌, subst}
use Rattle.wm_callers.proofs.Keeps.{lengthens, notes}
use Rattle.wm_callers.proofs.Rests.{pass_rests}
use Rattle.wm_callers.proofs.WordSteps.{compares_pass}
use Rattle.wm_callers.specs.Places.{longer}
use Rattle.wm_callers.specs.Rule.{own_of, note_of, with_longer, cleared, Told}
use Rattle.wm_callers.proofs.steps.learn.Goals as goal

pub split_seat-note-requires : goal.split_seat-note-requires
split_seat-note-requires c = (search rules, search rules, notes _ _)

pub join_seat-requires : goal.join_seat-requires
join_seat-requires c =
    let note_me = c.split_seat-note.ensures.4 ∙ (λ i. (note_of (c.requires.from.rest i).0, [])) in (
      search rules,
      search rules,
      search rules,
      search rules,
      lengthens _ _ _ _ (own_of c.args.into.now) (record (own_of c.args.from.now) { mine = [] }) (ap (λ m. m.0) c.requires.into.rest) (ap (λ m. m.0) note_me),
    )

pub load-requires : goal.load-requires
load-requires c =
    let note_me = c.split_seat-note.ensures.4 ∙ (λ i. (note_of (c.requires.from.rest i).0, [])) in (
      search rules,
      search rules,
      compares_pass _ _ _ (own_of c.args.into.now) (record (own_of c.args.from.now) { mine = [] })
          (c.join_seat.ensures.2 ∙ (λ i. (with_longer (c.requires.into.rest i).0 (note_me i).0, (c.requires.into.rest i).1))),
    )

pub returns : goal.returns
returns c =
    let own = own_of c.args.into.now in
    let its = own_of c.args.from.now in
    let note_me = c.split_seat-note.ensures.4 ∙ (λ i. (note_of (c.requires.from.rest i).0, [])) in
    let into_me = c.join_seat.ensures.2 ∙ (λ i. (with_longer (c.requires.into.rest i).0 (note_me i).0, (c.requires.into.rest i).1)) in
    let from = pass_rests c.args.board.now.table_id c.split_seat-note.new.seat its (search rules) (c.split_seat-note.ensures.2 ∙ c.requires.from.rest) in
    let into = pass_rests c.args.board.now.table_id c.load.new.seat (record own { seen = longer own.seen its.seen }) (search rules)
    (c.load.ensures.2.1 ∙ (λ i. (cleared (into_me i).0, (into_me i).1))) in
    let told = subst (λ m. Told m.0) into_me c.load.ensures.2.0 in
    record {
      from = from.1;
      into = into.1;
      same = from.0;
      number = ap (λ o. o.number) into.0;
      mine = ap (λ o. o.mine) into.0;
      later = rw into.0 told.0;
      met = rw into.0 told.1.0;
    }
