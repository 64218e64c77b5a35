use Rattle.std.proofs.Common.{rules, ap, ◌∙◌}
use Rattle.wm_callers.proofs.Keeps.{keeps_known}
use Rattle.wm_callers.proofs.Rests.{desk_rests, kept_fits}
use Rattle.wm_callers.proofs.WordSteps.{compares_desk}
use Rattle.wm_callers.specs.Rule.{all_of, own_of, with_kept, cleared}
use Rattle.wm_callers.proofs.steps.take_back.Goals as goal

pub join_seat-requires : goal.join_seat-requires
join_seat-requires c = (
  search rules,
  search rules,
  ap (λ m. m.1) c.requires.pass.rest,
  search rules,
  keeps_known _ _ _ _ (all_of c.args.desk.now) (own_of c.args.pass) (ap (λ m. m.0) c.requires.desk.rest) (ap (λ m. m.0) c.requires.pass.rest),
)

pub load-requires : goal.load-requires
load-requires c = (
  search rules,
  search rules,
  compares_desk _ _ _ (all_of c.args.desk.now) (own_of c.args.pass)
      (c.join_seat.ensures.2 ∙ (λ i. (with_kept (c.requires.desk.rest i).0 (c.requires.pass.rest i).0, (c.requires.desk.rest i).1))),
)

pub returns : goal.returns
returns c =
    let all = all_of c.args.desk.now in
    let desk_me = c.join_seat.ensures.2 ∙ (λ i. (with_kept (c.requires.desk.rest i).0 (c.requires.pass.rest i).0, (c.requires.desk.rest i).1)) in
    let desk = desk_rests c.args.board.now.table_id c.load.new.seat all (search rules) c.requires.desk.word
    (c.load.ensures.2.1 ∙ (λ i. (cleared (desk_me i).0, (desk_me i).1))) in
    record { desk = desk.1; all = desk.0; fits = kept_fits _ all (own_of c.args.pass) desk_me c.load.ensures.2.0 }
