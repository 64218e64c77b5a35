use Rattle.std.proofs.Common.{rules, [], ◌∙◌, sym}
use Rattle.wm_callers.proofs.Keeps.{passes}
use Rattle.wm_callers.proofs.Rests.{desk_rests, pass_rests}
use Rattle.wm_callers.specs.Rule.{all_of, fresh, pass_view}
use Rattle.wm_callers.proofs.steps.admit.Goals as goal

pub split_seat-requires : goal.split_seat-requires
split_seat-requires g c = (search rules, search rules, passes _ _ _)

pub returns : goal.returns
returns g c =
    let desk = desk_rests c.args.board.now.table_id c.split_seat.new.seat (all_of c.args.desk.now) (search rules) c.requires.desk.word
    (c.split_seat.ensures.2 ∙ c.requires.desk.rest) in
    let pass = pass_rests c.args.board.now.table_id c.split_seat.result (fresh c.args.number) (search rules)
    (c.split_seat.ensures.4 ∙ (λ i. (pass_view (fresh (sym c.requires.given i)), []))) in
    record { desk = desk.1; all = desk.0; pass = pass.1; own = pass.0 }
