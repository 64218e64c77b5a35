use Rattle.std.proofs.Common.{rules, ◌≡◌, ap, ◌∙◌}
use Rattle.wm_roll.proofs.Keeps.{rests, returns, strikes}
use Rattle.wm_roll.proofs.Strikings.{differ-without, shorter-without}
use Rattle.wm_roll.specs.Parts.{IsListed, without}
use Rattle.wm_roll.specs.Rule.{listed_of, struck, with_returned}
use Rattle.wm_roll.proofs.steps.take_seat.Goals as goal

pub join_seat-requires : goal.join_seat-requires
join_seat-requires c = (
  search rules,
  search rules,
  ap (λ m. m.1) c.requires.token.1,
  search rules,
  returns _ _ _ _ (listed_of c.args.seat.now) c.args.part (ap (λ m. m.0) c.requires.roll.rest) (ap (λ m. m.0) c.requires.token.1),
)

pub load-requires : goal.load-requires
load-requires c = (
  search rules,
  search rules,
  strikes _ _ _ (listed_of c.args.seat.now) c.args.part
      (c.join_seat.ensures.2 ∙ (λ i. (with_returned (c.requires.roll.rest i).0 (c.requires.token.1 i).0, (c.requires.roll.rest i).1))),
)

pub returns-clause-roll : goal.returns-clause-roll
returns-clause-roll c =
    let back = c.join_seat.ensures.2 ∙ (λ i. (with_returned (c.requires.roll.rest i).0 (c.requires.token.1 i).0, (c.requires.roll.rest i).1)) in
    rests _ _ (without c.args.part.run (listed_of c.args.seat.now)) (c.load.ensures.0 ∙ c.join_seat.ensures.0 ∙ c.requires.roll.own) c.requires.roll.word
    (c.load.ensures.2.1 ∙ (λ i. (struck (back i).0, (back i).1)))
    (differ-without c.args.part.run (listed_of c.args.seat.now) c.requires.roll.differ)

pub returns-clause-shorter : goal.returns-clause-shorter
returns-clause-shorter c =
    let listed : listed_of c.load.new.seat ≡ without c.args.part.run (listed_of c.args.seat.now) = search rules in
    let stood : IsListed (listed_of c.args.seat.now) c.args.part = search rules in
    rw listed (shorter-without (listed_of c.args.seat.now) c.args.part c.requires.roll.differ stood)
