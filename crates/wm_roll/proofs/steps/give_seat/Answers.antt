use Rattle.std.proofs.Common.{rules, [], ◌∷◌, ◌++◌, ap, ◌∙◌, subst, sym}
use Rattle.atomic_table.specs.Table.{Splits}
use Rattle.wm_collections.proofs.Lists.{AllLater-push}
use Rattle.wm_roll.proofs.Keeps.{gives, rests}
use Rattle.wm_roll.specs.Parts.{DifferInRun}
use Rattle.wm_roll.specs.Rule.{listed_of, with_listed, IsKept}
use Rattle.wm_roll.specs.declared.part.Part.{Part}
use Rattle.wm_roll.specs.declared.view.View.TheVariants.{OfToken}
use Rattle.wm_roll.proofs.steps.give_seat.Goals as goal

pub split_seat-requires : goal.split_seat-requires
split_seat-requires g c = (
  search rules,
  search rules,
  subst (λ (part : Part). Splits (λ state. IsKept state.views) c.args.seat.now.id c.args.seat.now.me.0 (with_listed part c.args.seat.now.me.0) (OfToken part))
      c.requires.given (gives _ _ (listed_of c.args.seat.now) c.args.part (ap (λ m. m.0) c.requires.roll.rest) c.requires.new),
)

pub returns-clause-roll : goal.returns-clause-roll
returns-clause-roll g c =
    rests _ _ (listed_of c.args.seat.now ++ c.args.part ∷ []) (c.split_seat.ensures.0 ∙ c.requires.roll.own) c.requires.roll.word
    (c.split_seat.ensures.2 ∙ (λ i. (with_listed (sym c.requires.given i) (c.requires.roll.rest i).0, (c.requires.roll.rest i).1)))
    (AllLater-push DifferInRun (listed_of c.args.seat.now) c.args.part c.requires.roll.differ c.requires.new)
