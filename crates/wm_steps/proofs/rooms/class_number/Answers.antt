use Rattle.std.proofs.Common.{◌∙◌, sym}
use Rattle.std.specs.Str.{bytes_eq}
use Rattle.wm_steps.proofs.Lookups.{found-place, no-place}
use Rattle.wm_steps.proofs.rooms.class_number.Goals as goal

pub returns-in-Some : goal.returns-in-Some
returns-in-Some c =
    found-place (λ name. bytes_eq name c.args.class.now) c.args.classes.now c.in-Some.place (sym c.in-Some.is ∙ c.place_of.ensures)

pub returns-in-None : goal.returns-in-None
returns-in-None c = no-place (λ name. bytes_eq name c.args.class.now) c.args.classes.now (sym c.in-None.is ∙ c.place_of.ensures)
