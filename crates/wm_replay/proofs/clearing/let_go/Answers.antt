use Rattle.std.proofs.Common.{◌≡◌, ◌∙◌, ap, filter, map, rules}
use Rattle.std.proofs.lemmas.Result.{on_ok_weaker}
use Rattle.wm_machine.specs.Group.{is_dropped, numbers_in, unnamed}
use Rattle.wm_replay_commands.proofs.Commands.{without_numbers}
use Rattle.wm_replay.proofs.clearing.let_go.Goals as goal

pub returns : goal.returns
returns c =
    let works = c.args.works.now in
    let numbers = c.args.numbers.now in
    let dropped = c.as_slice-2.result.now in
    let are : dropped ≡ numbers_in (filter (is_dropped numbers works) works) = search rules in
    on_ok_weaker c.change_items.result
    (λ is. is ∙ ap (map (unnamed numbers)) (c.remove_works.ensures ∙ without_numbers (is_dropped numbers works) works dropped c.requires are))
    c.change_items.ensures
