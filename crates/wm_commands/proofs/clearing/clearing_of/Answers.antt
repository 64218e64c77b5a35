use Rattle.std.proofs.Common.{◌≡◌, [], length, rules, sym, ◌∙◌}
use Rattle.wm_commands.proofs.ClearedNumbers.{let_go-ascend}
use Rattle.wm_commands.proofs.Clearings.{clearing-none}
use Rattle.wm_commands.specs.Cleared.{cancelling}
use Rattle.wm_steps.proofs.Views.{reached-view}
use Rattle.wm_commands.proofs.clearing.clearing_of.Goals as goal

pub returns-then-is_empty-2 : goal.returns-then-is_empty-2
returns-then-is_empty-2 c =
    let no_cancel : length c.args.cancel.now ≡ 0 = search rules in
    let no_let_go : length c.args.let_go ≡ 0 = search rules in
    let made : c.cancelling.result ≡ cancelling c.args.view.now.now [] = search rules in
    made ∙ sym (clearing-none c.args.view.now.now c.args.view.now.works c.args.cancel.now c.args.let_go no_cancel no_let_go)

pub of-requires : goal.of-requires
of-requires c =
    let s = c.args.view.now in
    let_go-ascend s.works c.args.let_go (reached-view _ s _ c.view.view_is c.view.invariant).works.in_order c.requires
