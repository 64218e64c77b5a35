use Rattle.std.proofs.Common.{◌≡◌, refl, rules}
use Rattle.wm_commands.specs.Cleared.{cleared_state, clearing_of, replaced_by_clearing, stopped_by}
use Rattle.wm_commands.specs.Placed.{name_in, placed_records}
use Rattle.wm_commands.proofs.placement.placement_of.Goals as goal

pub returns : goal.returns
returns c =
    let s = c.args.view.now in
    let plan = c.args.plan in
    let clearing : c.in_ok-clearing.clearing ≡ clearing_of s.now s.works plan.cancel plan.let_go = search rules in
    let name : c.in_ok-name.name ≡ name_in c.args.named.now = search rules in
    let placed : c.in_ok-placed.placed
    ≡ placed_records (cleared_state c.in_ok-clearing.clearing s) c.in_ok-name.name plan.after c.args.works.now = search rules in
    let replaced : c.in_ok-replaced.replaced ≡ replaced_by_clearing c.in_ok-clearing.clearing s.works = search rules in
    let stopped : c.in_ok-stopped.stopped ≡ stopped_by c.in_ok-clearing.clearing.cancelled s.runs = search rules in
    let removed : c.into_items.result ≡ c.in_ok-clearing.clearing.removed = search rules in
    rw (removed, stopped, replaced, placed, name, clearing) refl
