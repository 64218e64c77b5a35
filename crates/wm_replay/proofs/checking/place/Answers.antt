use Rattle.std.proofs.Common.{◌≡◌, rules}
use Rattle.wm_machine.specs.Enqueued.{new_numbers, placed_after}
use Rattle.wm_replay.proofs.CheckedBatches.{placed-outcome, ready-room}
use Rattle.wm_replay.specs.Placed.{name_in}
use Rattle.wm_unique.specs.Plans.{placing_by}
use Rattle.wm_replay.proofs.checking.place.Goals as goal

pub place_each-requires : goal.place_each-requires
place_each-requires c =
    let s = c.args.state.now in
    let works = c.args.batch.now.works in
    let by = placing_by c.args.plan.now in
    let same : c.as_slice-nodes.result.now ≡ works = search rules in
    rw same (record { room = ready-room s c.make_ready.new.state by works c.in_ok-make_ready.ensures c.requires.room })

pub returns : goal.returns
returns c =
    let s = c.args.state.now in
    let ready = c.make_ready.new.state in
    let works = c.args.batch.now.works in
    let plan = c.args.plan.now in
    let name : c.in_ok-name.name ≡ name_in c.args.named.now = search rules in
    let numbers : c.in_ok-numbers.numbers ≡ new_numbers ready.next works = search rules in
    let now : c.place_each.new.state ≡ placed_after ready c.in_ok-name.name plan.after works = search rules in
    placed-outcome s ready c.place_each.new.state c.args.named.now c.in_ok-name.name (placing_by plan) works c.in_ok-numbers.numbers c.requires.placed
    c.in_ok-make_ready.ensures name numbers now
