use Rattle.std.proofs.Common.{◌≡◌, None, rules}
use Rattle.wm_commands.proofs.CheckedBatches.{placed-accepted, placed-room}
use Rattle.wm_machine.specs.Enqueued.{refusal_of_placing}
use Rattle.wm_unique.specs.Plans.{placing_by}
use Rattle.wm_commands.proofs.enqueue.check_and_place.Goals as goal

pub place-requires-clause-places : goal.place-requires-clause-places
place-requires-clause-places c =
    let s = c.args.view.now in
    let named : c.in_ok-named.named ≡ c.args.named = search rules in
    let batch : c.in_ok-named.batch ≡ c.args.batch = search rules in
    let plan : c.in_ok-named.plan ≡ c.args.plan = search rules in
    let checked : refusal_of_placing s (placing_by c.args.plan) c.args.batch.works ≡ None = search rules in
    rw (named, batch, plan) (placed-accepted s c.args.named (placing_by c.args.plan) c.args.batch.works c.requires.placed checked)

pub place-requires-clause-room : goal.place-requires-clause-room
place-requires-clause-room c =
    let s = c.args.view.now in
    let batch : c.in_ok-named.batch ≡ c.args.batch = search rules in
    let checked : refusal_of_placing s (placing_by c.args.plan) c.args.batch.works ≡ None = search rules in
    rw batch (placed-room s (placing_by c.args.plan) c.args.batch.works checked)
