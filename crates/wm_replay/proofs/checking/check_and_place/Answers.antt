use Rattle.std.proofs.Common.{◌≡◌, Some, None, rules}
use Rattle.wm_machine.specs.Enqueued.{refusal_of_placing}
use Rattle.wm_replay.proofs.CheckedBatches.{placed-accepted, placed-room, refused-outcome}
use Rattle.wm_unique.specs.Plans.{placing_by}
use Rattle.wm_replay.proofs.checking.check_and_place.Goals as goal

pub returns-in-Some : goal.returns-in-Some
returns-in-Some c =
    let s = c.args.state.now in
    let works = c.args.batch.now.works in
    let by = placing_by c.args.plan.now in
    let checked : refusal_of_placing s by works ≡ Some c.in-Some.refusal = search rules in
    refused-outcome s c.args.named.now by works c.in-Some.refusal c.requires.placed checked

pub place-requires-clause-placed : goal.place-requires-clause-placed
place-requires-clause-placed c =
    let s = c.args.state.now in
    let works = c.args.batch.now.works in
    let by = placing_by c.args.plan.now in
    let checked : refusal_of_placing s by works ≡ None = search rules in
    placed-accepted s c.args.named.now by works c.requires.placed checked

pub place-requires-clause-room : goal.place-requires-clause-room
place-requires-clause-room c =
    let s = c.args.state.now in
    let works = c.args.batch.now.works in
    let by = placing_by c.args.plan.now in
    let checked : refusal_of_placing s by works ≡ None = search rules in
    placed-room s by works checked
