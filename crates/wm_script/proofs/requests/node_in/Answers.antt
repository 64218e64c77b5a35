-- Tags are texts that a request may have, and the moment of the next run is one that it may ask for.
use Rattle.std.proofs.Common.{◌≡◌, Some, rules}
use Rattle.serde_json.specs.View.{view}
use Rattle.wm_script.proofs.BuiltRequests.{AreShort-read, IsMoment-read}
use Rattle.wm_script.specs.Works.{form_of, work_of}
use Rattle.wm_script.proofs.requests.node_in.Goals as goal

pub request_of-requires-clause-tags : goal.request_of-requires-clause-tags
request_of-requires-clause-tags c = AreShort-read _ c.in_ok-tags.tags c.in_ok-tags.ensures.ok

pub request_of-requires-clause-next : goal.request_of-requires-clause-next
request_of-requires-clause-next c =
    let d = view c.args.value.now in
    let work = form_of c.in-Some.work in
    let read : work_of d ≡ Some work = search rules in
    IsMoment-read d work read
