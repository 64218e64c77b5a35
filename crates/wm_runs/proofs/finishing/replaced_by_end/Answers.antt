use Rattle.std.proofs.Common.{◌≡◌, Ok, IfOk, rules, subst}
use Rattle.wm_machine.specs.Ends.{ended}
use Rattle.wm_runs.proofs.Reaching.{ended-same}
use Rattle.wm_runs.proofs.Touched.{same-rise}
use Rattle.wm_runs.specs.Reached.{numbers_of}
use Rattle.wm_graph.specs.Numbers.{RiseFrom}
use Rattle.wm_runs.proofs.finishing.replaced_by_end.Goals as goal

pub replaced_by-requires : goal.replaced_by-requires
replaced_by-requires c =
    let s = c.args.view.now in
    let work = c.args.work.now in
    let end = c.args.end.now in
    let itself = c.in_ok-itself-2.itself in
    let to = c.in_ok-itself-2.reach in
    let is : itself ≡ ended c.args.renewed s.now end work = search rules in
    let came : c.end_reach.result ≡ Ok to = search rules in
    let rise : RiseFrom work.seq (numbers_of to) =
    subst (λ found. IfOk found (λ reach. RiseFrom work.seq (numbers_of reach))) came c.end_reach.ensures.rises in
    same-rise work.seq itself (ended c.args.renewed s.now end work) (numbers_of to) is (ended-same work.request.period c.args.renewed s.now end work).seq rise
