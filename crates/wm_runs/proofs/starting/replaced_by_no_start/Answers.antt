use Rattle.std.proofs.Common.{◌≡◌, Ok, IfOk, rules, subst}
use Rattle.wm_machine.specs.Ends.{not_started}
use Rattle.wm_runs.proofs.Reaching.{not_started-same}
use Rattle.wm_runs.proofs.Touched.{same-rise}
use Rattle.wm_runs.specs.Reached.{numbers_of}
use Rattle.wm_graph.specs.Numbers.{RiseFrom}
use Rattle.wm_runs.proofs.starting.replaced_by_no_start.Goals as goal

pub replaced_by-requires : goal.replaced_by-requires
replaced_by-requires c =
    let s = c.args.view.now in
    let work = c.args.work.now in
    let itself = c.in_ok-itself-2.itself in
    let to = c.in_ok-itself-2.reach in
    let is : itself ≡ not_started s.now work = search rules in
    let came : c.not_started_reach.result ≡ Ok to = search rules in
    let rise : RiseFrom work.seq (numbers_of to) =
    subst (λ found. IfOk found (λ reach. RiseFrom work.seq (numbers_of reach))) came c.not_started_reach.ensures.rises in
    same-rise work.seq itself (not_started s.now work) (numbers_of to) is (not_started-same work.request.period s.now work).seq rise
