use Rattle.std.proofs.Common.{take}
use Rattle.std.specs.List.{AllByRecursion}
use Rattle.wm_request.specs.Requests.{IsRequest}
use Rattle.own_worker.proofs.photos.show_limits.Given as goal

-- the works so far
abbrev pub invariant-loop-work : goal.invariant-loop-work
invariant-loop-work l = AllByRecursion (λ work. IsRequest work.request) (take l.work-index l.work-items)
