use Rattle.std.proofs.Common.{◌≡◌, ◌+◌, ◌-◌, ◌^◌, ◌≤◌, min, length, map, sum, sym, ◌∙◌, subst}
use Rattle.wm_collections.proofs.Lists.{All-weaker}
use Rattle.wm_callers.proofs.Closings.{places-all}
use Rattle.wm_callers.specs.Rule.{all_of}
use Rattle.wm_callers.proofs.desk.Desk.close.Goals as goal

pub returns-clause-closed : goal.returns-clause-closed
returns-clause-closed g c =
    let held = c.table.invariant.1 in
    let all = all_of c.table.inside.seat in
    let passes = c.args.passes.items in
    let fits = c.gather.ensures.fits in
    let calls_whole : c.gather.new.made.amount ≡ c.table.inside.calls.book.total = c.audit.ensures.whole (c.gather.ensures.made.0 ∙ c.requires.all) ∙ c.into_parts-calls.ensures.total in
    let faults_whole : c.gather.new.met.amount ≡ c.table.inside.faults.book.total = c.audit-2.ensures.whole (c.gather.ensures.met.0 ∙ c.requires.all) ∙ c.into_parts-faults.ensures.total in
    let whole : sum (map (λ pass. length pass.mine) passes) ≡ length all = sym c.gather.ensures.made.1 ∙ calls_whole ∙ held.counted in
    let units : c.table.inside.faults.book.total ≡ sum (map (λ pass. pass.units) passes) = sym faults_whole ∙ c.gather.ensures.met.1 in
    record {
      all = all;
      stands = held.stands;
      seen = All-weaker passes (λ pass f. f.seen_is) fits;
      mine = places-all all passes fits c.requires.ascending whole;
      counted = whole;
      faults = subst (λ n. min (g.J.DeskMark.desk.faults + n) (2 ^ 64 - 1) ≤ (g.K.Keeper.store c.table.inside.table.keeper).faults) units held.faulted;
      later = held.later;
    }
