use Rattle.std.proofs.Common.{rules, arith, ◌≡◌, ◌++◌, ◌∷◌, [], map}
use Rattle.std.proofs.lemmas.List.{map-append}
use Rattle.std.proofs.lemmas.List.Sums.{sum_by-append}
use Rattle.std.proofs.lemmas.List.Elements.{All-pop}
use Rattle.wm_cli.proofs.pool.gather.Goals as goal

-- the last part goes from those apart to what is together
pub loop-part-preserved : goal.loop-part-preserved
loop-part-preserved g c =
    let apart : c.loop-part.parts.items ≡ c.pop.new.self.items ++ c.in-Some.part ∷ [] = search rules in
    let parts = map-append (λ (part : _). part.share.parts) c.pop.new.self.items (c.in-Some.part ∷ []) in
    let added = sum_by-append (λ n. n) (map (λ part. part.share.parts) c.pop.new.self.items) (c.in-Some.part.share.parts ∷ []) in
    let whole = rw (apart, parts) at c.loop-part.invariant.whole in
    record {
      whole = omega (arith, whole, added, c.merge.ensures.parts);
      amount = search rules;
      idle = (All-pop (λ (part : _). part.share.amount ≡ 0) c.loop-part.parts.items c.pop.new.self.items c.pop.result (search rules) c.loop-part.invariant.idle).0;
    }
