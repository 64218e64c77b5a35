use Rattle.std.proofs.Common.{◌-◌, ◌≤◌, arith, drop, length, ltb, rules, ◌∙◌}
use Rattle.std.proofs.lemmas.List.{length-drop, take_all}
use Rattle.std.proofs.lemmas.List.Sorted.{IsPartitionPoint-from_clause}
use Rattle.wm_graph.proofs.ListedNumbers.{from-place, rising-parted}
use Rattle.wm_graph.proofs.numbers.numbers_from.Goals as goal

pub returns : goal.returns
returns c =
    let numbers = c.args.numbers.now in
    let least = c.args.least in
    let place = c.partition_point-place.result in
    let point =
    IsPartitionPoint-from_clause (λ n. ltb n least) numbers place c.partition_point-place.ensures.partitioned (rising-parted numbers least c.requires)
    (λ a r f k. search rules) in
    let whole : length (drop place numbers) ≤ length numbers - place = omega (arith, length-drop place numbers) in
    take_all (length numbers - place) (drop place numbers) whole ∙ from-place least numbers place point
