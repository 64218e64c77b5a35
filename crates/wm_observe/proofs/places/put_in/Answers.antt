use Rattle.std.proofs.Common.{◌≡◌, Some, None, rules}
use Rattle.std.specs.BTreeMap.{get}
use Rattle.std.specs.Ordering.{nat_cmp}
use Rattle.wm_observe.proofs.PutRecords.{index-within, put-found, put-unfound}
use Rattle.wm_observe.proofs.places.put_in.Goals as goal

pub at-requires : goal.at-requires
at-requires c =
    let seq = c.args.work.now.seq in
    let found : get nat_cmp c.args.places.now seq ≡ Some c.in-Some.index.now = search rules in
    index-within c.args.replaced.now c.args.places.now seq c.in-Some.index.now c.requires found

pub returns-in-Some : goal.returns-in-Some
returns-in-Some c =
    let found : get nat_cmp c.args.places.now c.args.work.now.seq ≡ Some c.in-Some.index.now = search rules in
    put-found c.args.replaced.now c.args.places.now c.args.work.now c.in-Some.index.now c.at.result.now c.requires found c.at.ensures

pub returns-in-None : goal.returns-in-None
returns-in-None c =
    let none : get nat_cmp c.args.places.now c.args.work.now.seq ≡ None = search rules in
    put-unfound c.args.replaced.now c.args.places.now c.args.work.now c.requires none
