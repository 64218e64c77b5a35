use Rattle.std.proofs.Common.{nat_cmp, rules, sym}
use Rattle.std.proofs.lemmas.Fn.{always_returns_same}
use Rattle.wm_machine.proofs.NumberPlaces.{numbered-search}
use Rattle.wm_machine.proofs.Runnings.{WorksAscend-in_order}
use Rattle.wm_machine.specs.declared.record.Record.{Record}
use Rattle.wm_machine.proofs.numbers.index_numbered.Goals as goal

pub returns-in-Ok : goal.returns-in-Ok
returns-in-Ok c =
    let works = c.args.works.now in
    let found = c.binary_search_by.ensures in
    let is =
    numbered-search c.args.number works c.binary_search_by.result (WorksAscend-in_order works c.requires) found.bound
    (found.position (λ (work : Record). nat_cmp work.seq c.args.number) (always_returns_same _ _ _ (λ a r q k. search rules))) in
    (rw c.in-Ok.is at found.bound, sym (rw c.in-Ok.is at is))

pub returns-in-Err : goal.returns-in-Err
returns-in-Err c =
    let works = c.args.works.now in
    let found = c.binary_search_by.ensures in
    let is =
    numbered-search c.args.number works c.binary_search_by.result (WorksAscend-in_order works c.requires) found.bound
    (found.position (λ (work : Record). nat_cmp work.seq c.args.number) (always_returns_same _ _ _ (λ a r q k. search rules))) in
    sym (rw c.in-Err.is at is)
