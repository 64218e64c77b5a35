use Rattle.std.proofs.Common.{ap, sym, ◌∙◌}
use Rattle.std.proofs.lemmas.Map.Steps.{set_value_same}
use Rattle.std.proofs.lemmas.Result.{on_err_weaker, on_ok_weaker}
use Rattle.std.specs.BTreeMap.{is_at}
use Rattle.std.specs.Map.{set_value}
use Rattle.std.specs.Ordering.{nat_cmp}
use Rattle.wm_index.specs.Works.{with_tags}
use Rattle.wm_index.proofs.Kepts.{changed-from, none-changes}
use Rattle.wm_index.proofs.tagging.append_to.Goals as goal

pub returns-in-Some-clause-ok : goal.returns-in-Some-clause-ok
returns-in-Some-clause-ok c =
    let found = sym c.in-Some.ensures.value in
    let writes = c.get_mut.follows.holds c.append.new.self in
    on_ok_weaker c.append.result
    (λ is. changed-from (with_tags c.args.tags.now.items) c.args.seq c.in-Some.work.now c.append.new.self c.args.works.now (c.get_mut.follows.lender c.append.new.self) found is writes)
    c.append.ensures.ok

pub returns-in-Some-clause-err : goal.returns-in-Some-clause-err
returns-in-Some-clause-err c =
    let found = sym c.in-Some.ensures.value in
    on_err_weaker c.append.result
    (λ is. (c.get_mut.follows.holds c.append.new.self).0
    ∙ ap (λ kept. set_value (is_at (nat_cmp c.args.seq)) c.args.works.now.entries kept) is
    ∙ set_value_same (is_at (nat_cmp c.args.seq)) c.args.works.now.entries c.in-Some.work.now found)
    c.append.ensures.err

pub returns-in-None-clause-ok : goal.returns-in-None-clause-ok
returns-in-None-clause-ok c =
    let none = sym (rw c.in-None.is at c.get_mut.ensures.value) in
    rw c.get_mut.follows.holds-at-none (none-changes (with_tags c.args.tags.now.items) c.args.seq c.args.works.now none c.get_mut.ensures.ordered)
