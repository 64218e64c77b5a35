use Rattle.std.proofs.Common.{ap, map, sym, ◌++◌, ◌∙◌}
use Rattle.std.proofs.lemmas.List.{append-nil}
use Rattle.std.specs.Map.Iter.{deref}
use Rattle.wm_leases.proofs.Lists.{keys-runs}
use Rattle.wm_leases.proofs.terms.runs_in.Goals as goal

pub returns : goal.returns
returns c =
    let seen = map deref c.loop-run.yielded in
    c.loop-run.invariant.list ∙ sym (append-nil seen) ∙ ap (λ more. seen ++ more) (sym c.in-None.ensures.steps.0) ∙ c.loop-run.invariant.split
    ∙ c.into_iter-run-iterator.ensures.into_iter_gives ∙ c.keys-run-items.ensures.rest ∙ keys-runs c.args.terms.now.entries
