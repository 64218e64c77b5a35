use Rattle.std.proofs.Common.{◌≡◌, [], ◌∷◌, ◌++◌, ap, map, rules, subst, sym, ◌∙◌}
use Rattle.std.specs.List.Sorted.{IsStrictlySortedBy}
use Rattle.std.specs.Map.Iter.{deref}
use Rattle.wm_leases.specs.Ends.{end_cmp, End}
use Rattle.wm_leases.proofs.Moves.{early-more, later-above, over-are, runs-more, split-more}
use Rattle.wm_leases.proofs.ends.over_among.Goals as goal

pub returns-then-end-moment : goal.returns-then-end-moment
returns-then-end-moment c =
    let ends = c.args.ends.now in
    let seen = map deref c.loop-end.yielded in
    let first : End = c.in-Some.end.now in
    let rest = c.next.new.self in
    let given = c.into_iter-end-iterator.ensures.into_iter_gives in
    let next : c.loop-end.end-iterator ≡ first ∷ rest = search rules in
    let split : seen ++ first ∷ rest ≡ ends.keys = ap (λ more. seen ++ more) (sym next) ∙ c.loop-end.invariant.split ∙ given.0 in
    over-are ends seen (first ∷ rest) split c.args.moment c.loop-end.runs c.loop-end.invariant.early
    (later-above c.args.moment seen rest first (subst (IsStrictlySortedBy end_cmp) (sym split) given.4) c.if-end-moment.true) c.loop-end.invariant.runs

pub loop-end-preserved : goal.loop-end-preserved
loop-end-preserved c =
    let next : c.loop-end.end-iterator ≡ c.in-Some.end.now ∷ c.next.new.self = search rules in
    let kept = c.loop-end.invariant in
    record {
      split = split-more c.loop-end.yielded c.in-Some.end c.next.new.self c.loop-end.end-iterator c.into_iter-end-iterator.result next kept.split;
      early = early-more c.args.moment c.loop-end.yielded c.in-Some.end kept.early c.if-end-moment.false;
      runs = runs-more c.loop-end.yielded c.in-Some.end c.loop-end.runs c.insert.new.self kept.runs c.in_ok-insert.ensures.updates;
    }

pub returns : goal.returns
returns c =
    let seen = map deref c.loop-end.yielded in
    let given = c.into_iter-end-iterator.ensures.into_iter_gives in
    over-are c.args.ends.now seen [] (ap (λ more. seen ++ more) (sym c.in-None.ensures.steps.0) ∙ c.loop-end.invariant.split ∙ given.0)
    c.args.moment c.loop-end.runs c.loop-end.invariant.early tt c.loop-end.invariant.runs
