use Rattle.std.proofs.Common.{◌≡◌, ap, filter, length, None, rules, sym, ◌∙◌}
use Rattle.wm_machine.specs.Group.{numbers_in}
use Rattle.wm_unique.proofs.Checked.{checked_last, many_of, refusal_over, spent_of}
use Rattle.wm_unique.proofs.Numbered.{grouped_filter}
use Rattle.wm_unique.specs.Plans.{grouped, is_named_by, placing_by}
use Rattle.wm_unique.proofs.checks.check.Goals as goal

pub refusal_by_named-requires-clause-known : goal.refusal_by_named-requires-clause-known
refusal_by_named-requires-clause-known c =
    let works = c.args.works.now in
    let nodes = c.args.batch.now.works in
    let part : grouped works c.args.known.now ≡ filter (is_named_by nodes) works =
    ap (grouped works) c.requires.known ∙ grouped_filter (is_named_by nodes) works c.requires.in_order in
    c.requires.known ∙ sym (ap numbers_in part)

pub returns : goal.returns
returns c =
    λ s is next_is.
    let works = c.args.works.now in
    let nodes = c.args.batch.now.works in
    let read = c.as_slice-nodes.result.now in
    let same : read ≡ nodes = c.as_slice-nodes.ensures ∙ c.works.ensures.works in
    let placing = placing_by c.args.plan.now in
    let part : grouped works c.args.known.now ≡ filter (is_named_by nodes) works =
    ap (grouped works) c.requires.known ∙ grouped_filter (is_named_by nodes) works c.requires.in_order in
    let many : None ≡ many_of (length works) read = search rules in
    let spent : None ≡ spent_of c.args.next read = search rules in
    checked_last s works c.args.next placing nodes c.refusal_by_named.result is next_is (many ∙ ap (many_of (length works)) same)
    (spent ∙ ap (spent_of c.args.next) same) (c.refusal_by_named.ensures ∙ ap (refusal_over (grouped works c.args.known.now) placing) same
    ∙ ap (λ list. refusal_over list placing nodes) part)
