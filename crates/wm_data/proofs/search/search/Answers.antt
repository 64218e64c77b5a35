-- What the binary search answers is the place of the key.
use Rattle.std.proofs.Common.{IfOk, IfErr, nat_cmp, rules}
use Rattle.std.proofs.lemmas.Fn.{always_returns_same}
use Rattle.std.specs.Cmp.Lexicographic.{slice_cmp}
use Rattle.wm_data.specs.Entries.{IsFoundAt, IsMissingAt}
use Rattle.wm_data.proofs.Places.{IsFoundAt-search}
use Rattle.wm_data.proofs.search.search.Goals as goal

place : (c : goal.After-binary_search_by) → IfOk c.binary_search_by.result (IsFoundAt c.args.key.now c.args.entries.now)
    × IfErr c.binary_search_by.result (IsMissingAt c.args.key.now c.args.entries.now)
place c =
    IsFoundAt-search c.args.key.now c.args.entries.now c.binary_search_by.result c.requires c.binary_search_by.ensures.bound
    (c.binary_search_by.ensures.position (λ entry. slice_cmp nat_cmp entry.key c.args.key.now) (always_returns_same _ _ _ (λ a r q k. search rules)))

pub returns-clause-found : goal.returns-clause-found
returns-clause-found c = (place c).0

pub returns-clause-missing : goal.returns-clause-missing
returns-clause-missing c = (place c).1
