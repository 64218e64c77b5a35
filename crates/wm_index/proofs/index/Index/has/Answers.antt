use Rattle.std.proofs.Common.{ap, ◌∙◌}
use Rattle.wm_index.specs.Entries.{has_seq}
use Rattle.wm_index.proofs.Lists.{is-there}
use Rattle.wm_index.proofs.index.Index.has.Goals as goal

pub returns : goal.returns
returns c = c.contains_key.ensures ∙ is-there c.args.seq c.self.inside.works.entries ∙ ap (λ entries. has_seq entries c.args.seq) c.self.view_is
