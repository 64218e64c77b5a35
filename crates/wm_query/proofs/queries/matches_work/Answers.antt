use Rattle.wm_machine.specs.Queried.{matches}
use Rattle.wm_query.proofs.queries.matches_work.Goals as goal

pub returns : goal.returns
unfolding matches
returns c = rw (c.as_slice-tags.ensures, c.tags.ensures.tags, c.id.ensures) at c.matches_parts.ensures
