use Rattle.std.proofs.Common.{ap, ◌∙◌}
use Rattle.wm_collections.specs.Lists.{is_among}
use Rattle.wm_index.specs.Entries.{by_name, is_name}
use Rattle.wm_index.proofs.Lists.{numbers-are}
use Rattle.wm_index.proofs.index.Index.by_name.Goals as goal

pub returns : goal.returns
returns c =
    let text = c.args.name.now in
    numbers-are (λ entry. is_name text entry.name) c.self.inside.works.entries c.numbers_at.result.now c.self.invariant.ascending c.numbers_at.ensures.ascending
    (λ number. ap (λ list. is_among list number) c.numbers_at.ensures.numbers ∙ c.self.invariant.names_are text number)
    ∙ ap (λ entries. by_name entries text) c.self.view_is
