use Rattle.std.proofs.Common.{ap, ◌∙◌}
use Rattle.wm_collections.specs.Lists.{is_among}
use Rattle.wm_index.specs.Entries.{by_tag, has_tag}
use Rattle.wm_index.proofs.Lists.{numbers-are}
use Rattle.wm_index.proofs.index.Index.by_tag.Goals as goal

pub returns : goal.returns
returns c =
    let text = c.args.tag.now in
    numbers-are (λ entry. has_tag entry.tags text) c.self.inside.works.entries c.numbers_at.result.now c.self.invariant.ascending c.numbers_at.ensures.ascending
    (λ number. ap (λ list. is_among list number) c.numbers_at.ensures.numbers ∙ c.self.invariant.tags_are text number)
    ∙ ap (λ entries. by_tag entries text) c.self.view_is
