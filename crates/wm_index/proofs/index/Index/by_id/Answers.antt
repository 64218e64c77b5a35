use Rattle.std.proofs.Common.{ap, ◌∙◌}
use Rattle.std.specs.Map.{lookup}
use Rattle.std.specs.Str.{bytes_eq}
use Rattle.wm_index.specs.Entries.{by_id, is_id}
use Rattle.wm_index.proofs.Lists.{found-is}
use Rattle.wm_index.proofs.index.Index.by_id.Goals as goal

pub returns : goal.returns
returns c =
    let id = c.args.id.now in
    c.copied.ensures ∙ c.get.ensures.value
    ∙ found-is (λ entry. is_id id entry.id) c.self.inside.works.entries (lookup (bytes_eq id) c.self.inside.ids.entries) c.self.invariant.ascending
    (λ number. c.self.invariant.ids_are.found id number)
    ∙ ap (λ entries. by_id entries id) c.self.view_is
