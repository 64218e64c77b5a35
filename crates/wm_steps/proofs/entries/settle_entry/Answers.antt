use Rattle.std.proofs.Common.{◌≡◌, ℕ, false, List, Option, None, Some, refl, ap, ◌∙◌}
use Rattle.std.specs.Option.{is_some}
use Rattle.wm_index.specs.Entries.{changed_at, has_seq, keeping_tags, unnamed, Entry}
use Rattle.wm_steps.proofs.EntryLists.{changed-twice, has-numbers, numbers-changed}
use Rattle.wm_steps.specs.Entries.{unnaming}
use Rattle.wm_steps.proofs.entries.settle_entry.Goals as goal

none-is : (name : Option (List ℕ)) → is_some name ≡ false → None ≡ name
none-is None unnamed = refl
none-is (Some name) unnamed = absurd cc

pub unname-requires : goal.unname-requires
unname-requires c =
    let seq = c.args.work.now.seq in
    let index = c.args.index.now in
    let change = keeping_tags c.as_slice.result.now in
    ap (λ (entries : List Entry). has_seq entries seq) c.keep_tags.ensures
    ∙ has-numbers (changed_at change seq index) index seq (numbers-changed change seq (λ entry. refl) index) ∙ c.requires

pub returns-then-is_none : goal.returns-then-is_none
returns-then-is_none c =
    let work = c.args.work.now in
    let index = c.args.index.now in
    let tags = c.as_slice.ensures ∙ c.tags.ensures.tags in
    c.unname.ensures ∙ ap (changed_at unnamed work.seq) c.keep_tags.ensures
    ∙ ap (λ tags. changed_at unnamed work.seq (changed_at (keeping_tags tags) work.seq index)) tags
    ∙ changed-twice unnamed (keeping_tags work.request.tags) work.seq (λ entry. refl) index
    ∙ ap (λ (name : Option (List ℕ)). changed_at (λ entry. unnaming name (keeping_tags work.request.tags entry)) work.seq index) (none-is work.name c.if-is_none.ensures)
