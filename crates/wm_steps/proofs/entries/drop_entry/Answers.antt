use Rattle.std.proofs.Common.{not, sym, ap, ◌∙◌}
use Rattle.wm_collections.proofs.Lists.{All-weaker, filter-each}
use Rattle.wm_index.specs.Entries.{Entry}
use Rattle.std.specs.Prelude.{◌==◌}
use Rattle.wm_steps.proofs.EntryLists.{missed-absent}
use Rattle.wm_steps.proofs.entries.drop_entry.Goals as goal

pub returns-else-has : goal.returns-else-has
returns-else-has c =
    let entries = c.args.index.now in
    let seq = c.args.seq in
    sym (filter-each (λ (entry : Entry). not (entry.seq == seq)) entries
    (All-weaker entries (λ entry miss. ap not miss) (missed-absent seq entries (sym c.has.ensures ∙ c.if-has.false))))
