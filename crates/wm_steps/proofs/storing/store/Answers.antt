use Rattle.std.proofs.Common.{◌≡◌, List, rules, sym, subst}
use Rattle.wm_machine.specs.declared.record.Record.{Record}
use Rattle.wm_steps.proofs.EntryChanges.{prepared-begun}
use Rattle.wm_steps.specs.Entries.{AreEntriesOf}
use Rattle.wm_steps.proofs.storing.store.Goals as goal

pub undo_entries-requires-clause-begun : goal.undo_entries-requires-clause-begun
undo_entries-requires-clause-begun g c =
    let works : c.as_slice-in-Err.result.now ≡ c.args.lists.now.works.items = search rules in
    prepared-begun c.as_slice-in-Err.result.now c.args.change.now c.prepare_entries.new.index (record {
      before = c.args.index.now;
      were = subst (λ (works : List Record). AreEntriesOf works c.args.index.now) (sym works) c.requires.entries;
      are = c.in_ok-prepare_entries.ensures.ok;
    })
