use Rattle.std.proofs.Common.{sym}
use Rattle.wm_index.proofs.Founds.{err_given}
use Rattle.wm_steps.proofs.EntryChanges.{entries-ascend, replaced-there, tagging-leaving}
use Rattle.wm_steps.proofs.entries.prepare_entries.Goals as goal

pub put_each-requires-clause-there : goal.put_each-requires-clause-there
put_each-requires-clause-there c = replaced-there c.args.works.now c.args.change.now c.requires.follows c.args.index.now c.requires.entries

pub put_each-requires-clause-leaving : goal.put_each-requires-clause-leaving
put_each-requires-clause-leaving c = tagging-leaving c.args.works.now c.args.change.now c.requires.follows c.args.index.now c.requires.entries

pub put_each-requires-clause-ascending : goal.put_each-requires-clause-ascending
put_each-requires-clause-ascending c = entries-ascend c.args.works.now c.args.change.now c.requires.follows c.args.index.now c.requires.entries

pub undo_entries-requires-clause-begun : goal.undo_entries-requires-clause-begun
undo_entries-requires-clause-begun c = record {
  before = c.args.index.now;
  were = c.requires.entries;
  begun = err_given c.put_each.result _ c.put_each.ensures.err (sym c.if-is_err.ensures.value);
}
