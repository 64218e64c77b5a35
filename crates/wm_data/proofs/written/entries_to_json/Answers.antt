-- Entries put one by one.
use Rattle.std.proofs.Common.{ap, ◌∙◌, take_all}
use Rattle.serde_json.specs.Data.{object}
use Rattle.serde_json.proofs.Views.{view-Object}
use Rattle.wm_data.proofs.EntryForms.{put_more}
use Rattle.wm_data.proofs.written.entries_to_json.Goals as goal

pub loop-entry-preserved : goal.loop-entry-preserved
loop-entry-preserved c =
    let more = rw (← c.entry-item.is) at (put_more c.args.entries.now c.loop-entry.entry-index c.entry-item.result c.requires c.loop-entry-test.true) in
    c.in_ok-put.ensures.ok ∙ rw (c.loop-entry.invariant, c.in_ok-value.ensures, c.as_str.ensures) more

pub returns : goal.returns
returns c =
    let all = rw (take_all c.loop-entry.entry-index c.args.entries.now c.loop-entry-test.false) at c.loop-entry.invariant in
    view-Object c.loop-entry.members ∙ ap object all
