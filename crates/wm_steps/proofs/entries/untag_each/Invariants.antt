use Rattle.std.proofs.Common.{◌≡◌, drop}
use Rattle.wm_steps.specs.Entries.{with_untagged, HaveEntries}
use Rattle.wm_steps.proofs.entries.untag_each.Given as goal

-- what is left makes of the entries so far what all makes of the entries, and has entries there
abbrev pub invariant-loop-replacement : goal.invariant-loop-replacement
invariant-loop-replacement l = record {
  entries : with_untagged l.works (drop l.replacement-index l.replaced) l.index ≡ with_untagged l.works l.replaced l.fn.index;
  there : HaveEntries (drop l.replacement-index l.replaced) l.index;
}
