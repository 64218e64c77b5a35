-- What stands under the key nests no deeper than the line.
use Rattle.std.proofs.Common.{sym}
use Rattle.std.specs.Prelude.{codes}
use Rattle.wm_audit_text.proofs.Depths.{depth_of_member}
use Rattle.wm_audit_text.proofs.entries.command_entry.Goals as goal

pub command_in-requires : goal.command_in-requires
command_in-requires c = depth_of_member (codes "command") _ _ _ (sym (rw (c.in-Some.is) at c.get.ensures)) c.requires
