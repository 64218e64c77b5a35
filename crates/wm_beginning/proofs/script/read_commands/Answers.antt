-- The limit that what was read passes is the script's.
use Rattle.std.proofs.Common.{◌≡◌, Some, rules}
use Rattle.wm_beginning.proofs.ScriptLimits.{same_limit}
use Rattle.wm_script.specs.Limits.{first_limit}
use Rattle.wm_beginning.proofs.script.read_commands.Goals as goal

pub returns-in-Err-TooLong-clause-status : goal.returns-in-Err-TooLong-clause-status
returns-in-Err-TooLong-clause-status g c =
    let left = g.S.Source.left in
    let passed = rw c.in-Err-TooLong.field-0-is at c.in-Err-TooLong.ensures.fault in
    let is : first_limit c.in-Ok.script.items ≡ Some c.in-Err-TooLong.limit = rw c.deref.ensures.value at passed in
    record {
      no_fault = search rules;
      too_long =
          same_limit (left c.args.source.now) (left c.read_script.new.source) c.in-Ok.script.items (Some c.in-Err-TooLong.limit) c.in-Ok.ensures.bytes is;
    }
