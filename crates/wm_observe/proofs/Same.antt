-- What the test of two infos tells: whether they are the same.
use Rattle.std.proofs.Common.{◌≡◌, Decides, refl}
use Rattle.wm_machine.specs.contracts.reply.WorkInfoPartialEq.TheImpl as infos
use Rattle.wm_machine.specs.declared.reply.WorkInfo.{WorkInfo}
use Rattle.wm_observe.specs.Notes.{same_info}
use Rattle.wm_observe.specs.SameInfo.{decided}

pub same_decides : (one other : WorkInfo) → Decides (same_info one other) (one ≡ other)
unfolding same_info
same_decides one other = (decided one other).decides

-- `==` of the code answers just that
pub eq_same : (one other : WorkInfo) → infos.eq-value.it one other ≡ same_info one other
unfolding same_info decided
eq_same one other = refl
