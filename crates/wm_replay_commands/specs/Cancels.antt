-- Which cancels are refused.
use Rattle.std.specs.Prelude.{◌≡◌, ℕ, List}
use Rattle.wm_machine.specs.Cancelled.{cancelled, cancelled_each, targeted}
use Rattle.wm_machine.specs.Replied.{unchanged}
use Rattle.wm_machine.specs.declared.command.Target.{Target}
use Rattle.wm_machine.specs.declared.reply.Refusal.TheVariants.{NoSuchWork}
use Rattle.wm_machine.specs.declared.reply.Reply.TheVariants as reply
use Rattle.wm_machine.specs.declared.state.State.{State}

-- the unfinished works that a target is for are cancelled
abbrev pub IsAccepted : State → Target → Type 0
IsAccepted s target = cancelled s target ≡ cancelled_each s (targeted target s.works)

-- no record has this id, for which the target is
abbrev pub IsRefusedFor : State → Target → List ℕ → Type 0
IsRefusedFor s target id = cancelled s target ≡ unchanged s (reply.Refused (NoSuchWork id))
