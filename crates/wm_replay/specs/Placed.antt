-- What comes of a batch that is checked and placed.
use Rattle.std.specs.Prelude.{◌≡◌, ℕ, List, Option, Some, None}
use Rattle.wm_machine.specs.Enqueued.{enqueued, made_ready, placing_in, refusal_of_placing}
use Rattle.wm_machine.specs.Plan.{Placing}
use Rattle.wm_machine.specs.Replied.{Outcome, unchanged}
use Rattle.wm_machine.specs.declared.command.UniqueName.{UniqueName}
use Rattle.wm_machine.specs.declared.reply.Refusal.{Refusal}
use Rattle.wm_machine.specs.declared.reply.Reply.TheVariants as reply
use Rattle.wm_machine.specs.declared.state.State.{State}
use Rattle.wm_request.specs.declared.request.Node.{Node}

-- the unique name that works are placed under
abbrev pub name_in : Option UniqueName → Option (List ℕ)
name_in None = None
name_in (Some unique) = Some unique.name

-- what comes of a batch that is placed so, where this check refuses it, or none does
abbrev pub placed_by : Option Refusal → State → Option UniqueName → Placing → List Node → Outcome
placed_by (Some found) s named placing works = unchanged s (reply.Refused found)
placed_by None s named placing works = placing_in (made_ready s placing) (name_in named) placing.after works

-- the machine checks a batch and places it so
abbrev pub IsPlacedBy : State → Option UniqueName → Placing → List Node → Type 0
IsPlacedBy s named placing works = enqueued s named works ≡ placed_by (refusal_of_placing s placing works) s named placing works
