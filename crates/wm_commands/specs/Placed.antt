-- The records of new works, and the state with them.
use Rattle.std.specs.Prelude.{◌≡◌, ℕ, ◌+◌, ◌&&◌, Bool, List, [], ◌∷◌, ◌++◌, length, Option, Some, None}
use Rattle.wm_commands.specs.Cleared.{cleared_state, clearing_of, phase_then, replaced_by_clearing, stays, stopped_by}
use Rattle.wm_commands.specs.declared.clearing.Clearing.{Clearing}
use Rattle.wm_commands.specs.declared.placement.Placement.{Placement}
use Rattle.wm_machine.specs.Enqueued.{enqueued, is_cancelled, is_failed, made_ready, new_record, placing_in, prior_of, refusal_of_placing, with_work}
use Rattle.wm_machine.specs.First.{is_succeeded}
use Rattle.wm_machine.specs.Plan.{Placing}
use Rattle.wm_machine.specs.Replied.{Outcome, unchanged}
use Rattle.wm_machine.specs.declared.command.UniqueName.{UniqueName}
use Rattle.wm_machine.specs.declared.record.How.{How}
use Rattle.wm_machine.specs.declared.record.How.TheVariants as how
use Rattle.wm_machine.specs.declared.record.Phase.{Phase}
use Rattle.wm_machine.specs.declared.record.Record.{Record}
use Rattle.wm_machine.specs.declared.reply.Refusal.{Refusal}
use Rattle.wm_machine.specs.declared.reply.Reply.TheVariants as reply
use Rattle.wm_machine.specs.declared.state.State.{State}
use Rattle.wm_request.specs.declared.request.Node.{Node}

-- whether a phase is that of work that is finished in this way
abbrev pub is_done : How → Phase → Bool
is_done how.Succeeded phase = is_succeeded phase
is_done how.Failed phase = is_failed phase
is_done how.Cancelled phase = is_cancelled phase

-- whether a stored record stays, and is finished in this way once the records are cleared
abbrev pub is_then : Clearing → How → Record → Bool
is_then clearing how work = stays clearing.removed work && is_done how (phase_then clearing.cancelled work)

-- the state with these records more, under the next numbers
abbrev pub with_placed : State → List Record → State
with_placed s placed = record s { works = s.works ++ placed; next = s.next + length placed }

-- the record of new work that comes after works of these numbers, where it names none
abbrev pub placed_record : State → Option (List ℕ) → List ℕ → Node → Record
placed_record s name after node = new_record s name (prior_of s.works after node.after) node

-- the records of new works, each placed after those before it
abbrev pub placed_records : State → Option (List ℕ) → List ℕ → List Node → List Record
placed_records s name after [] = []
placed_records s name after (node ∷ nodes) =
    placed_record s name after node ∷ placed_records (with_work s (placed_record s name after node)) name after nodes

-- ---- a batch

-- the unique name that works are placed under
abbrev pub name_in : Option UniqueName → Option (List ℕ)
name_in None = None
name_in (Some unique) = Some unique.name

-- how a batch is placed where this becomes of the records
abbrev pub placement_in : State → Option (List ℕ) → List ℕ → Clearing → List Node → Placement
placement_in s name after clearing works = record {
  replaced = replaced_by_clearing clearing s.works;
  removed = clearing.removed;
  placed = placed_records (cleared_state clearing s) name after works;
  stopped = stopped_by clearing.cancelled s.runs;
}

-- and where works are cancelled before and others let go
abbrev pub placement_of : State → Option (List ℕ) → Placing → List Node → Placement
placement_of s name placing works = placement_in s name placing.after (clearing_of s.now s.works placing.cancel placing.let_go) works

-- what comes of a batch that is placed so, where this check refuses it, or none does
abbrev pub placed_by : Option Refusal → State → Option UniqueName → Placing → List Node → Outcome
placed_by (Some found) s named placing works = unchanged s (reply.Refused found)
placed_by None s named placing works = placing_in (made_ready s placing) (name_in named) placing.after works

-- the machine checks a batch and places it so
abbrev pub IsPlacedBy : State → Option UniqueName → Placing → List Node → Type 0
IsPlacedBy s named placing works = enqueued s named works ≡ placed_by (refusal_of_placing s placing works) s named placing works
