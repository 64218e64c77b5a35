-- An enqueue that is checked, and placed where no check refuses it.
use Rattle.std.proofs.Common.{◌≡◌, ◌+◌, ◌^◌, ◌≤◌, List, [], length, Option, Some, None, refl, sym, ◌∙◌, ap}
use Rattle.wm_commands.specs.Placed.{name_in, placed_by, IsPlacedBy}
use Rattle.wm_machine.proofs.Enqueues.{passes}
use Rattle.wm_machine.proofs.Groups.{with_let_go-none}
use Rattle.wm_machine.specs.Enqueued.{enqueued, made_ready, outcome_by, placing_in, refusal_of, refusal_of_placing}
use Rattle.wm_machine.specs.Plan.{placed_freely, Placing}
use Rattle.wm_machine.specs.declared.command.UniqueName.{UniqueName}
use Rattle.wm_machine.specs.declared.record.Record.{Record}
use Rattle.wm_machine.specs.declared.reply.Refusal.{Refusal}
use Rattle.wm_machine.specs.declared.state.State.{State}
use Rattle.wm_request.specs.declared.request.Node.{Node}

-- where no check refuses a batch it is placed
pub placed-accepted : (s : State) (named : Option UniqueName) (placing : Placing) (works : List Node) → IsPlacedBy s named placing works
    → refusal_of_placing s placing works ≡ None → enqueued s named works ≡ placing_in (made_ready s placing) (name_in named) placing.after works
placed-accepted s named placing works placed checked = placed ∙ ap (λ o. placed_by o s named placing works) checked

-- and there are numbers for it
pub placed-room : (s : State) (placing : Placing) (works : List Node) → refusal_of_placing s placing works ≡ None
    → s.next + length works ≤ 2 ^ 53
placed-room s placing works checked = (passes s placing works checked).numbers

-- ---- without a name

free-outcome : (s : State) (works : List Node) (found : Option Refusal)
    → outcome_by found s None works ≡ placed_by found s None placed_freely works
free-outcome s works (Some found) = refl
free-outcome s works None =
    ap (λ (t : State). placing_in t None [] works) (sym (ap (λ (works : List Record). record s { works = works }) (with_let_go-none s.works)))

-- a batch is placed, and nothing becomes of other records
pub free-placed : (s : State) (works : List Node) → IsPlacedBy s None placed_freely works
free-placed s works = free-outcome s works (refusal_of s None works)
