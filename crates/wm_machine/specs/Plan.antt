-- What the policy of a unique name comes to, by the works that have the name. After `androidx.work.ExistingWorkPolicy` and
-- `ExistingPeriodicWorkPolicy`; that one-time and periodic works don't share a name is this project's own choice.
use Rattle.std.specs.Prelude.{ℕ, ◌||◌, Bool, true, false, not, find, is_some, List, [], ◌∷◌, length, filter, nat_lt, if◌then◌else◌, Option, Some, None, option_map}
use Rattle.std.specs.List.{list_any}
use Rattle.wm_machine.specs.Closed.{is_open}
use Rattle.wm_machine.specs.Group.{leaves_of, numbers_in}
use Rattle.wm_machine.specs.declared.command.Policy.{Policy}
use Rattle.wm_machine.specs.declared.command.Policy.TheVariants as policy
use Rattle.wm_machine.specs.declared.record.How.TheVariants as how
use Rattle.wm_machine.specs.declared.record.Phase.{Phase}
use Rattle.wm_machine.specs.declared.record.Phase.TheVariants as phase
use Rattle.wm_machine.specs.declared.record.Record.{Record}
use Rattle.wm_request.specs.Batches.{is_periodic}
use Rattle.wm_request.specs.declared.request.Node.{Node}

-- ---- plans

-- a batch is placed: the works of the first numbers are cancelled before, those of the second are let go, and each work of the batch that
-- names no other comes after those of the third
pub record Placing : Type 0 where
  pub cancel : List ℕ
  pub let_go : List ℕ
  pub after : List ℕ

-- nothing is cancelled and nothing let go, and no work comes after others than it names
abbrev pub placed_freely : Placing
placed_freely = record { cancel = []; let_go = []; after = [] }

pub data Plan : Type 0 where
  -- nothing changes
  Keeps : Plan
  -- this member is updated
  Updates : Record → Plan
  -- the batch is placed
  Places : Placing → Plan

-- a member that isn't finished
abbrev pub is_unfinished : Record → Bool
is_unfinished work = is_open work.phase

-- whether a work has failed or was cancelled
abbrev pub is_lost : Phase → Bool
is_lost (phase.Done how.Failed) = true
is_lost (phase.Done how.Cancelled) = true
is_lost _ = false

-- the unfinished members are cancelled, and all are let go
abbrev pub replacing : List Record → Placing
replacing members = record { cancel = numbers_in (filter is_unfinished members); let_go = numbers_in members; after = [] }

-- the batch comes after the leaves, and nothing is let go
abbrev pub appending : List Record → Placing
appending members = record { cancel = []; let_go = []; after = numbers_in (leaves_of members) }

-- an unfinished member is updated, where there is one
abbrev pub updating : Option Record → List Record → Plan
updating (Some member) members = Updates member
updating None members = Places (replacing members)

-- what a policy comes to, by the members
abbrev pub plan_of : Policy → List Record → Plan
plan_of policy.Keep members = if list_any is_unfinished members then Keeps else Places (replacing members)
plan_of policy.Replace members = Places (replacing members)
plan_of policy.CancelAndReenqueue members = Places (replacing members)
plan_of policy.Append members = Places (appending members)
plan_of policy.AppendOrReplace members =
    Places (if list_any (λ work. is_lost work.phase) (leaves_of members) then replacing members else appending members)
plan_of policy.Update members = updating (find is_unfinished members) members

-- ---- kinds

abbrev pub is_appending : Policy → Bool
is_appending policy.Append = true
is_appending policy.AppendOrReplace = true
is_appending _ = false

-- whether a policy is for periodic work alone
abbrev pub is_for_periodic : Policy → Bool
is_for_periodic policy.CancelAndReenqueue = true
is_for_periodic policy.Update = true
is_for_periodic _ = false

-- whether a policy can't take a member: none can be appended to periodic work, nor can periodic work update one-time work
abbrev pub is_unfit : Policy → Record → Bool
is_unfit policy.Append member = is_some member.request.period
is_unfit policy.AppendOrReplace member = is_some member.request.period
is_unfit policy.Update member = not (is_some member.request.period)
is_unfit _ member = false

abbrev pub first_of_batch : List Node → Option Node
first_of_batch [] = None
first_of_batch (work ∷ works) = Some work

-- the work of a batch that a policy can't take, where this is its first periodic one: periodic work is enqueued alone, and isn't appended
abbrev pub unfit_work : Option Node → Policy → List Node → Option Node
unfit_work (Some periodic) policy works = if nat_lt 1 (length works) || is_appending policy then Some periodic else None
unfit_work None policy works = if is_for_periodic policy then first_of_batch works else None

-- the id of the first work of the batch, or else of the first member, whose kind the policy can't take
abbrev pub id_mismatched : Option Node → Policy → List Record → Option (List ℕ)
id_mismatched (Some work) policy members = Some work.request.id
id_mismatched None policy members = option_map (λ member. member.request.id) (find (is_unfit policy) members)

abbrev pub mismatch : Policy → List Record → List Node → Option (List ℕ)
mismatch policy members works = id_mismatched (unfit_work (find is_periodic works) policy works) policy members
