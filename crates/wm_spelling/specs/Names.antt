-- The names that a spelling has for what is one of several.
use Rattle.std.specs.Prelude.{ℕ, List, codes}
use Rattle.wm_conditions.specs.declared.conditions.Network.{Network}
use Rattle.wm_conditions.specs.declared.conditions.Network.TheVariants as network
use Rattle.wm_data.specs.declared.merger.Merger.{Merger}
use Rattle.wm_data.specs.declared.merger.Merger.TheVariants.{Overwriting, ArrayCreating}
use Rattle.wm_machine.specs.declared.command.Policy.{Policy}
use Rattle.wm_machine.specs.declared.command.Policy.TheVariants as policy
use Rattle.wm_machine.specs.declared.record.Shown.{Shown}
use Rattle.wm_machine.specs.declared.record.Shown.TheVariants as shown
use Rattle.wm_schedule.specs.declared.schedule.BackoffPolicy.{BackoffPolicy}
use Rattle.wm_schedule.specs.declared.schedule.BackoffPolicy.TheVariants.{Linear, Exponential}

abbrev pub merger_name : Merger → List ℕ
merger_name Overwriting = codes "OVERWRITING"
merger_name ArrayCreating = codes "ARRAY"

abbrev pub network_name : Network → List ℕ
network_name network.NotRequired = codes "NOT_REQUIRED"
network_name network.Connected = codes "CONNECTED"
network_name network.Unmetered = codes "UNMETERED"
network_name network.NotRoaming = codes "NOT_ROAMING"
network_name network.Metered = codes "METERED"

abbrev pub backoff_name : BackoffPolicy → List ℕ
backoff_name Linear = codes "LINEAR"
backoff_name Exponential = codes "EXPONENTIAL"

abbrev pub policy_name : Policy → List ℕ
policy_name policy.Keep = codes "KEEP"
policy_name policy.Replace = codes "REPLACE"
policy_name policy.Append = codes "APPEND"
policy_name policy.AppendOrReplace = codes "APPEND_OR_REPLACE"
policy_name policy.CancelAndReenqueue = codes "CANCEL_AND_REENQUEUE"
policy_name policy.Update = codes "UPDATE"

abbrev pub state_name : Shown → List ℕ
state_name shown.Enqueued = codes "ENQUEUED"
state_name shown.Running = codes "RUNNING"
state_name shown.Succeeded = codes "SUCCEEDED"
state_name shown.Failed = codes "FAILED"
state_name shown.Blocked = codes "BLOCKED"
state_name shown.Cancelled = codes "CANCELLED"
