-- What is planned and checked of an enqueue by the numbers of works: those of a group, and those that a batch names.
use Rattle.std.specs.Prelude.{◌≡◌, ◌||◌, ℕ, Bool, true, false, List, [], ◌∷◌, filter, Option, Some, None}
use Rattle.std.specs.BTreeSet.{contains, BTreeSet}
use Rattle.std.specs.List.{flat_map, list_any}
use Rattle.std.specs.Ordering.{nat_cmp}
use Rattle.std.specs.Str.{bytes_eq}
use Rattle.wm_collections.specs.Lists.{is_among}
use Rattle.wm_machine.specs.Group.{numbers_in}
use Rattle.wm_machine.specs.Input.{work_numbered}
use Rattle.wm_machine.specs.Plan as plan
use Rattle.wm_machine.specs.Plan.{mismatch, Placing, Plan, plan_of}
use Rattle.wm_machine.specs.declared.command.Policy.{Policy}
use Rattle.wm_machine.specs.declared.record.Record.{Record}
use Rattle.wm_request.specs.Batches.{has_id}
use Rattle.wm_request.specs.declared.request.Node.{Node}
use Rattle.wm_unique.specs.declared.plans.GroupPlan.{GroupPlan}
use Rattle.wm_unique.specs.declared.plans.PlanFault.{PlanFault}
use Rattle.wm_unique.specs.declared.plans.PlanFault.TheVariants as fault

-- ---- works by their numbers

-- the works of these numbers
abbrev pub grouped : List Record → List ℕ → List Record
grouped works numbers = filter (λ work. is_among numbers work.seq) works

-- they are the numbers of some of the works, ascending
abbrev pub AreNumbersOf : List Record → List ℕ → Type 0
AreNumbersOf works numbers = numbers ≡ numbers_in (grouped works numbers)

-- whether what was found passes a test
abbrev pub passes : (Record → Bool) → Option Record → Bool
passes test None = false
passes test (Some work) = test work

-- whether the work of a number passes a test
abbrev pub numbered_passes : (Record → Bool) → List Record → ℕ → Bool
numbered_passes test works number = passes test (work_numbered number works)

-- whether a work is a prerequisite of one of these, by its number
abbrev pub is_prior_number : List Record → ℕ → Bool
is_prior_number members number = list_any (λ member. is_among member.prior number) members

-- the numbers of a set are those of the prerequisites of these works
abbrev pub ArePriorTo : List Record → BTreeSet ℕ → Type 0
ArePriorTo members prior = (number : ℕ) → contains nat_cmp prior number ≡ is_prior_number members number

-- ---- plans

-- the work of this number is updated
abbrev pub update_fields : ℕ → GroupPlan
update_fields number = record { kept = false; update = Some number; cancel = []; let_go = []; after = [] }

-- a plan by the numbers of works
abbrev pub plan_fields : Plan → GroupPlan
plan_fields plan.Keeps = record { kept = true; update = None; cancel = []; let_go = []; after = [] }
plan_fields (plan.Updates member) = update_fields member.seq
plan_fields (plan.Places placing) =
    record { kept = false; update = None; cancel = placing.cancel; let_go = placing.let_go; after = placing.after }

-- how a batch is placed by it
abbrev pub placing_by : GroupPlan → Placing
placing_by plan = record { cancel = plan.cancel; let_go = plan.let_go; after = plan.after }

-- the id whose kind a policy can't take; none is looked for where the members are kept as they are
abbrev pub refused_kind : Plan → Option (List ℕ) → Option (List ℕ)
refused_kind plan.Keeps mismatched = None
refused_kind (plan.Updates member) mismatched = mismatched
refused_kind (plan.Places placing) mismatched = mismatched

-- the same, by the members and the works of a batch
abbrev pub kind_refused : Policy → List Record → List Node → Option (List ℕ)
kind_refused policy members works = refused_kind (plan_of policy members) (mismatch policy members works)

-- a fault is that an id's kind is refused, or want of memory
abbrev pub IsPlanFault : Option (List ℕ) → PlanFault → Type 0
IsPlanFault refused (fault.KindMismatch id) = refused ≡ Some id
IsPlanFault refused fault.Memory = Unit {0}

-- ---- what a batch names

-- the ids of the works of a batch, each with those that it comes after
abbrev pub ids_named : List Node → List (List ℕ)
ids_named works = flat_map (λ node. node.request.id ∷ node.after) works

-- whether a work of a batch has this id or comes after it
abbrev pub names_id : List Node → List ℕ → Bool
names_id works id = list_any (λ node. bytes_eq node.request.id id || has_id node.after id) works

-- whether a batch names a record, by the id of a work or of one that a work comes after
abbrev pub is_named_by : List Node → Record → Bool
is_named_by works stored = names_id works stored.request.id
