-- Enqueueing a batch of works, under a unique name or none: the reply, and the state after it. What comes of the group of the name is planned
-- first.
-- After the guide's pages "Define work requests", "Chaining work" and "Managing work", where a definition says so; all else, as numbers,
-- limits and the order of the checks, is this project's own choice.
use Rattle.std.specs.Prelude.{ℕ, ◌+◌, ◌^◌, ◌==◌, ◌&&◌, ◌||◌, Bool, true, false, not, find, is_some, List, [], ◌∷◌, ◌++◌, length, map, filter, flat_map, nat_lt, if◌then◌else◌, Option, Some, None, option_map}
use Rattle.std.specs.List.{list_any}
use Rattle.std.specs.Str.{bytes_eq}
use Rattle.wm_collections.specs.Lists.{is_among}
use Rattle.wm_machine.specs.Cancelled.{is_stored}
use Rattle.wm_machine.specs.Closed.{with_works_closed}
use Rattle.wm_machine.specs.Group.{members_of, with_let_go}
use Rattle.wm_machine.specs.Plan as plan
use Rattle.wm_machine.specs.Plan.{mismatch, placed_freely, Placing, Plan, plan_of}
use Rattle.wm_machine.specs.Replied.{Outcome, unchanged}
use Rattle.wm_machine.specs.Updated.{next_moment, update_of}
use Rattle.wm_machine.specs.declared.command.UniqueName.{UniqueName}
use Rattle.wm_machine.specs.declared.record.How.TheVariants as how
use Rattle.wm_machine.specs.declared.record.Phase.{Phase}
use Rattle.wm_machine.specs.declared.record.Phase.TheVariants as phase
use Rattle.wm_machine.specs.declared.record.Record.{Record}
use Rattle.wm_machine.specs.declared.reply.Refusal.{Refusal}
use Rattle.wm_machine.specs.declared.reply.Refusal.TheVariants as refusal
use Rattle.wm_machine.specs.declared.reply.Reply.TheVariants as reply
use Rattle.wm_machine.specs.declared.state.State.{State}
use Rattle.wm_request.specs.Batches.{has_id}
use Rattle.wm_request.specs.Requests.{of_record}
use Rattle.wm_request.specs.declared.request.Node.{Node}

-- ---- the checks, in their order

-- the records and the batch together are too many
abbrev pub too_many_works : State → List Node → Option Refusal
too_many_works s works = if nat_lt 100000 (length s.works + length works) then Some (refusal.TooManyWorks (length s.works)) else None

-- there aren't numbers for the batch
abbrev pub numbers_spent : State → List Node → Option Refusal
numbers_spent s works = if nat_lt (2 ^ 53) (s.next + length works) then Some (refusal.NumbersSpent s.next) else None

-- the first work whose id a record has
abbrev pub id_in_use : State → List Node → Option Refusal
id_in_use s [] = None
id_in_use s (work ∷ works) = if is_stored s.works work.request.id then Some (refusal.IdInUse work.request.id) else id_in_use s works

-- the first of some refusals
abbrev pub first_refusal : List (Option Refusal) → Option Refusal
first_refusal [] = None
first_refusal (Some found ∷ checks) = Some found
first_refusal (None ∷ checks) = first_refusal checks

-- the first id that neither one of these, of earlier works of the batch, nor a stored record has
abbrev pub first_unknown : List Record → List (List ℕ) → List (List ℕ) → Option (List ℕ)
first_unknown works earlier ids = find (λ id. not (is_stored works id || has_id earlier id)) ids

-- the first id that a work names and that neither an earlier work of the batch nor a stored record has
abbrev pub no_such_prerequisite : List Record → List (List ℕ) → List Node → Option Refusal
no_such_prerequisite stored earlier [] = None
no_such_prerequisite stored earlier (work ∷ works) = first_refusal
    (option_map refusal.NoSuchPrerequisite (first_unknown stored earlier work.after)
    ∷ no_such_prerequisite stored (earlier ++ work.request.id ∷ []) works
    ∷ [])

-- whether a stored record with this id is periodic
abbrev pub is_stored_periodic : List Record → List ℕ → Bool
is_stored_periodic works id = list_any (λ work. bytes_eq work.request.id id && is_some work.request.period) works

-- the first id that a work names and that a stored periodic record has
abbrev pub periodic_in_chain : List Record → List Node → Option Refusal
periodic_in_chain stored [] = None
periodic_in_chain stored (work ∷ works) = first_refusal
    (option_map refusal.PeriodicInChain (find (is_stored_periodic stored) work.after)
    ∷ periodic_in_chain stored works
    ∷ [])

-- how many prerequisites a work has that names these, and that comes after works of these numbers where it names none
abbrev pub count_prior : List ℕ → List (List ℕ) → ℕ
count_prior [] ids = length ids
count_prior after [] = length after
count_prior after ids = length ids

-- the first work that would have more than 100 prerequisites
abbrev pub too_many_after : List ℕ → List Node → Option Refusal
too_many_after after [] = None
too_many_after after (work ∷ works) =
    if nat_lt 100 (count_prior after work.after) then Some (refusal.TooManyPrerequisites work.request.id) else too_many_after after works

-- and where each comes after those alone that it names
abbrev pub too_many_prerequisites : List Node → Option Refusal
too_many_prerequisites works = too_many_after [] works

-- the records without those of these numbers
abbrev pub without : List ℕ → List Record → List Record
without [] works = works
without numbers works = filter (λ work. not (is_among numbers work.seq)) works

-- the first check that refuses a batch that is placed so: no work of it can name one that is let go
abbrev pub refusal_of_placing : State → Placing → List Node → Option Refusal
refusal_of_placing s placing works = first_refusal
    (too_many_works s works
    ∷ numbers_spent s works
    ∷ id_in_use s works
    ∷ no_such_prerequisite (without placing.let_go s.works) [] works
    ∷ periodic_in_chain s.works works
    ∷ too_many_after placing.after works
    ∷ [])

-- The first check that refuses a batch under a unique name, by what the policy comes to and the id whose kind mismatches, if any. A batch that is
-- kept isn't refused, and of one that updates a member only the kinds are looked at.
abbrev pub refusal_by : Plan → Option (List ℕ) → State → List Node → Option Refusal
refusal_by plan.Keeps mismatched s works = None
refusal_by (plan.Updates member) mismatched s works = option_map refusal.KindMismatch mismatched
refusal_by (plan.Places placing) mismatched s works =
    first_refusal (option_map refusal.KindMismatch mismatched ∷ refusal_of_placing s placing works ∷ [])

-- what the policy of a unique name comes to in a state
abbrev pub plan_in : State → UniqueName → Plan
plan_in s unique = plan_of unique.policy (members_of s.works unique.name)

-- the first check that refuses a batch
abbrev pub refusal_of : State → Option UniqueName → List Node → Option Refusal
refusal_of s None works = refusal_of_placing s placed_freely works
refusal_of s (Some unique) works = refusal_by (plan_in s unique) (mismatch unique.policy (members_of s.works unique.name) works) s works

-- ---- the placing of a work

-- the numbers of the records with these ids, in the order of the ids
abbrev pub numbers_of : List Record → List (List ℕ) → List ℕ
numbers_of works ids = flat_map (λ id. map (λ work. work.seq) (filter (λ work. bytes_eq work.request.id id) works)) ids

abbrev pub is_failed : Phase → Bool
is_failed (phase.Done how.Failed) = true
is_failed _ = false

abbrev pub is_cancelled : Phase → Bool
is_cancelled (phase.Done how.Cancelled) = true
is_cancelled _ = false

-- whether a record of one of these numbers is in such a phase
abbrev pub any_in : (Phase → Bool) → List Record → List ℕ → Bool
any_in test works numbers = list_any (λ number. list_any (λ work. work.seq == number && test work.phase) works) numbers

-- The phase of new work with these prerequisites: it shares the failure, or else the cancelling, of one of them. After the guide's
-- page "Chaining work"; the order of the two is our own.
abbrev pub first_phase : List Record → List ℕ → Phase
first_phase works prior =
    if any_in is_failed works prior then phase.Done how.Failed
    else if any_in is_cancelled works prior then phase.Done how.Cancelled
    else phase.Waiting

-- the moment at which new work in this phase has finished: it is now, where it shares what one of them came to, and else 0
abbrev pub first_finished_at : Phase → ℕ → ℕ
first_finished_at (phase.Done how) now = now
first_finished_at _ now = 0

-- the numbers of the prerequisites of a work that names these, and that comes after works of these numbers where it names none
abbrev pub prior_of : List Record → List ℕ → List (List ℕ) → List ℕ
prior_of works [] ids = numbers_of works ids
prior_of works after [] = after
prior_of works after ids = numbers_of works ids

-- The record of a new work with these prerequisites, which hasn't been started. After the guide's page "Work states"; its number and its
-- moment are our own.
abbrev pub new_record : State → Option (List ℕ) → List ℕ → Node → Record
new_record s name prior node = record {
  seq = s.next;
  name = name;
  request = of_record node.request.id node.request.keep node.request;
  prior = prior;
  phase = first_phase s.works prior;
  attempt = 0;
  backoff_n = 0;
  runs = 0;
  generation = 0;
  enqueued_at = s.now;
  override_at = next_moment node.request.next None;
  finished_at = first_finished_at (first_phase s.works prior) s.now;
  output = [];
  progress = [];
}

-- and of one that comes after those alone that it names
abbrev pub placed_record : State → Option (List ℕ) → Node → Record
placed_record s name node = new_record s name (prior_of s.works [] node.after) node

-- one work more, under the next number
abbrev pub with_work : State → Record → State
with_work s work = record s { works = s.works ++ work ∷ []; next = s.next + 1 }

-- the works are placed one after another, each that names no other after works of these numbers
abbrev pub placed_after : State → Option (List ℕ) → List ℕ → List Node → State
placed_after s name after [] = s
placed_after s name after (node ∷ nodes) =
    placed_after (with_work s (new_record s name (prior_of s.works after node.after) node)) name after nodes

-- and after those alone that it names
abbrev pub placed : State → Option (List ℕ) → List Node → State
placed s name nodes = placed_after s name [] nodes

-- the numbers of the new works
abbrev pub new_numbers : ℕ → List Node → List ℕ
new_numbers next [] = []
new_numbers next (node ∷ nodes) = next ∷ new_numbers (next + 1) nodes

-- ---- the outcome

-- the batch is placed in a state
abbrev pub placing_in : State → Option (List ℕ) → List ℕ → List Node → Outcome
placing_in s name after works = record { reply = reply.Enqueued (new_numbers s.next works); state = placed_after s name after works }

-- the state once works are cancelled, one after another, and others are let go
abbrev pub made_ready : State → Placing → State
made_ready s placing =
    let cancelled = with_works_closed how.Cancelled placing.cancel s in
    record cancelled { works = with_let_go placing.let_go cancelled.works }

-- a member is updated by the first work of a batch, which isn't empty
abbrev pub updated_by : State → Record → List Node → Outcome
updated_by s member [] = unchanged s (reply.Enqueued [])
updated_by s member (work ∷ works) = update_of s work.request member

-- what a plan makes of a batch that isn't refused
abbrev pub carried_out : Plan → State → List ℕ → List Node → Outcome
carried_out plan.Keeps s name works = unchanged s reply.Kept
carried_out (plan.Updates member) s name works = updated_by s member works
carried_out (plan.Places placing) s name works = placing_in (made_ready s placing) (Some name) placing.after works

abbrev pub outcome_by : Option Refusal → State → Option UniqueName → List Node → Outcome
outcome_by (Some found) s named works = unchanged s (reply.Refused found)
outcome_by None s None works = placing_in s None [] works
outcome_by None s (Some unique) works = carried_out (plan_in s unique) s unique.name works

-- the first check that holds gives the reply; where none does the batch is placed, or a member is updated
abbrev pub enqueued : State → Option UniqueName → List Node → Outcome
enqueued s named works = outcome_by (refusal_of s named works) s named works
