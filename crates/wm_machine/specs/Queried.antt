-- The query for works, and its outcome. After the guide's page "Managing work", "Complex work queries".
use Rattle.std.specs.Prelude.{ℕ, ◌&&◌, Bool, true, false, List, [], ◌∷◌, filter}
use Rattle.std.specs.List.{list_any}
use Rattle.std.specs.Str.{bytes_eq}
use Rattle.wm_machine.specs.Group.{is_name}
use Rattle.wm_machine.specs.Shown.{infos_of}
use Rattle.wm_machine.specs.declared.record.Shown.{Shown}
use Rattle.wm_machine.specs.declared.record.Shown.TheVariants as shown
use Rattle.wm_machine.specs.declared.reply.WorkInfo.{WorkInfo}
use Rattle.wm_machine.specs.declared.state.State.{State}
use Rattle.wm_machine.specs.declared.state.WorkQuery.{WorkQuery}

-- whether one of a group passes, or the group is empty
abbrev pub any_or_empty : {T : Type 0} → (T → Bool) → List T → Bool
any_or_empty test [] = true
any_or_empty test (x ∷ xs) = list_any test (x ∷ xs)

-- whether a tag is one of these
abbrev pub has_tag : List (List ℕ) → List ℕ → Bool
has_tag tags tag = list_any (λ own. bytes_eq own tag) tags

abbrev pub is_state : Shown → Shown → Bool
is_state shown.Enqueued shown.Enqueued = true
is_state shown.Running shown.Running = true
is_state shown.Succeeded shown.Succeeded = true
is_state shown.Failed shown.Failed = true
is_state shown.Blocked shown.Blocked = true
is_state shown.Cancelled shown.Cancelled = true
is_state _ _ = false

-- whether a work has one of each group that a query names
unfoldable pub matches : WorkQuery → WorkInfo → Bool
matches query info =
    any_or_empty (λ id. bytes_eq info.id id) query.ids
    && any_or_empty (λ name. is_name name info.name) query.names
    && any_or_empty (is_state info.state) query.states
    && any_or_empty (has_tag info.tags) query.tags

-- what is told of the works that match, in ascending number
abbrev pub answer_to : State → WorkQuery → List WorkInfo
answer_to s query = filter (matches query) (infos_of s)
