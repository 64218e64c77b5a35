-- What the failure or the cancelling of a work reaches. After the guide's page "Chaining work".
use Rattle.std.specs.Prelude.{◌≡◌, ◌⊎◌, ◌↔◌, ℕ, ◌==◌, ◌&&◌, ◌||◌, Bool, true, false, List, [], ◌∷◌, map, reverse, if◌then◌else◌}
use Rattle.std.specs.List.{list_any}
use Rattle.wm_collections.specs.Lists.{HasOne, is_among}
use Rattle.wm_machine.specs.Runs.{with_stopped}
use Rattle.wm_machine.specs.declared.record.How.{How}
use Rattle.wm_machine.specs.declared.record.Phase.{Phase}
use Rattle.wm_machine.specs.declared.record.Phase.TheVariants as phase
use Rattle.wm_machine.specs.declared.record.Record.{Record}
use Rattle.wm_machine.specs.declared.state.Run.{Run}
use Rattle.wm_machine.specs.declared.state.State.{State}

-- The numbers of the descendants of a work among these records, which stand in descending number: the work itself, and each record that
-- has a descendant as a prerequisite. Prerequisites have smaller numbers.
abbrev pub descendants : ℕ → List Record → List ℕ
descendants seq [] = []
descendants seq (work ∷ earlier) =
    if work.seq == seq || list_any (is_among (descendants seq earlier)) work.prior then work.seq ∷ descendants seq earlier
    else descendants seq earlier

-- the record of this number is a descendant of a work, among records in ascending number
abbrev pub IsDescendant : ℕ → List Record → ℕ → Type 0
IsDescendant seq works number = is_among (descendants seq (reverse works)) number ≡ true

-- a record is a descendant exactly where it is the work itself, or has a descendant as a prerequisite
abbrev pub IsDescendantWhere : ℕ → List Record → Record → Type 0
IsDescendantWhere seq works work =
    IsDescendant seq works work.seq ↔ ((work.seq ≡ seq) ⊎ HasOne (IsDescendant seq works) work.prior)

abbrev pub is_open : Phase → Bool
is_open (phase.Done how) = false
is_open _ = true

-- whether a record is an unfinished descendant of a work
unfoldable pub is_reached : ℕ → List Record → Record → Bool
is_reached seq works work = is_open work.phase && is_among (descendants seq (reverse works)) work.seq

-- a work that is finished at this moment without having given anything
abbrev pub closed : How → ℕ → Record → Record
closed how now work = record work { phase = phase.Done how; finished_at = now; progress = [] }

-- the records, with each unfinished descendant of a work finished in this way at this moment
abbrev pub with_closed : How → ℕ → ℕ → List Record → List Record
with_closed how now seq works = map (λ work. if is_reached seq works work then closed how now work else work) works

-- ---- a state

-- whether a run is of a record that is reached
abbrev pub is_run_reached : ℕ → List Record → Run → Bool
is_run_reached seq works run = list_any (λ work. work.seq == run.seq && is_reached seq works work) works

-- The state, with each unfinished descendant of a work finished in this way now: no run of such a record is current any more.
abbrev pub with_work_closed : How → ℕ → State → State
with_work_closed how seq s = record s { works = with_closed how s.now seq s.works; runs = with_stopped (is_run_reached seq s.works) s.runs }

-- the state, with these works closed one after another
abbrev pub with_works_closed : How → List ℕ → State → State
with_works_closed how [] s = s
with_works_closed how (seq ∷ seqs) s = with_works_closed how seqs (with_work_closed how seq s)
