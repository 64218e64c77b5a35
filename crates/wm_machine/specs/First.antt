-- Which work starts next. After the guide's pages "Work states" and "Define work requests", where a work has to be due, unblocked and
-- constrained by nothing; that a class has instances, and the order of starts, are this project's own choice.
use Rattle.std.specs.Prelude.{ℕ, ◌==◌, ◌&&◌, ◌||◌, Bool, true, false, not, List, [], ◌∷◌, filter, find, nat_lt, nat_le, if◌then◌else◌, Option, Some, None, is_some}
use Rattle.std.specs.List.{list_any, list_all}
use Rattle.std.specs.Str.{bytes_eq}
use Rattle.wm_conditions.specs.Met.{met}
use Rattle.wm_machine.specs.Due.{due_of}
use Rattle.wm_machine.specs.declared.record.How.TheVariants as how
use Rattle.wm_machine.specs.declared.record.Phase.{Phase}
use Rattle.wm_machine.specs.declared.record.Phase.TheVariants as phase
use Rattle.wm_machine.specs.declared.record.Record.{Record}
use Rattle.wm_machine.specs.declared.state.Instance.{Instance}
use Rattle.wm_machine.specs.declared.state.State.{State}

abbrev pub is_waiting : Phase → Bool
is_waiting phase.Waiting = true
is_waiting _ = false

abbrev pub is_succeeded : Phase → Bool
is_succeeded (phase.Done how.Succeeded) = true
is_succeeded _ = false

-- whether the record of this number has succeeded
abbrev pub has_succeeded : List Record → ℕ → Bool
has_succeeded works number = list_any (λ work. work.seq == number && is_succeeded work.phase) works

-- whether every prerequisite of a work has succeeded
unfoldable pub all_met : List Record → Record → Bool
all_met works work = list_all (has_succeeded works) work.prior

-- whether some instance of the class isn't retired
unfoldable pub is_live : List Instance → List ℕ → Bool
is_live instances class = list_any (λ instance. bytes_eq instance.class class && not instance.retired) instances

-- whether an instance of the class is neither out nor retired
abbrev pub is_idle : List ℕ → Instance → Bool
is_idle class instance = bytes_eq instance.class class && (not instance.out && not instance.retired)

-- the idle instance of a class with the least number: instances stand in the order of their numbers
unfoldable pub idle_instance : List Instance → List ℕ → Option Instance
idle_instance instances class = find (is_idle class) instances

-- whether a class has an idle instance, or no worker at all, so that its works needn't wait for one
abbrev pub has_room : List Instance → List ℕ → Bool
has_room instances class = is_some (idle_instance instances class) || not (is_live instances class)

unfoldable pub is_startable : State → Record → Bool
is_startable s work =
    is_waiting work.phase
    && (all_met s.works work
    && (nat_le (due_of work) s.now
    && (met work.request.constraints s.conditions && has_room s.instances work.request.class)))

-- of two works the first to start: the one that is due earlier, and of two that are due together the one with the smaller number
abbrev pub comes_before : Record → Record → Bool
comes_before one other = nat_lt (due_of one) (due_of other) || (due_of one == due_of other && nat_lt one.seq other.seq)

abbrev pub earlier_of : Record → Option Record → Record
earlier_of work None = work
earlier_of work (Some other) = if comes_before other work then other else work

-- the work that comes before all others
abbrev pub least : List Record → Option Record
least [] = None
least (work ∷ works) = Some (earlier_of work (least works))

-- the startable work that starts next, if there is one
unfoldable pub first_of : State → Option Record
first_of s = least (filter (is_startable s) s.works)
