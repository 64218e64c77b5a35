-- The step of an event that changes the records by a clearing: some take the place of others, some are removed, and new ones are placed.
use Rattle.std.proofs.Common.{◌≡◌, ◌≢◌, ℕ, ◌+◌, ◌^◌, ◌<◌, ◌≤◌, pos, Bool, true, false, not, eqb, List, [], ◌∷◌, ◌++◌, filter, length, map, Option, Some, None, IfSome, refl, sym, ◌∙◌, ap, subst, arith, inl}
use Rattle.std.specs.List.{AllByRecursion}
use Rattle.std.proofs.lemmas.Bool.{and_parts, cond_both, eqb-false, false≢true}
use Rattle.std.proofs.lemmas.Int.{ints}
use Rattle.wm_collections.specs.Lists.{AllLater, HasOne, is_among}
use Rattle.wm_commands.proofs.Clearings.{cleared-in_place, cleared-number, clearing-nodes}
use Rattle.wm_commands.proofs.Placings.{apart, later-numbers, with_none}
use Rattle.wm_commands.specs.Cleared.{becomes_cancelled, cancelled_in, cleared, cleared_by, cleared_state, is_run_among, is_touched, pruning, replaced_by_clearing, stays, stopped_by, with_cleared}
use Rattle.wm_commands.specs.Placed.{with_placed}
use Rattle.wm_commands.specs.declared.clearing.Clearing.{Clearing}
use Rattle.wm_keeper.specs.Keeper.{changed_number, AreOfDifferentNumbers}
use Rattle.wm_keeper.specs.declared.row.Change.{Change}
use Rattle.wm_collections.proofs.Lists.{All-any, All-append, All-kept, All-map, All-stored, All-weaker, All-with2, AllLater-filter, AllLater-map, none_pass, one_gives}
use Rattle.wm_machine.proofs.Runnings.{WorksAscend-in_order}
use Rattle.wm_machine.proofs.Stops.{stopped-among, with_stopped-none}
use Rattle.wm_machine.specs.Closed.{closed}
use Rattle.wm_machine.specs.First.{is_succeeded}
use Rattle.wm_machine.specs.Group.{numbers_in, unnamed}
use Rattle.wm_machine.specs.Limits.{FitsRow}
use Rattle.wm_machine.specs.Runs.{with_stopped}
use Rattle.wm_machine.specs.Step.{Legal, after}
use Rattle.wm_machine.specs.Valid.{IsBefore, Valid}
use Rattle.wm_machine.specs.declared.event.Event.{Event}
use Rattle.wm_machine.specs.declared.record.Record.{Record}
use Rattle.wm_machine.specs.declared.state.Instance.{Instance}
use Rattle.wm_machine.specs.declared.state.Run.{Run}
use Rattle.wm_machine.specs.declared.state.State.{State}
use Rattle.wm_machine.specs.declared.record.How.TheVariants as how
use Rattle.wm_steps.proofs.ManyRows.{after_change, replaced-apart, replaced-keep, unsucceeding-freeing}
use Rattle.wm_steps.proofs.Nodes.{HasOne-number}
use Rattle.wm_steps.proofs.Unsucceeding.{Unsucceeding}
use Rattle.wm_changes.specs.Replacements.{at_index, or_same, replacements}
use Rattle.wm_changes.specs.StepChanges.{changed_state, instances_by, next_run_by, placing, put_replaced, put_work, remove_numbered, runs_by, HaveNextNumbers, IsStepOf, NameEarlier}
use Rattle.wm_changes.specs.declared.change.Replacement.{Replacement}
use Rattle.wm_changes.specs.declared.change.RunChange.{RunChange}
use Rattle.wm_changes.specs.declared.change.RunChange.TheVariants.{Stop, Unchanged}

-- ---- what holds of those that are replaced

given-by : (P : Record → Type 0) (change : Record → Option Record) (found : Option Record) (i : ℕ) (works : List Record) → IfSome found P
    → AllByRecursion (λ r. P r.work) (replacements change (i + 1) works) → AllByRecursion (λ r. P r.work) (at_index i found (replacements change (i + 1) works))
given-by P change None i works p later = later
given-by P change (Some new) i works p later = (p, later)

-- what holds of each record that a change gives holds of those that take the place of others
given-each : (P : Record → Type 0) (change : Record → Option Record) (i : ℕ) (works : List Record) → AllByRecursion (λ work. IfSome (change work) P) works
    → AllByRecursion (λ r. P r.work) (replacements change i works)
given-each P change i [] all = tt
given-each P change i (work ∷ works) all = given-by P change (change work) i works all.0 (given-each P change (i + 1) works all.1)

Fits-closed : (at : ℕ) (work : Record) → at < 2 ^ 53 → FitsRow work → FitsRow (closed how.Cancelled at work)
Fits-closed at work below is = record {
  seq = is.seq;
  prior = is.prior;
  generation = is.generation;
  enqueued_at = is.enqueued_at;
  override_at = is.override_at;
  finished_at = below;
}

Fits-unnamed : (work : Record) → FitsRow work → FitsRow (record work { name = None })
Fits-unnamed work is = record {
  seq = is.seq;
  prior = is.prior;
  generation = is.generation;
  enqueued_at = is.enqueued_at;
  override_at = is.override_at;
  finished_at = is.finished_at;
}

-- the row of a record still fits
Fits-cleared : (clearing : Clearing) (work : Record) → clearing.at < 2 ^ 53 → FitsRow work → FitsRow (cleared clearing work)
Fits-cleared clearing work below is =
    let then = cancelled_in clearing.at clearing.cancelled work in
    let fits : FitsRow then =
    cond_both (becomes_cancelled clearing.cancelled work) (closed how.Cancelled clearing.at work) work FitsRow (λ e. Fits-closed clearing.at work below is) (λ e. is) in
    cond_both (is_among clearing.unnamed then.seq) (record then { name = None }) then FitsRow (λ e. Fits-unnamed then fits) (λ e. fits)

-- a record that takes the place of another one fits, stays, and is as early
record IsGiven (clearing : Clearing) (next : ℕ) (work : Record) : Type 0 where
  fits : FitsRow work
  stays : stays clearing.removed work ≡ true
  number : work.seq < next

given-cleared : (clearing : Clearing) (next : ℕ) (work : Record) → clearing.at < 2 ^ 53 → FitsRow work → work.seq < next
    → IfSome (cleared_by clearing work) (IsGiven clearing next)
given-cleared clearing next work moment is below =
    cond_both (is_touched clearing work) (Some (cleared clearing work)) None (λ (o : Option Record). IfSome o (IsGiven clearing next))
    (λ e. let same = cleared-number clearing work in record {
      fits = Fits-cleared clearing work moment is;
      stays = ap (λ number. not (is_among clearing.removed number)) same ∙ (and_parts _ _ e).0;
      number = omega (arith, same, below);
    }) (λ e. tt)

-- it hasn't succeeded where the one before hadn't
unnamed-not : (numbers : List ℕ) (work : Record) → is_succeeded (unnamed numbers work).phase ≡ is_succeeded work.phase
unnamed-not numbers work =
    cond_both (is_among numbers work.seq) (record work { name = None }) work (λ (w : Record). is_succeeded w.phase ≡ is_succeeded work.phase)
    (λ e. refl) (λ e. refl)

cleared-not : (clearing : Clearing) (work : Record) → Unsucceeding work (after_change (cleared_by clearing) work)
cleared-not clearing work =
    let then = cancelled_in clearing.at clearing.cancelled work in
    let cancelled : Unsucceeding work then =
    cond_both (becomes_cancelled clearing.cancelled work) (closed how.Cancelled clearing.at work) work (Unsucceeding work) (λ e is. absurd (false≢true is)) (λ e is. is) in
    cond_both (is_touched clearing work) (Some (cleared clearing work)) None (λ (o : Option Record). Unsucceeding work (or_same work o))
    (λ e is. cancelled (sym (unnamed-not clearing.unnamed then) ∙ is)) (λ e is. is)

-- ---- those that are removed

-- numbers of records that are there, ascending
pub record AreStored (works : List Record) (numbers : List ℕ) : Type 0 where
  pub there : AllByRecursion (λ number. HasOne (λ work. work.seq ≡ number) works) numbers
  pub ascend : AllLater (λ number later. number < later) numbers

-- the numbers of the records that pass a test are such
pub passing-stored : (test : Record → Bool) (works : List Record) → AllLater IsBefore works → AreStored works (numbers_in (filter test works))
passing-stored test works order = record {
  there =
      All-map _ (λ (work : Record). work.seq) (filter test works) (λ work stored. HasOne-number work works stored) (All-kept _ test works (All-stored works));
  ascend = AllLater-map _ (λ (work : Record). work.seq) (filter test works) (λ work later before. before.number) (AllLater-filter _ test works order);
}

-- ---- each number in one change

-- the numbers of the one changes are others than those of the others
abbrev AreApartFrom : List Change → Change → Type 0
AreApartFrom later change = AllByRecursion (λ (other : Change). changed_number change ≢ changed_number other) later

different-append : (xs ys : List Change) → AreOfDifferentNumbers xs → AreOfDifferentNumbers ys → AllByRecursion (AreApartFrom ys) xs
    → AreOfDifferentNumbers (xs ++ ys)
different-append [] ys each every between = every
different-append (x ∷ xs) ys each every between = (All-append _ xs ys each.0 between.0, different-append xs ys each.1 every between.1)

-- numbers that aren't among those removed
apart-removed : (number : ℕ) (removed : List ℕ) → AllByRecursion (λ one. eqb one number ≡ false) removed
    → AllByRecursion (λ (other : Change). pos number ≢ changed_number other) (map remove_numbered removed)
apart-removed number removed none =
    All-map _ remove_numbered removed (λ one differs same.
    let clash : pos number ≡ pos one = same in
    let equal : one ≡ number = omega (arith, ints) in absurd (eqb-false one number differs equal)) none

-- the numbers removed differ
removed-apart : (numbers : List ℕ) → AllLater (λ number later. number < later) numbers → AreOfDifferentNumbers (map remove_numbered numbers)
removed-apart [] ascend = tt
removed-apart (number ∷ numbers) ascend = (
  All-map _ remove_numbered numbers (λ later less same. let clash : pos number ≡ pos later = same in absurd (omega (arith, ints, less))) ascend.0,
  removed-apart numbers ascend.1,
)

not_true_is : (b : Bool) → not b ≡ true → b ≡ false
not_true_is true e = absurd (cc)
not_true_is false e = refl

-- ---- the runs

-- a change of the runs stops those of what is cancelled, and nothing else
pub record StopsAlone (run : RunChange) (clearing : Clearing) (s : State) : Type 0 where
  pub runs : runs_by run s.runs ≡ with_stopped (is_run_among clearing.cancelled) s.runs
  pub instances : instances_by run s.instances ≡ s.instances
  pub next_run : next_run_by run s.next_run ≡ s.next_run

-- so does the one that stops the current ones of these
pub StopsAlone-stopped : (clearing : Clearing) (s : State) → Valid s → StopsAlone (Stop (stopped_by clearing.cancelled s.runs)) clearing s
StopsAlone-stopped clearing s valid =
    record { runs = stopped-among (is_run_among clearing.cancelled) s.runs valid.runs.apart; instances = refl; next_run = refl }

-- and none, where nothing is cancelled
pub StopsAlone-none : (at : ℕ) (removed : List ℕ) (s : State) → StopsAlone Unchanged (pruning at removed) s
StopsAlone-none at removed s = record { runs = sym (with_stopped-none s.runs); instances = refl; next_run = refl }

-- ---- the step

module _ (s : State) (clearing : Clearing) (new : List Record) (e : Event) (valid : Valid s) (moment : clearing.at < 2 ^ 53)
    (removed : AreStored s.works clearing.removed) (numbered : HaveNextNumbers s.next new) where
  abbrev replaced : List Replacement
  replaced = replaced_by_clearing clearing s.works

  given : AllByRecursion (λ r. IsGiven clearing s.next r.work) replaced
  given =
      given-each (IsGiven clearing s.next) (cleared_by clearing) 0 s.works
      (All-with2 s.works (λ work fine below. given-cleared clearing s.next work moment fine.fits below) valid.works.records valid.works.numbers)

  removed-below : AllByRecursion (λ number. number < s.next) clearing.removed
  removed-below =
      All-weaker clearing.removed (λ number there. one_gives s.works (λ work below is. subst (λ n. n < s.next) is below) valid.works.numbers there)
      removed.there

  -- no row is changed twice
  all-apart : AreOfDifferentNumbers ((map put_replaced replaced ++ map remove_numbered clearing.removed) ++ map put_work new)
  all-apart =
      different-append (map put_replaced replaced ++ map remove_numbered clearing.removed) (map put_work new)
      (different-append (map put_replaced replaced) (map remove_numbered clearing.removed)
      (replaced-apart (cleared_by clearing) 0 s.works (clearing-nodes clearing s.works) (WorksAscend-in_order s.works valid.works.in_order))
      (removed-apart clearing.removed removed.ascend) (All-map _ put_replaced replaced (λ r is. apart-removed r.work.seq clearing.removed
      (none_pass (λ one. eqb one r.work.seq) clearing.removed (not_true_is (is_among clearing.removed r.work.seq) is.stays))) given))
      (apart s.next new numbered) (All-append _ (map put_replaced replaced) (map remove_numbered clearing.removed)
      (All-map _ put_replaced replaced (λ r is. later-numbers r.work.seq s.next new is.number numbered) given) (All-map _ remove_numbered clearing.removed
      (λ number below. later-numbers number s.next new below numbered) removed-below))

  -- a legal event that clears the records so and places new ones is made by the change that does it, where this becomes of the runs
  pub clearing-step : (run : RunChange) → StopsAlone run clearing s → NameEarlier s.works new → AllByRecursion FitsRow new → s.next + length new ≤ 2 ^ 53
      → Legal s e → after s e ≡ with_placed (cleared_state clearing s) new → IsStepOf s (placing replaced clearing.removed new run e)
  clearing-step run stops named fit room legal then = record {
    fits = record {
      told = tt;
      replaced = replaced-keep (cleared_by clearing) s.works (clearing-nodes clearing s.works);
      removed = removed.there;
      placed = numbered;
      named = named;
      numbers = room;
      replaced_rows = All-weaker replaced (λ r is. is.fits) given;
      placed_rows = fit;
      apart = all-apart;
      alone = inl refl;
    };
    legal = legal;
    state =
        ap (λ (works : List Record). record s {
          works = works ++ new;
          next = s.next + length new;
          runs = runs_by run s.runs;
          instances = instances_by run s.instances;
          next_run = next_run_by run s.next_run;
        }) (cleared-in_place clearing s.works) ∙ stopped_alone run stops ∙ sym then;
    freeing =
        let made = placing replaced clearing.removed new run e in
        unsucceeding-freeing (cleared_by clearing) s.works (changed_state made s).works made (clearing-nodes clearing s.works)
        (All-any s.works (cleared-not clearing));
  }
    where
      stopped_alone : (run : RunChange) → StopsAlone run clearing s → record s {
        works = with_cleared clearing s.works ++ new;
        next = s.next + length new;
        runs = runs_by run s.runs;
        instances = instances_by run s.instances;
        next_run = next_run_by run s.next_run;
      } ≡ with_placed (cleared_state clearing s) new
      stopped_alone run stops =
          let t = with_placed (cleared_state clearing s) new in
          ap (λ (runs : List Run). record t { runs = runs; instances = instances_by run s.instances; next_run = next_run_by run s.next_run }) stops.runs
          ∙ ap (λ (instances : List Instance). record t { instances = instances; next_run = next_run_by run s.next_run }) stops.instances
          ∙ ap (λ next. record t { next_run = next }) stops.next_run

-- and one that places none
pub clearing_alone-step : (s : State) (clearing : Clearing) (run : RunChange) (e : Event) → Valid s → clearing.at < 2 ^ 53
    → AreStored s.works clearing.removed → StopsAlone run clearing s → Legal s e → after s e ≡ cleared_state clearing s
    → IsStepOf s (placing (replaced_by_clearing clearing s.works) clearing.removed [] run e)
clearing_alone-step s clearing run e valid moment removed stops legal then =
    clearing-step s clearing [] e valid moment removed tt run stops tt tt (omega (arith, valid.works.fits)) legal (then ∙ sym (with_none (cleared_state clearing s)))
