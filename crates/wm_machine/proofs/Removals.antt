-- What holds of a state from which finished records that no unfinished one needs are removed.
use Rattle.std.proofs.Common.{◌≡◌, ◌&&◌, ◌||◌, ℕ, Bool, true, false, not, eqb, List, filter, refl, sym, ◌∙◌, ap, arith}
use Rattle.std.specs.List.{AllByRecursion}
use Rattle.std.proofs.lemmas.Bool.{and_from, and_parts, eq-eqb, false≢true, false_from_ne_true, not-true, not_from_false}
use Rattle.wm_collections.proofs.Lists.{All-filter, All-stored, All-weaker, All-with2, AllLater-filter, HasOne-filter, filter-few, list_any-stored}
use Rattle.wm_machine.proofs.Runnings.{AreRuns-beside}
use Rattle.wm_machine.specs.Closed.{is_open}
use Rattle.wm_machine.specs.Pruned.{is_kept_enough, is_needed, prunable, removable}
use Rattle.wm_collections.specs.Lists.{HasOne, is_among}
use Rattle.wm_machine.specs.Valid.{Valid, ArePriorSound, HasSucceeded, IsPrerequisite, IsWorkOf}
use Rattle.wm_machine.specs.declared.record.How.TheVariants as how
use Rattle.wm_machine.specs.Types.{Phase, Record, Run, State}
use Rattle.wm_machine.specs.declared.record.Phase.TheVariants as phase

-- the records but for those that are gone
abbrev pub without_gone : (Record → Bool) → List Record → List Record
without_gone gone works = filter (λ work. not (gone work)) works

-- only removable records are gone
abbrev pub AreRemovable : (Record → Bool) → List Record → Type 0
AreRemovable gone works = AllByRecursion (λ work. gone work ≡ true → removable works work ≡ true) works

-- what holds of all records holds of those that stay
stay_all : (P : Record → Type 0) (gone : Record → Bool) (works : List Record) → AllByRecursion P works → AllByRecursion P (without_gone gone works)
stay_all P gone works all = All-filter (λ work. not (gone work)) works (λ work stays is. is) all

-- ---- what is needed

-- each prerequisite of an unfinished record is
pub needed_prior : (works : List Record) (work : Record) → HasOne (λ other. other ≡ work) works → is_open work.phase ≡ true
    → AllByRecursion (λ number. is_needed works number ≡ true) work.prior
unfolding is_needed
needed_prior works work stored unfinished =
    All-weaker work.prior (λ number among. list_any-stored (λ other. is_open other.phase && is_among other.prior number) works work stored
    (and_from _ _ unfinished (list_any-stored (λ one. eqb one number) work.prior number among (eq-eqb number number refl)))) (All-stored work.prior)

-- what is removable is finished, and isn't needed
pub removable_parts : (works : List Record) (work : Record) → removable works work ≡ true → (is_open work.phase ≡ false) × (is_needed works work.seq ≡ false)
unfolding removable
removable_parts works work is =
    let parts = and_parts (not (is_open work.phase)) (not (is_needed works work.seq)) is in
    (not-true (is_open work.phase) parts.0, not-true (is_needed works work.seq) parts.1)

-- what a prune removes is removable
pub prunable_removable : (s : State) (force : Bool) (work : Record) → prunable s force work ≡ true → removable s.works work ≡ true
unfolding prunable
prunable_removable s force work is = (and_parts (removable s.works work) (force || is_kept_enough s.now work) is).0

-- ---- what stays

module _ (gone : Record → Bool) (works : List Record) (may : AreRemovable gone works) where
  -- what isn't removable stays
  one_stays : (P : Record → Type 0) → ((work : Record) → P work → removable works work ≡ true → ⊥) → HasOne P works → HasOne P (without_gone gone works)
  one_stays P holds one =
      HasOne-filter (λ work. not (gone work)) works
      (λ work removes is. not_from_false (gone work) (false_from_ne_true (gone work) (λ e. holds work is (removes e)))) may one

  -- as a prerequisite of an unfinished record
  prerequisite_stays : (number : ℕ) → is_needed works number ≡ true → HasOne (IsPrerequisite number) works
      → HasOne (IsPrerequisite number) (without_gone gone works)
  prerequisite_stays number needed =
      one_stays (IsPrerequisite number) (λ work is removes. false≢true (sym (removable_parts works work removes).1 ∙ ap (is_needed works) is.seq ∙ needed))

  success_stays : (number : ℕ) → is_needed works number ≡ true → HasOne (HasSucceeded number) works → HasOne (HasSucceeded number) (without_gone gone works)
  success_stays number needed =
      one_stays (HasSucceeded number) (λ work is removes. false≢true (sym (removable_parts works work removes).1 ∙ ap (is_needed works) is.seq ∙ needed))

  -- and as the work of a run
  work_stays : (run : Run) → HasOne (IsWorkOf run) works → HasOne (IsWorkOf run) (without_gone gone works)
  work_stays run = one_stays (IsWorkOf run) (λ work is removes. false≢true (sym (removable_parts works work removes).0 ∙ ap is_open is.running))

  -- the prerequisites of a record that is there are as sound as before
  sound_then : (p : Phase) (prior : List ℕ) → (is_open p ≡ true → AllByRecursion (λ number. is_needed works number ≡ true) prior)
      → ArePriorSound works p prior → ArePriorSound (without_gone gone works) p prior
  sound_then phase.Waiting prior needed sound = All-with2 prior (λ number needs one. prerequisite_stays number needs one) (needed refl) sound
  sound_then phase.Running prior needed sound =
      All-with2 prior (λ number needs both. (prerequisite_stays number needs both.0, success_stays number needs both.1)) (needed refl) sound
  sound_then (phase.Done how.Succeeded) prior needed sound = All-weaker prior (λ number all. stay_all _ gone works all) sound
  sound_then (phase.Done how.Failed) prior needed sound = tt
  sound_then (phase.Done how.Cancelled) prior needed sound = tt

-- ---- the state

-- where removable records are removed, all that holds of the states that are valid still does
pub reached-removed : (s : State) (gone : Record → Bool) → Valid s → AreRemovable gone s.works → Valid (record s { works = without_gone gone s.works })
reached-removed s gone valid may =
    let works = s.works in
    let left = without_gone gone works in
    record {
      works = record {
        first = valid.works.first;
        fits = valid.works.fits;
        numbers = stay_all _ gone works valid.works.numbers;
        few = let few = valid.works.few in omega (arith, filter-few (λ work. not (gone work)) works, few);
        records = stay_all _ gone works valid.works.records;
        in_order = AllLater-filter _ (λ work. not (gone work)) works valid.works.in_order;
        sound = stay_all _ gone works
            (All-with2 works (λ work there sound. sound_then gone works may work.phase work.prior (needed_prior works work there) sound) (All-stored works)
            valid.works.sound);
      };
      runs = AreRuns-beside s left valid (stay_all _ gone works valid.runs.running) (work_stays gone works may);
      instances = valid.instances;
      few_observers = valid.few_observers;
      now = valid.now;
    }
