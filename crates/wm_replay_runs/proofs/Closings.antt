-- The descendants of a work by one pass, and works that are meant by their numbers.
use Rattle.std.proofs.Common.{◌≡◌, ℕ, ◌+◌, ◌<◌, ◌&&◌, ◌||◌, Bool, true, false, cond, eqb, List, [], ◌∷◌, ◌++◌, filter, get_or, length, map, reverse, take, Option, Some, None, refl, sym, ◌∙◌, ap, subst}
use Rattle.std.specs.List.{list_any}
use Rattle.std.specs.Option.{option_and_then}
use Rattle.std.proofs.lemmas.Bool.{cond_both, eqb-true}
use Rattle.std.proofs.lemmas.List.{reverse-append, take_more}
use Rattle.std.proofs.lemmas.Option.{none-some}
use Rattle.wm_collections.specs.Lists.{AllLater, HasOne, is_among}
use Rattle.wm_collections.proofs.Lists.{All-any, All-weaker, AllLater-map, filter-same, find-passes, find-stored, HasOne-weaker, list_any-agree, list_any-kept, list_any-reverse, list_any_after, map-same}
use Rattle.wm_machine.proofs.Runnings.{all_of_number, changed, changed-same, changed_both, IsBefore-same, IsSameWork, WorksAscend-in_order}
use Rattle.wm_machine.specs.Closed.{closed, descendants, is_open, is_reached, is_run_reached, with_closed}
use Rattle.wm_machine.specs.Ends.{ended, enqueued_again, not_started, period_of, succeeded}
use Rattle.wm_machine.specs.Group.{numbers_in}
use Rattle.wm_machine.specs.Input.{work_numbered}
use Rattle.wm_machine.specs.Runs.{changed_work, stopped, with_stopped}
use Rattle.wm_data.specs.declared.data.DataEntry.{DataEntry}
use Rattle.wm_schedule.specs.declared.schedule.Period.{Period}
use Rattle.wm_machine.specs.declared.record.Record.{Record}
use Rattle.wm_machine.specs.Valid.{IsBefore}
use Rattle.wm_machine.specs.declared.event.End.{End}
use Rattle.wm_machine.specs.declared.event.End.TheVariants.{Success, Failure, Retry}
use Rattle.wm_machine.specs.declared.record.How.{How}
use Rattle.wm_machine.specs.declared.state.Run.{Run}
use Rattle.wm_replay_runs.specs.Ending.{IsFinal}
use Rattle.wm_unique.proofs.Numbered.{among_filter}

-- ---- descendants

-- numbers backwards have the same numbers among them
among-reverse : (numbers : List ℕ) (number : ℕ) → is_among (reverse numbers) number ≡ is_among numbers number
among-reverse numbers number = list_any-reverse (λ one. eqb one number) numbers

any-reverse : (numbers prior : List ℕ) → list_any (is_among (reverse numbers)) prior ≡ list_any (is_among numbers) prior
any-reverse numbers prior = list_any-agree _ _ prior (All-any prior (among-reverse numbers))

reverse-cond : (b : Bool) (number : ℕ) (numbers : List ℕ)
    → cond b (reverse numbers ++ number ∷ []) (reverse numbers) ≡ reverse (cond b (number ∷ numbers) numbers)
reverse-cond true number numbers = sym (reverse-append (number ∷ []) numbers)
reverse-cond false number numbers = refl

-- the descendants among one record more
pub descendants-more : (seq : ℕ) (works : List Record) (i : ℕ) (work : Record) (numbers : List ℕ) → i < length works → work ≡ get_or works i work
    → numbers ≡ reverse (descendants seq (reverse (take i works)))
    → cond (eqb work.seq seq || list_any (is_among numbers) work.prior) (numbers ++ work.seq ∷ []) numbers
    ≡ reverse (descendants seq (reverse (take (i + 1) works)))
descendants-more seq works i work numbers within is so_far =
    let before = descendants seq (reverse (take i works)) in
    let more : take (i + 1) works ≡ take i works ++ work ∷ [] = take_more works i work within ∙ ap (λ w. take i works ++ w ∷ []) (sym is) in
    let first : reverse (take (i + 1) works) ≡ work ∷ reverse (take i works) = ap reverse more ∙ reverse-append (take i works) (work ∷ []) in
    let joined : list_any (is_among numbers) work.prior ≡ list_any (is_among before) work.prior =
    ap (λ ns. list_any (is_among ns) work.prior) so_far ∙ any-reverse before work.prior in
    ap (λ b. cond (eqb work.seq seq || b) (numbers ++ work.seq ∷ []) numbers) joined
    ∙ ap (λ ns. cond (eqb work.seq seq || list_any (is_among before) work.prior) (ns ++ work.seq ∷ []) ns) so_far
    ∙ reverse-cond (eqb work.seq seq || list_any (is_among before) work.prior) work.seq before
    ∙ ap (λ ws. reverse (descendants seq ws)) (sym first)

-- the unfinished ones among them are those that are reached
pub reached-open : (seq : ℕ) (works : List Record)
    → filter (λ work. is_open work.phase && is_among (reverse (descendants seq (reverse works))) work.seq) works ≡ filter (is_reached seq works) works
unfolding is_reached
reached-open seq works =
    filter-same _ _ works (All-any works (λ (work : Record). ap (λ b. is_open work.phase && b) (among-reverse (descendants seq (reverse works)) work.seq)))

-- ---- works that are meant by their numbers

pub meant-by_numbers : (test : Record → Bool) (change : Record → Record) (works : List Record) (numbers : List ℕ) → AllLater IsBefore works
    → numbers ≡ numbers_in (filter test works)
    → map (λ work. cond (is_among numbers work.seq) (change work) work) works ≡ map (λ work. cond (test work) (change work) work) works
meant-by_numbers test change works numbers in_order are =
    ap (λ (ns : List ℕ). map (λ (work : Record). cond (is_among ns work.seq) (change work) work) works) are
    ∙ map-same _ _ works (All-weaker works (λ (work : Record) is. ap (λ b. cond b (change work) work) is)
    (among_filter test works (WorksAscend-in_order works in_order)))

-- ---- the work of a number

-- two changes make the same of the work of a number where they do of the one that is found
pub changed-found : (change other : Record → Record) (seq : ℕ) (works : List Record) (work : Record) → AllLater IsBefore works
    → work_numbered seq works ≡ Some work → change work ≡ other work → changed_work change seq works ≡ changed_work other seq works
changed-found change other seq works work in_order found same =
    let has : work.seq ≡ seq = eqb-true work.seq seq (find-passes (λ (w : Record). eqb w.seq seq) works work found) in
    let one : HasOne (λ w. (w.seq ≡ seq) × (change w ≡ other w)) works =
    HasOne-weaker works (λ w is. (ap (λ (r : Record). r.seq) is ∙ has, subst (λ r. change r ≡ other r) (sym is) same))
    (find-stored (λ (w : Record). eqb w.seq seq) works work found) in
    map-same (changed change seq) (changed other seq) works
    (All-weaker works (λ w agree. changed-same change other seq w agree) (all_of_number (λ w. change w ≡ other w) seq works in_order one))

-- periodic work that couldn't start, or whose run ended for good, is enqueued again
not_started-periodic : (now : ℕ) (period : Period) (work : Record) → work.request.period ≡ Some period
    → not_started now work ≡ enqueued_again false now work
not_started-periodic now period work is = rw is refl

ended-periodic : (renewed : Bool) (now : ℕ) (end : End) (period : Period) (work : Record) → IsFinal end → work.request.period ≡ Some period
    → ended renewed now end work ≡ enqueued_again renewed now work
ended-periodic renewed now (Success output) period work final is = rw is refl
ended-periodic renewed now (Failure output) period work final is = rw is refl
ended-periodic renewed now Retry period work final is = absurd final

-- two changes make the same of the work of a number where they do of each work of its period
again-found : (change other : Record → Record) (seq : ℕ) (period : Period) (works : List Record) (found : Option Record) → AllLater IsBefore works
    → ((work : Record) → work.request.period ≡ Some period → change work ≡ other work) → work_numbered seq works ≡ found
    → option_and_then (λ (work : Record). work.request.period) found ≡ Some period → changed_work change seq works ≡ changed_work other seq works
again-found change other seq period works None in_order same is periodic = absurd (none-some period periodic)
again-found change other seq period works (Some work) in_order same is periodic =
    changed-found change other seq works work in_order is (same work periodic)

-- periodic work that couldn't start is enqueued again
pub put_off-periodic : (now seq : ℕ) (period : Period) (works : List Record) → AllLater IsBefore works → period_of seq works ≡ Some period
    → changed_work (not_started now) seq works ≡ changed_work (enqueued_again false now) seq works
put_off-periodic now seq period works in_order periodic =
    again-found (not_started now) (enqueued_again false now) seq period works (work_numbered seq works) in_order (not_started-periodic now period) refl
    periodic

-- and periodic work whose run has succeeded or failed
pub again-periodic : (renewed : Bool) (now : ℕ) (end : End) (seq : ℕ) (period : Period) (works : List Record) → AllLater IsBefore works
    → period_of seq works ≡ Some period → IsFinal end
    → changed_work (ended renewed now end) seq works ≡ changed_work (enqueued_again renewed now) seq works
again-periodic renewed now end seq period works in_order periodic final =
    again-found (ended renewed now end) (enqueued_again renewed now) seq period works (work_numbered seq works) in_order
    (λ work is. ended-periodic renewed now end period work final is) refl periodic

still-same : (now : ℕ) (output : List DataEntry) (seq : ℕ) (work : Record) → IsSameWork work (changed (succeeded now output) seq work)
still-same now output seq work =
    changed_both (IsSameWork work) (succeeded now output) seq work
    (λ e. record { seq = refl; id = refl; name = λ text is. is; kind = refl }) (λ e. record { seq = refl; id = refl; name = λ text is. is; kind = refl })

-- the works are in order still once one has succeeded
pub in_order-succeeded : (now : ℕ) (output : List DataEntry) (seq : ℕ) (works : List Record) → AllLater IsBefore works
    → AllLater IsBefore (changed_work (succeeded now output) seq works)
in_order-succeeded now output seq works in_order =
    let change = changed (succeeded now output) seq in
    AllLater-map IsBefore change works
    (λ one other before. IsBefore-same one (change one) other (change other) (still-same now output seq one) (still-same now output seq other) before) in_order

-- ---- a state

-- the run of a reached work is found by its number
pub run-among : (test : Record → Bool) (works : List Record) (number : ℕ)
    → is_among (numbers_in (filter test works)) number ≡ list_any (λ work. eqb work.seq number && test work) works
run-among test works number =
    list_any_after (λ one. eqb one number) (λ (work : Record). work.seq) (filter test works)
    ∙ list_any-kept (λ (work : Record). eqb work.seq number) test works

pub stopped-reached : (seq : ℕ) (works : List Record) (runs : List Run) (numbers : List ℕ) → numbers ≡ numbers_in (filter (is_reached seq works) works)
    → map (λ run. cond (is_among numbers run.seq) (stopped run) run) runs ≡ with_stopped (is_run_reached seq works) runs
stopped-reached seq works runs numbers are =
    ap (λ (ns : List ℕ). map (λ (run : Run). cond (is_among ns run.seq) (stopped run) run) runs) are
    ∙ map-same _ _ runs (All-any runs (λ (run : Run). ap (λ b. cond b (stopped run) run) (run-among (is_reached seq works) works run.seq)))

-- the works are in order still once some are closed
pub in_order-closed : (how : How) (now seq : ℕ) (works : List Record) → AllLater IsBefore works → AllLater IsBefore (with_closed how now seq works)
in_order-closed how now seq works in_order =
    let change : Record → Record = λ work. cond (is_reached seq works work) (closed how now work) work in
    let same : (work : Record) → IsSameWork work (change work) = λ work.
    cond_both (is_reached seq works work) (closed how now work) work (IsSameWork work)
    (λ e. record { seq = refl; id = refl; name = λ text is. is; kind = refl }) (λ e. record { seq = refl; id = refl; name = λ text is. is; kind = refl }) in
    AllLater-map IsBefore change works (λ one other before. IsBefore-same one (change one) other (change other) (same one) (same other) before) in_order
