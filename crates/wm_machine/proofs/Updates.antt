-- What is owed for an update of a work.
use Rattle.std.proofs.Common.{◌≡◌, ◌&&◌, ℕ, Bool, true, cond, eqb, List, [], ◌∷◌, map, Option, Some, None, is_some, refl, sym, ◌∙◌, ap, subst}
use Rattle.std.specs.List.{AllByRecursion}
use Rattle.std.specs.Str.{bytes_eq}
use Rattle.std.proofs.lemmas.Bool.{and_parts, cond-true, cond_both, eqb-true, false≢true}
use Rattle.wm_machine.proofs.Changes.{IsChange-still, IsSameRequest, KeepsRun, reached-changed}
use Rattle.wm_machine.proofs.Endings.{KeepsRun-same}
use Rattle.wm_collections.proofs.Lists.{All-any, All-map, All-weaker, AllLater-map, HasOne-map, HasOne-weaker, HasOne-with, find-stored, list_any-same, map-same}
use Rattle.wm_machine.proofs.Owed.{IsAnswered, IsLinedIn-quiet, IsLinedIn-renews, renewed_both, renewed_in}
use Rattle.wm_machine.proofs.Records.{IsRecord-updated}
use Rattle.wm_machine.proofs.Runnings.{changed, changed-same, changed_both, IsAlone-stored}
use Rattle.wm_machine.specs.Cancelled.{work_with_id}
use Rattle.wm_machine.specs.Closed.{is_open}
use Rattle.wm_machine.specs.Frame.{instances_after, untouched, IsLinedIn}
use Rattle.wm_machine.specs.Replied.{Outcome, unchanged}
use Rattle.wm_machine.specs.Runs.{changed_work}
use Rattle.wm_machine.specs.Updated.{asks_of_next, is_run_of, is_same_kind, made_new, update_by, update_found, update_of, updated, with_renewed}
use Rattle.wm_collections.specs.Lists.{HasOne}
use Rattle.wm_machine.specs.Valid.{AreApart, IsCurrentOf, IsOutForRun, IsRecord, IsValidRun, Valid}
use Rattle.wm_machine.specs.Types.{Command, Instance, Period, Record, Run, State}
use Rattle.wm_machine.specs.declared.command.Command.TheVariants as command
use Rattle.wm_machine.specs.declared.reply.Applied.TheVariants.{NotApplied}
use Rattle.wm_machine.specs.declared.reply.Refusal.TheVariants.{KindMismatch}
use Rattle.wm_machine.specs.declared.reply.Reply.TheVariants as reply
use Rattle.wm_request.specs.Requests.{IsNextRun, IsRequest, RequestFields}
use Rattle.wm_request.specs.declared.request.NextRun.{NextRun}
use Rattle.wm_request.specs.declared.request.NextRun.TheVariants.{Leave, At, Clear}

-- ---- the change

same_kind : (one other : Option Period) → is_same_kind one other ≡ true → is_some one ≡ is_some other
same_kind None None same = refl
same_kind None (Some other) same = absurd (false≢true same)
same_kind (Some one) None same = absurd (false≢true same)
same_kind (Some one) (Some other) same = refl

-- a record, updated where it is of the request's kind
abbrev updated_in_kind : RequestFields → Record → Record
updated_in_kind request work = cond (is_same_kind request.period work.request.period) (updated request work) work

-- what holds in both cases
kind_both : (P : Record → Type 0) (request : RequestFields) (work : Record)
    → (is_same_kind request.period work.request.period ≡ true → P (updated request work)) → P work → P (updated_in_kind request work)
kind_both P request work hit miss = cond_both (is_same_kind request.period work.request.period) (updated request work) work P hit (λ e. miss)

-- the record of this number, updated where it is of the request's kind
abbrev change_by : RequestFields → ℕ → Record → Record
change_by request seq work = changed (updated_in_kind request) seq work

change_both : (P : Record → Type 0) (request : RequestFields) (seq : ℕ) (work : Record)
    → (is_same_kind request.period work.request.period ≡ true → P (updated request work)) → P work → P (change_by request seq work)
change_both P request seq work hit miss = changed_both P (updated_in_kind request) seq work (λ e. kind_both P request work hit miss) (λ differs. miss)

change-same : (request : RequestFields) (seq : ℕ) (work : Record) → IsSameRequest work (change_by request seq work)
change-same request seq work =
    change_both (IsSameRequest work) request seq work (λ same. record {
      seq = refl;
      name = λ text is. is;
      request = ap (λ kind. (work.request.id, kind)) (same_kind request.period work.request.period same);
      prior = refl;
    }) (record { seq = refl; name = λ text is. is; request = refl; prior = refl })

-- ---- the runs

AreApart-renewed : (renews : Run → Bool) (one other : Run) → AreApart one other → AreApart (renewed_in renews one) (renewed_in renews other)
AreApart-renewed renews one other apart =
    renewed_both (λ r. AreApart r (renewed_in renews other)) renews one (λ e. renewed_both (AreApart (made_new one)) renews other
    (λ e. record { runs = apart.runs; works = apart.works; instances = apart.instances })
    (λ e. record { runs = apart.runs; works = apart.works; instances = apart.instances }))
    (λ e. renewed_both (AreApart one) renews other (λ e. record { runs = apart.runs; works = apart.works; instances = apart.instances }) (λ e. apart))

-- an instance is out as before
IsOutForRun-renewed : (renews : Run → Bool) (runs : List Run) (i : Instance) → IsOutForRun runs i → IsOutForRun (with_renewed renews runs) i
IsOutForRun-renewed renews runs i out =
    out ∙ sym (list_any-same (λ r. eqb r.instance i.number) (renewed_in renews) runs
    (λ r. renewed_both (λ (x : Run). eqb x.instance i.number ≡ eqb r.instance i.number) renews r (λ e. refl) (λ e. refl)))

-- the works of a run's number are periodic, where the run is one that is meant
abbrev ArePeriodicFor : (Run → Bool) → List Record → Run → Type 0
ArePeriodicFor renews works run = renews run ≡ true → AllByRecursion (λ work. work.seq ≡ run.seq → is_some work.request.period ≡ true) works

-- a run stays valid
IsValidRun-renewed : (s : State) (renews : Run → Bool) (run : Run) → ArePeriodicFor renews s.works run
    → IsValidRun s.works s.instances s.next_run run → IsValidRun s.works s.instances s.next_run (renewed_in renews run)
IsValidRun-renewed s renews run periodic fine =
    renewed_both (IsValidRun s.works s.instances s.next_run) renews run (λ e. record {
      number = fine.number;
      turn = fine.turn;
      input = fine.input;
      work = λ current. HasOne-with s.works (λ work repeats of. record {
        seq = of.seq;
        running = of.running;
        attempt = of.attempt;
        renewed = λ is. repeats of.seq;
      }) (periodic e) (fine.work current);
      instance = HasOne-weaker s.instances (λ i of. record { number = of.number; kind = of.kind }) fine.instance;
    }) (λ e. fine)

-- a working record keeps its run
current-renewed : (renews : Run → Bool) (seq : ℕ) (runs : List Run) → HasOne (IsCurrentOf seq) runs → HasOne (IsCurrentOf seq) (with_renewed renews runs)
current-renewed renews seq runs one =
    HasOne-map _ (renewed_in renews) runs (λ r is. renewed_both (IsCurrentOf seq) renews r (λ e. record { of = is.of; current = is.current }) (λ e. is)) one

-- runs of periodic works may be renewed
pub Valid-renewed : (s : State) (renews : Run → Bool) → Valid s → ((run : Run) → ArePeriodicFor renews s.works run)
    → Valid (record s { runs = with_renewed renews s.runs })
Valid-renewed s renews valid periodic = record {
  works = valid.works;
  runs = record {
    running = All-weaker s.works (λ work has running. current-renewed renews work.seq s.runs (has running)) valid.runs.running;
    each = All-map _ (renewed_in renews) s.runs (λ run fine. IsValidRun-renewed s renews run (periodic run) fine) valid.runs.each;
    apart = AllLater-map _ (renewed_in renews) s.runs (AreApart-renewed renews) valid.runs.apart;
  };
  instances = record {
    out = All-weaker s.instances (IsOutForRun-renewed renews s.runs) valid.instances.out;
    few = valid.instances.few;
    numbered = valid.instances.numbered;
  };
  few_observers = valid.few_observers;
  now = valid.now;
}

-- a request that asks for another moment of the next run is periodic
asks_periodic : (period : Option Period) (next : NextRun) → IsNextRun period next → asks_of_next next ≡ true → is_some period ≡ true
asks_periodic period Leave is asks = absurd (false≢true asks)
asks_periodic None (At moment) is asks = absurd is
asks_periodic None Clear is asks = absurd is
asks_periodic (Some period) (At moment) is asks = refl
asks_periodic (Some period) Clear is asks = refl

-- so the runs of an update that are renewed are of periodic works
update-periodic : (request : RequestFields) (seq : ℕ) (works : List Record) → IsRequest request → (run : Run)
    → ArePeriodicFor (λ run. asks_of_next request.next && is_run_of seq run) (changed_work (updated request) seq works) run
update-periodic request seq works asked run renews =
    let asks = and_parts (asks_of_next request.next) (is_run_of seq run) renews in
    let own = eqb-true run.seq seq (and_parts run.current (eqb run.seq seq) asks.1).1 in
    let periodic = asks_periodic request.period request.next asked.within.next_is asks.0 in
    All-map _ (changed (updated request) seq) works (λ work is. is) (All-any works (λ work.
    changed_both (λ w. w.seq ≡ run.seq → is_some w.request.period ≡ true) (updated request) seq work (λ e same. periodic)
    (λ differs same. absurd (differs (same ∙ own)))))

-- ---- the state

-- an update of a record by a request of its kind keeps what holds of the states that are valid
pub update-reached : (s : State) (request : RequestFields) (work : Record) → IsRequest request
    → is_same_kind request.period work.request.period ≡ true → Valid s → HasOne (λ other. other ≡ work) s.works → Valid (update_of s request work).state
update-reached s request work asked same valid stored =
    let seq = work.seq in
    let change = change_by request seq in
    let is =
    IsChange-still s.works change (change-same request seq) (λ other. change_both (λ w. w.phase ≡ other.phase) request seq other (λ e. refl) refl)
    (All-weaker s.works (λ other fine. change_both IsRecord request seq other (λ e. IsRecord-updated request other asked e fine) fine) valid.works.records)
    valid.works.sound in
    let keeps =
    All-any s.works (λ other. change_both (KeepsRun other) request seq other (λ e. KeepsRun-same other (updated request other) refl refl)
    (KeepsRun-same other other refl refl)) in
    let each =
    All-weaker s.works (λ other alone. changed-same (updated_in_kind request) (updated request) seq other
    (λ e. cond-true (is_same_kind request.period other.request.period) (updated request other) other
    (ap (λ (w : Record). is_same_kind request.period w.request.period) (alone e) ∙ same))) (IsAlone-stored work s.works valid.works.in_order stored) in
    let works = changed_work (updated request) seq s.works in
    let then : Valid (record s { works = works }) =
    subst (λ works. Valid (record s { works = works })) (map-same change (changed (updated request) seq) s.works each)
    (reached-changed s change valid is keeps) in
    Valid-renewed (record s { works = works }) (λ run. asks_of_next request.next && is_run_of seq run) then
    (update-periodic request seq s.works asked)

-- ---- what is owed

-- the outcome for the record that was found, by its cases
found_both : (P : Outcome → Type 0) (s : State) (request : RequestFields) (work : Record)
    → (is_same_kind request.period work.request.period ≡ true → P (update_of s request work))
    → P (unchanged s (reply.Refused (KindMismatch request.id))) → P (unchanged s (reply.Updated NotApplied work.generation)) → P (update_found s request work)
found_both P s request work one other finished =
    let refused = unchanged s (reply.Refused (KindMismatch request.id)) in
    let same = is_same_kind request.period work.request.period in
    cond_both (is_open work.phase) (cond same (update_of s request work) refused) (unchanged s (reply.Updated NotApplied work.generation)) P
    (λ e. cond_both same (update_of s request work) refused P one (λ f. other)) (λ e. finished)

reached-by : (s : State) (request : RequestFields) (found : Option Record) → IsRequest request → work_with_id s.works request.id ≡ found → Valid s
    → Valid (update_by s request found).state
reached-by s request None asked is reached = reached
reached-by s request (Some work) asked is reached =
    found_both (λ o. Valid o.state) s request work
    (λ same. update-reached s request work asked same reached (find-stored (λ w. bytes_eq w.request.id request.id) s.works work is)) reached reached

-- an update may renew the run of its work, whether it is a line of its own or an enqueue that updates
pub update-framed : (s : State) (asked : Command) (request : RequestFields) (work : Record) → instances_after asked s.instances ≡ s.instances
    → IsLinedIn asked s (untouched (update_of s request work).state (asked ∷ []))
update-framed s asked request work stay =
    IsLinedIn-renews asked s _ (λ run. asks_of_next request.next && is_run_of work.seq run)
    (ap (λ (instances : List Instance). record (untouched (update_of s request work).state (asked ∷ [])) { instances = instances }) (sym stay))

frame-by : (s : State) (request : RequestFields) (found : Option Record)
    → IsLinedIn (command.Update request) s (untouched (update_by s request found).state (command.Update request ∷ []))
frame-by s request None = IsLinedIn-quiet (command.Update request) s _ refl
frame-by s request (Some work) =
    let asked = command.Update request in
    let quiet = IsLinedIn-quiet asked s (untouched s (asked ∷ [])) refl in
    found_both (λ o. IsLinedIn asked s (untouched o.state (asked ∷ []))) s request work (λ same. update-framed s asked request work refl) quiet quiet

pub update-answered : (s : State) (request : RequestFields) → IsRequest request → IsAnswered s (command.Update request)
update-answered s request asked = record {
  answered = λ rest. refl;
  reached = λ reached. reached-by s request (work_with_id s.works request.id) asked refl reached;
  frame = frame-by s request (work_with_id s.works request.id);
}
