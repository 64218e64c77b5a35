-- What holds of the records of a state after a change of each of them by itself, and of the state where no run begins or ends.
use Rattle.std.proofs.Common.{◌≡◌, ◌∙◌, ℕ, ◌<◌, ◌≤◌, Bool, true, List, [], ◌∷◌, map, is_some, refl, ap, subst, sym}
use Rattle.std.specs.List.{AllByRecursion}
use Rattle.std.proofs.lemmas.Bool.{false≢true}
use Rattle.std.proofs.lemmas.List.{length-map}
use Rattle.wm_collections.specs.Lists.{AllLater, HasOne}
use Rattle.wm_collections.proofs.Lists.{All-any, All-map, All-map2, All-weaker, All-with2, AllLater-map, HasOne-map_with, HasOne-weaker}
use Rattle.wm_machine.proofs.Runnings.{AreRuns-beside, HasNoOtherName, IsBefore-same, IsSameWork, all_of_number, changed, changed_both, still_one_time}
use Rattle.wm_machine.specs.Closed.{is_open}
use Rattle.wm_machine.specs.Valid.{Valid, ArePriorSound, AreWorks, HasSucceeded, IsBefore, IsCurrentOf, IsPrerequisite, IsRecord, IsWorkOf, MaySucceedOrHas}
use Rattle.wm_machine.specs.declared.record.How.TheVariants as how
use Rattle.wm_machine.specs.Types.{Phase, Record, Run, State}
use Rattle.wm_machine.specs.declared.record.Phase.TheVariants as phase
use Rattle.wm_request.specs.Requests.{RequestFields}

-- ---- a change

-- what no change makes another in a request: its id, and whether it is for periodic work
abbrev pub lasting : RequestFields → List ℕ × Bool
lasting request = (request.id, is_some request.period)

-- two records are of one work, which keeps what lasts of its request, and has no other name
pub record IsSameRequest (one other : Record) : Type 0 where
  pub seq : other.seq ≡ one.seq
  pub name : HasNoOtherName one.name other.name
  pub request : lasting other.request ≡ lasting one.request
  pub prior : other.prior ≡ one.prior

abbrev pub Succeeded : Phase → Type 0
Succeeded p = p ≡ phase.Done how.Succeeded

-- each record of this number that can still succeed, or has, still can after the change
abbrev pub StaysOpen : List Record → (Record → Record) → ℕ → Type 0
StaysOpen works change number = AllByRecursion (λ work. work.seq ≡ number → MaySucceedOrHas work.phase → MaySucceedOrHas (change work).phase) works

-- Where a change of these records may bring a record in this phase with these prerequisites: only what is unfinished waits or runs; what waits
-- keeps its prerequisites, and of what runs, or has succeeded, they have.
abbrev pub MovesTo : List Record → (Record → Record) → Phase → List ℕ → Phase → Type 0
MovesTo works change before prior phase.Waiting = (is_open before ≡ true) × AllByRecursion (StaysOpen works change) prior
MovesTo works change before prior phase.Running = (is_open before ≡ true) × AllByRecursion (λ number. HasOne (HasSucceeded number) works) prior
MovesTo works change before prior (phase.Done how.Succeeded) =
    AllByRecursion (λ number. AllByRecursion (λ work. work.seq ≡ number → Succeeded work.phase) works) prior
MovesTo works change before prior (phase.Done _) = Unit {0}

-- a change of these records, each by itself, which keeps what was asked for, what holds of every record, and what has succeeded
pub record IsChange (works : List Record) (change : Record → Record) : Type 0 where
  pub same : (work : Record) → IsSameRequest work (change work)
  pub fits : AllByRecursion (λ work. IsRecord (change work)) works
  pub moves : AllByRecursion (λ work. MovesTo works change work.phase work.prior (change work).phase) works
  pub stays : AllByRecursion (λ work. Succeeded work.phase → Succeeded (change work).phase) works

-- ---- where it brings a record

-- a record may stay in its phase, where the prerequisites of what waits stay open
pub moves-kept : (works : List Record) (change : Record → Record) (p : Phase) (prior : List ℕ) → ArePriorSound works p prior
    → (p ≡ phase.Waiting → AllByRecursion (StaysOpen works change) prior) → MovesTo works change p prior p
moves-kept works change phase.Waiting prior sound opens = (refl, opens refl)
moves-kept works change phase.Running prior sound opens = (
  refl,
  All-weaker prior (λ number both. both.1) sound,
)
moves-kept works change (phase.Done how.Succeeded) prior sound opens = sound
moves-kept works change (phase.Done how.Failed) prior sound opens = tt
moves-kept works change (phase.Done how.Cancelled) prior sound opens = tt

-- all prerequisites stay open where every record does
pub all_open : (works : List Record) (change : Record → Record) (prior : List ℕ)
    → AllByRecursion (λ work. MaySucceedOrHas work.phase → MaySucceedOrHas (change work).phase) works → AllByRecursion (StaysOpen works change) prior
all_open works change prior opens = All-any prior (λ number. All-weaker works (λ work opens same. opens) opens)

-- where some have succeeded, each of their numbers has
pub succeeded_each : (works : List Record) (prior : List ℕ) → AllLater IsBefore works → AllByRecursion (λ number. HasOne (HasSucceeded number) works) prior
    → AllByRecursion (λ number. AllByRecursion (λ work. work.seq ≡ number → Succeeded work.phase) works) prior
succeeded_each works prior order have =
    All-weaker prior (λ number one. all_of_number (λ work. Succeeded work.phase) number works order
    (HasOne-weaker works (λ work is. (is.seq, is.succeeded)) one)) have

-- of what runs the prerequisites have succeeded
pub running_prior : (works : List Record) (p : Phase) (prior : List ℕ) → p ≡ phase.Running → ArePriorSound works p prior
    → AllByRecursion (λ number. HasOne (HasSucceeded number) works) prior
running_prior works p prior running sound = All-weaker prior (λ number both. both.1) (subst (λ p. ArePriorSound works p prior) running sound)

-- the prerequisites of what is unfinished are there
open_prior : (works : List Record) (p : Phase) (prior : List ℕ) → is_open p ≡ true → ArePriorSound works p prior
    → AllByRecursion (λ number. HasOne (IsPrerequisite number) works) prior
open_prior works phase.Waiting prior unfinished sound = sound
open_prior works phase.Running prior unfinished sound = All-weaker prior (λ number both. both.0) sound
open_prior works (phase.Done how) prior unfinished sound = absurd (false≢true unfinished)

module _ (works : List Record) (change : Record → Record) (is : IsChange works change) (order : AllLater IsBefore works) where
  -- what can still succeed is there after the change
  prerequisite_stays : (number : ℕ) → StaysOpen works change number → HasOne (IsPrerequisite number) works → HasOne (IsPrerequisite number) (map change works)
  prerequisite_stays number opens one =
      HasOne-map_with _ change works (λ work open_then of.
      let same = is.same work in record {
        seq = same.seq ∙ of.seq;
        open_is = open_then of.seq of.open_is;
        one_time = still_one_time work.request.period (change work).request.period (ap (λ (l : List ℕ × Bool). l.1) same.request) of.one_time;
      }) opens one

  -- what has succeeded has after the change
  succeeded_stays : (number : ℕ) → HasOne (HasSucceeded number) works → HasOne (HasSucceeded number) (map change works)
  succeeded_stays number one =
      HasOne-map_with _ change works (λ work stays of. record { seq = (is.same work).seq ∙ of.seq; succeeded = stays of.succeeded }) is.stays one

  -- and so it is a prerequisite that is there
  prerequisite_done : (number : ℕ) → HasOne (IsPrerequisite number) works × HasOne (HasSucceeded number) works
      → HasOne (IsPrerequisite number) (map change works)
  prerequisite_done number both =
      prerequisite_stays number (All-with2 works (λ work done stays same may. subst MaySucceedOrHas (sym (stays (done same))) tt)
      (succeeded_each works (number ∷ []) order (both.1, tt)).0 is.stays) both.0

  sound_then : (before : Phase) (prior : List ℕ) (then : Phase) → ArePriorSound works before prior → MovesTo works change before prior then
      → ArePriorSound (map change works) then prior
  sound_then before prior phase.Waiting sound moves =
      All-with2 prior (λ number stays one. prerequisite_stays number stays one) moves.1 (open_prior works before prior moves.0 sound)
  sound_then before prior phase.Running sound moves =
      All-with2 prior (λ number open_one done. (prerequisite_done number (open_one, done), succeeded_stays number done))
      (open_prior works before prior moves.0 sound) moves.1
  sound_then before prior (phase.Done how.Succeeded) sound moves =
      All-weaker prior (λ number all. All-map2 _ change works (λ work done stays same. stays (done (sym (is.same work).seq ∙ same))) all is.stays) moves
  sound_then before prior (phase.Done how.Failed) sound moves = tt
  sound_then before prior (phase.Done how.Cancelled) sound moves = tt

-- ---- changes of one record

-- what is so of the record of this number
abbrev pub OfNumber : ℕ → (Record → Type 0) → Record → Type 0
OfNumber seq P work = work.seq ≡ seq → P work

-- a change of the record of one number, which hadn't succeeded and still can
pub IsChange-one : (works : List Record) (seq : ℕ) (change : Record → Record) → ((work : Record) → IsSameRequest work (change work))
    → AllByRecursion IsRecord works → AllByRecursion (λ work. ArePriorSound works work.phase work.prior) works
    → AllByRecursion (OfNumber seq (λ work. IsRecord (change work))) works
    → AllByRecursion (OfNumber seq (λ work. MovesTo works (changed change seq) work.phase work.prior (change work).phase)) works
    → AllByRecursion (OfNumber seq (λ work. Succeeded work.phase → ⊥)) works → AllByRecursion (OfNumber seq (λ work. MaySucceedOrHas (change work).phase)) works
    → IsChange works (changed change seq)
IsChange-one works seq change same records sound fits moves not_yet opens =
    let open_then = All-weaker works (λ work then before. changed_both (λ c. MaySucceedOrHas c.phase) change seq work then (λ differs. before)) opens in
    record {
      same = λ work. changed_both (IsSameRequest work) change seq work (λ e. same work)
          (λ differs. record { seq = refl; name = λ text is. is; request = refl; prior = refl });
      fits = All-with2 works (λ work fine then. changed_both IsRecord change seq work then (λ differs. fine)) records fits;
      moves = All-with2 works (λ work sound moves. changed_both (λ c. MovesTo works (changed change seq) work.phase work.prior c.phase) change seq work moves
          (λ differs. moves-kept works (changed change seq) work.phase work.prior sound
          (λ waits. all_open works (changed change seq) work.prior open_then))) sound moves;
      stays = All-weaker works (λ work not succeeded. changed_both (λ c. Succeeded c.phase) change seq work (λ e. absurd (not e succeeded))
          (λ differs. succeeded)) not_yet;
    }

-- a change that leaves each record in its phase
pub IsChange-still : (works : List Record) (change : Record → Record) → ((work : Record) → IsSameRequest work (change work))
    → ((work : Record) → (change work).phase ≡ work.phase) → AllByRecursion (λ work. IsRecord (change work)) works
    → AllByRecursion (λ work. ArePriorSound works work.phase work.prior) works → IsChange works change
IsChange-still works change same still fits sound =
    let opens = All-any works (λ work before. subst MaySucceedOrHas (sym (still work)) before) in
    record {
      same = same;
      fits = fits;
      moves = All-weaker works (λ work is. subst (MovesTo works change work.phase work.prior) (sym (still work))
          (moves-kept works change work.phase work.prior is (λ waits. all_open works change work.prior opens))) sound;
      stays = All-any works (λ work succeeded. still work ∙ succeeded);
    }

-- where a change brings a record goes by the phases that it gives
moves-like : (works : List Record) (one other : Record → Record) → ((work : Record) → (other work).phase ≡ (one work).phase) → (p : Phase) (prior : List ℕ)
    (then : Phase) → MovesTo works one p prior then → MovesTo works other p prior then
moves-like works one other like p prior phase.Waiting moves = (
  moves.0,
  All-weaker prior (λ number stays. All-weaker works (λ work stay same opens. subst MaySucceedOrHas (sym (like work)) (stay same opens)) stays) moves.1,
)
moves-like works one other like p prior phase.Running moves = moves
moves-like works one other like p prior (phase.Done how.Succeeded) moves = moves
moves-like works one other like p prior (phase.Done how.Failed) moves = tt
moves-like works one other like p prior (phase.Done how.Cancelled) moves = tt

-- a change that gives the same phases as another
pub IsChange-like : (works : List Record) (one other : Record → Record) → IsChange works one → ((work : Record) → (other work).phase ≡ (one work).phase)
    → ((work : Record) → IsSameRequest work (other work)) → AllByRecursion (λ work. IsRecord (other work)) works → IsChange works other
IsChange-like works one other is like same fits = record {
  same = same;
  fits = fits;
  moves = All-weaker works (λ work moves. subst (MovesTo works other work.phase work.prior) (sym (like work))
      (moves-like works one other like work.phase work.prior (one work).phase moves)) is.moves;
  stays = All-weaker works (λ work stays succeeded. like work ∙ stays succeeded) is.stays;
}

-- ---- the records of a state

same_work : (one other : Record) → IsSameRequest one other → IsSameWork one other
same_work one other is = record {
  seq = is.seq;
  id = ap (λ (l : List ℕ × Bool). l.0) is.request;
  name = is.name;
  kind = ap (λ (l : List ℕ × Bool). l.1) is.request;
}

-- the records after a change
pub AreWorks-changed : (next : ℕ) (works : List Record) (change : Record → Record) → AreWorks next works → IsChange works change
    → AreWorks next (map change works)
AreWorks-changed next works change are is =
    record {
      first = are.first;
      fits = are.fits;
      numbers = All-map _ change works (λ w below. subst (λ n. n < next) (sym (is.same w).seq) below) are.numbers;
      few = subst (λ n. n ≤ 100000) (sym (length-map works change)) are.few;
      records = All-map _ change works (λ w fine. fine) is.fits;
      in_order = AllLater-map _ change works (λ one other before. IsBefore-same one (change one) other (change other) (same_work one (change one) (is.same one))
          (same_work other (change other) (is.same other)) before) are.in_order;
      sound = All-map2 _ change works (λ w sound moves. subst (ArePriorSound (map change works) (change w).phase) (sym (is.same w).prior)
          (sound_then works change is are.in_order w.phase w.prior (change w).phase sound moves)) are.sound is.moves;
    }

-- ---- where no run begins or ends

-- a record runs after a change just where it ran before, in the same attempt
pub record KeepsRun (one other : Record) : Type 0 where
  pub ran : other.phase ≡ phase.Running → one.phase ≡ phase.Running
  pub runs : one.phase ≡ phase.Running → other.phase ≡ phase.Running
  pub attempt : one.phase ≡ phase.Running → other.attempt ≡ one.attempt

-- the work of a run is so after the change
pub IsWorkOf-kept : (run : Run) (one other : Record) → IsSameRequest one other → KeepsRun one other → IsWorkOf run one → IsWorkOf run other
IsWorkOf-kept run one other same keeps of = record {
  seq = same.seq ∙ of.seq;
  running = keeps.runs of.running;
  attempt = keeps.attempt of.running ∙ of.attempt;
  renewed = λ is. ap (λ (l : List ℕ × Bool). l.1) same.request ∙ of.renewed is;
}

-- the records with each of them changed
abbrev pub with_changed : State → (Record → Record) → State
with_changed s change = record s { works = map change s.works }

-- a change after which just those run that ran before keeps what holds of the states that are valid
pub reached-changed : (s : State) (change : Record → Record) → Valid s → IsChange s.works change
    → AllByRecursion (λ work. KeepsRun work (change work)) s.works → Valid (with_changed s change)
reached-changed s change valid is keep =
    record {
      works = AreWorks-changed s.next s.works change valid.works is;
      runs = AreRuns-beside s (map change s.works) valid
          (All-map2 _ change s.works (λ w has keeps running. subst (λ n. HasOne (IsCurrentOf n) s.runs) (sym (is.same w).seq) (has (keeps.ran running)))
          valid.runs.running keep) (λ r one. HasOne-map_with _ change s.works (λ w keeps of. IsWorkOf-kept r w (change w) (is.same w) keeps of) keep one);
      instances = valid.instances;
      few_observers = valid.few_observers;
      now = valid.now;
    }
