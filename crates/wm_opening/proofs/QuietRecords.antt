-- What a store keeps of records that have told something, and that it says what they open to.
use Rattle.std.proofs.Common.{◌≡◌, ℕ, List, [], ◌∷◌, map, Option, Some, None, Ok, refl, sym, ap, ◌∙◌, subst, inl, inr}
use Rattle.std.specs.List.{AllByRecursion}
use Rattle.wm_collections.proofs.Lists.{All-weaker, map-twice}
use Rattle.wm_keeper.specs.declared.row.Row.{Row}
use Rattle.wm_machine.proofs.Changes.{AreWorks-changed, IsChange-still}
use Rattle.wm_machine.proofs.Records.{IsData-empty, IsRecord-kept, moments-kept}
use Rattle.wm_machine.proofs.Rows.{AreRowsOf-kept}
use Rattle.wm_machine.specs.Opened.{AreFresh, next_number, Opened, opening_state, reopened}
use Rattle.wm_machine.specs.Rows.{row_of, rows_of, AreRowsOf, IsRowOf}
use Rattle.wm_machine.specs.Valid.{AreWorks, IsOfKind, IsProgressIn, IsRecord, Valid}
use Rattle.wm_machine.specs.declared.record.Phase.{Phase}
use Rattle.wm_machine.specs.declared.record.Phase.TheVariants as phase
use Rattle.wm_machine.specs.declared.record.Record.{Record}
use Rattle.wm_machine.specs.declared.state.Instance.{Instance}
use Rattle.wm_machine.specs.declared.state.State.{State}
use Rattle.wm_rows.proofs.StoreRead.{checked_works}
use Rattle.wm_rows.proofs.StoreWritten.{checked-written}
use Rattle.wm_rows.specs.Sound.{AreSound, checked}
use Rattle.wm_schedule.specs.declared.schedule.Period.{Period}

-- ---- records that have told nothing

-- what there is of a record once its progress is forgotten
abbrev quiet : Record → Record
quiet work = record work { progress = [] }

none_told : (p : Phase) → IsProgressIn p []
none_told phase.Waiting = refl
none_told phase.Running = IsData-empty
none_told (phase.Done how) = refl

kind-quiet : (period : Option Period) (work : Record) → IsOfKind period work → IsOfKind period (quiet work)
kind-quiet None work is = is
kind-quiet (Some period) work is = record { phase_is = is.phase_is; no_output = is.no_output; no_prerequisite = is.no_prerequisite }

IsRecord-quiet : (work : Record) → IsRecord work → IsRecord (quiet work)
IsRecord-quiet work is =
    IsRecord-kept work (quiet work) refl is (record {
      name = is.name;
      moments = moments-kept work (quiet work) refl refl refl is.finished_at is;
      attempt = is.attempt;
      started = is.started;
      backoff_n = is.backoff_n;
      runs = is.runs;
      kind = kind-quiet work.request.period work is.kind;
      output = is.output;
      progress = none_told work.phase;
    })

AreWorks-quiet : (next : ℕ) (works : List Record) → AreWorks next works → AreWorks next (map quiet works)
AreWorks-quiet next works are =
    AreWorks-changed next works quiet are
    (IsChange-still works quiet (λ work. record { seq = refl; name = λ text is. is; request = refl; prior = refl }) (λ work. refl)
    (All-weaker works IsRecord-quiet are.records) are.sound)

quiet-told : (works : List Record) → AllByRecursion (λ work. work.progress ≡ []) (map quiet works)
quiet-told [] = tt
quiet-told (work ∷ works) = (refl, quiet-told works)

-- ---- their rows

-- they are the same, and so is what the records open to
rows-quiet : (works : List Record) → map row_of (map quiet works) ≡ map row_of works
rows-quiet works = map-twice quiet row_of works

reopened-quiet : (works : List Record) → map reopened (map quiet works) ≡ map reopened works
reopened-quiet works = map-twice quiet reopened works

row-quiet : (row : Row) (work : Record) → IsRowOf row work → IsRowOf row (quiet work)
row-quiet row work (inl same) = inl same
row-quiet row work (inr same) =
    inr (same.0, record { no_override = same.1.no_override; not_kept = same.1.not_kept; no_moment = same.1.no_moment })

theirs-quiet : (rows : List Row) (works : List Record) → AreRowsOf rows works → AreRowsOf rows (map quiet works)
theirs-quiet [] [] theirs = tt
theirs-quiet (row ∷ rows) (work ∷ works) theirs = (row-quiet row work theirs.0, theirs-quiet rows works theirs.1)
theirs-quiet [] (work ∷ works) theirs = absurd theirs
theirs-quiet (row ∷ rows) [] theirs = absurd theirs

-- rows that are theirs are read as them
checked-theirs : (next : ℕ) (rows : List Row) (works : List Record) → AreRowsOf rows works → AreWorks next works → checked rows ≡ Ok (map quiet works)
checked-theirs next rows works theirs are =
    checked-written next rows (map quiet works) (theirs-quiet rows works theirs) (AreWorks-quiet next works are) (quiet-told works)

checked-quiet : (next : ℕ) (works : List Record) → AreWorks next works → checked (map row_of works) ≡ Ok (map quiet works)
checked-quiet next works are = checked-theirs next (map row_of works) works (AreRowsOf-kept works) are

-- ---- what they open to

-- rows open to one state
pub opened-once : (rows : List Row) (instances : List Instance) (first other : State) → Opened rows instances first → Opened rows instances other
    → first ≡ other
opened-once rows instances first other one two =
    let works = one.stored in
    let others = two.stored in
    let here = checked-theirs (next_number works) rows works one.rows_are_theirs one.sound in
    let there = checked-theirs (next_number others) rows others two.rows_are_theirs two.sound in
    let reading : Ok (map quiet works) ≡ Ok (map quiet others) = sym here ∙ there in
    let quiets : map quiet works ≡ map quiet others = cc in
    let same : map reopened works ≡ map reopened others = sym (reopened-quiet works) ∙ ap (map reopened) quiets ∙ reopened-quiet others in
    one.state ∙ ap (λ (list : List Record). opening_state list instances) same ∙ sym two.state

-- the rows of a state are sound
pub sound-kept : (s : State) → Valid s → AreSound (rows_of s)
sound-kept s valid = (map quiet s.works, checked-quiet s.next s.works valid.works)

-- and open to its records
pub opened-kept : (s : State) (instances : List Instance) → Valid s → AreFresh instances
    → Opened (rows_of s) instances (opening_state (map reopened s.works) instances)
opened-kept s instances valid fresh = record {
  stored = map quiet s.works;
  rows_are_theirs = subst (λ (rows : List Row). AreRowsOf rows (map quiet s.works)) (rows-quiet s.works) (AreRowsOf-kept (map quiet s.works));
  sound = checked_works (rows_of s) (map quiet s.works) (checked-quiet s.next s.works valid.works);
  fresh = fresh;
  state = ap (λ (works : List Record). opening_state works instances) (sym (reopened-quiet s.works));
}
