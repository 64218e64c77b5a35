-- One diary, after more events.
use Rattle.std.proofs.Common.{◌≡◌, ℕ, cond, eqb, List, [], ◌∷◌, ◌++◌, Option, Some, None, refl, sym, ◌∙◌, ap, subst, append_assoc}
use Rattle.wm_session.proofs.Words.{AreEntries, DiaryLine, Entry, Event, IsDiaryLater, IsDiaryWith, IsEntry, Replay, Reported, Run, State, TicketState, append-nil, diary_with, event_lines, given_lines, log_lines, ticket_of}
use Rattle.wm_machine.proofs.DiaryLogs.{log_lines-push}
use Rattle.wm_machine.specs.Diaries as diary_line

-- ---- as the log tells it

-- an entry more, as one line more tells it
AreEntries-push : (lines : List DiaryLine) (entries : List Entry) (line : DiaryLine) (written : Entry) → AreEntries lines entries → IsEntry line written
    → AreEntries (lines ++ line ∷ []) (entries ++ written ∷ [])
AreEntries-push [] [] line written are is = (is, refl)
AreEntries-push [] (other ∷ entries) line written are is = absurd (cc)
AreEntries-push (first ∷ lines) [] line written are is = absurd are
AreEntries-push (first ∷ lines) (other ∷ entries) line written are is = (are.0, AreEntries-push lines entries line written are.1 is)

IsDiaryWith-push : (lines : List DiaryLine) (line : DiaryLine) (written : Entry) (before now : Option (List Entry)) → IsDiaryWith lines before now
    → IsEntry line written → IsDiaryWith (lines ++ line ∷ []) before (diary_with (written ∷ []) now)
IsDiaryWith-push lines line written None now is entry = ap (diary_with (written ∷ [])) is
IsDiaryWith-push lines line written (Some entries) now is entry = (
  is.0 ++ written ∷ [],
  AreEntries-push lines is.0 line written is.1 entry,
  ap (diary_with (written ∷ [])) is.2 ∙ ap (λ (all : List Entry). Some all) (append_assoc entries is.0 (written ∷ [])),
)

-- before any event it is as it was
pub IsDiaryWith-nothing : (diary : Option (List Entry)) → IsDiaryWith [] diary diary
IsDiaryWith-nothing None = refl
IsDiaryWith-nothing (Some entries) = ([], refl, ap (λ (all : List Entry). Some all) (sym (append-nil entries)))

module _ (number : ℕ) (first : State) (log : List Event) (s : State) (e : Event) (replays : Replay first log s) (before now : Option (List Entry))
    (is : IsDiaryWith (log_lines number first log) before now) where
  -- an event that tells nothing of it
  pub IsDiaryWith-silent : event_lines number s e ≡ [] → IsDiaryWith (log_lines number first (log ++ e ∷ [])) before now
  IsDiaryWith-silent none =
      let same : log_lines number first (log ++ e ∷ []) ≡ log_lines number first log =
      log_lines-push number first log s e replays ∙ ap (λ more. log_lines number first log ++ more) none ∙ append-nil (log_lines number first log) in
      subst (λ lines. IsDiaryWith lines before now) (sym same) is

  -- an event that tells of one entry more, which it has
  pub IsDiaryWith-written : (line : DiaryLine) (written : Entry) → event_lines number s e ≡ line ∷ [] → IsEntry line written
      → IsDiaryWith (log_lines number first (log ++ e ∷ [])) before (diary_with (written ∷ []) now)
  IsDiaryWith-written line written lines entry =
      let more : log_lines number first (log ++ e ∷ []) ≡ log_lines number first log ++ line ∷ [] =
      log_lines-push number first log s e replays ∙ ap (λ more. log_lines number first log ++ more) lines in
      subst (λ lines. IsDiaryWith lines before (diary_with (written ∷ []) now)) (sym more)
      (IsDiaryWith-push (log_lines number first log) line written before now is entry)

-- what an event tells of the run of a ticket whose worker gave this
pub lines_of : (ticket : TicketState) (told : Reported) (found : Option Run) (run : Run) (n : ℕ) → found ≡ Some run → ticket ≡ ticket_of run
    → given_lines n found told ≡ cond (eqb ticket.instance n) (diary_line.Gave ticket.task.run ticket.k told ∷ []) []
lines_of ticket told found run n is of_run =
    ap (λ found. given_lines n found told) is
    ∙ ap (λ (t : TicketState). cond (eqb t.instance n) (diary_line.Gave t.task.run t.k told ∷ []) []) (sym of_run)

-- ---- as it goes on

diary_with-nothing : (diary : Option (List Entry)) → diary ≡ diary_with [] diary
diary_with-nothing None = refl
diary_with-nothing (Some entries) = ap (λ (all : List Entry). Some all) (sym (append-nil entries))

diary_with-more : (entries more : List Entry) (diary : Option (List Entry)) → diary_with more (diary_with entries diary) ≡ diary_with (entries ++ more) diary
diary_with-more entries more None = refl
diary_with-more entries more (Some before) = ap (λ (all : List Entry). Some all) (append_assoc before entries more)

-- a diary that is as it was
pub IsDiaryLater-same : (before now : Option (List Entry)) → now ≡ before → IsDiaryLater before now
IsDiaryLater-same before now same = ([], same ∙ diary_with-nothing before)

-- one that begins with one that begins with what it was
pub IsDiaryLater-further : (before between now : Option (List Entry)) → IsDiaryLater before between → IsDiaryLater between now → IsDiaryLater before now
IsDiaryLater-further before between now early later =
    (early.0 ++ later.0, later.1 ∙ ap (diary_with later.0) early.1 ∙ diary_with-more early.0 later.0 before)
