-- What a store opens to, once more.
use Rattle.std.proofs.Common.{◌≡◌, List, [], ◌∷◌, map, refl, sym, ap, subst}
use Rattle.wm_keeper.specs.declared.row.Row.{Row}
use Rattle.wm_machine.proofs.Openings.{reached-opened}
use Rattle.wm_machine.proofs.Rows.{AreRowsOf-kept}
use Rattle.wm_machine.specs.Opened.{Opened, opening_state, reopened, reopened_phase}
use Rattle.wm_machine.specs.Rows.{rows_of}
use Rattle.wm_machine.specs.declared.record.Phase.{Phase}
use Rattle.wm_machine.specs.declared.record.Phase.TheVariants as phase
use Rattle.wm_machine.specs.declared.record.Record.{Record}
use Rattle.wm_machine.specs.declared.state.Instance.{Instance}
use Rattle.wm_machine.specs.declared.state.State.{State}

-- what waits again waits
phase-again : (p : Phase) → reopened_phase (reopened_phase p) ≡ reopened_phase p
phase-again phase.Waiting = refl
phase-again phase.Running = refl
phase-again (phase.Done how) = refl

reopened-again : (works : List Record) → map reopened (map reopened works) ≡ map reopened works
reopened-again [] = refl
reopened-again (work ∷ works) =
    let rest = reopened-again works in
    let here = ap (λ (p : Phase). record (reopened work) { phase = p }) (phase-again work.phase) in
    rw (here, rest) refl

-- the rows of an opened state open to it
pub opened-again : (rows : List Row) (instances : List Instance) (first : State) → Opened rows instances first → Opened (rows_of first) instances first
opened-again rows instances first opened =
    let works = map reopened opened.stored in
    let reached =
    reached-opened rows instances (opening_state works instances)
    (record { stored = opened.stored; rows_are_theirs = opened.rows_are_theirs; sound = opened.sound; fresh = opened.fresh; state = refl }) in
    subst (λ (s : State). Opened (rows_of s) instances s) (sym opened.state) (record {
      stored = works;
      rows_are_theirs = AreRowsOf-kept works;
      sound = reached.works;
      fresh = opened.fresh;
      state = ap (λ (works : List Record). opening_state works instances) (sym (reopened-again opened.stored));
    })
