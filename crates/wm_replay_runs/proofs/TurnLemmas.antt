-- Runs that go on, and the number by which one is found.
use Rattle.std.proofs.Common.{◌≡◌, ℕ, eqb, false, List, Option, Some, sym, ◌∙◌, ap}
use Rattle.std.proofs.lemmas.Bool.{eqb-true}
use Rattle.wm_replay_runs.specs.Away.{over, IsAwayFrom, IsOf, IsTurnOf}
use Rattle.wm_replay_runs.specs.declared.finishing.Ended.{Ended}
use Rattle.wm_collections.proofs.Lists.{find-passes}
use Rattle.wm_machine.specs.Ends.{end_of, returned_of}
use Rattle.wm_machine.specs.Runs.{changed_work, other_runs, run_numbered, with_out}
use Rattle.wm_machine.specs.Turns.{telling, turn_of, with_turned}
use Rattle.wm_machine.specs.declared.state.Run.{Run}
use Rattle.wm_machine.specs.declared.state.State.{State}
use Rattle.wm_data.specs.declared.data.DataEntry.{DataEntry}
use Rattle.wm_machine.specs.declared.event.End.{End}
use Rattle.wm_machine.specs.declared.record.Record.{Record}
use Rattle.wm_machine.specs.declared.state.Instance.{Instance}

-- a run that is found by a number has it
pub numbered : (number : ℕ) (runs : List Run) (run : Run) → run_numbered number runs ≡ Some run → run.run ≡ number
numbered number runs run found = eqb-true run.run number (find-passes (λ (r : Run). eqb r.run number) runs run found)

-- ---- the state after an event

-- a run that was stopped is away
pub late-made : (s : State) (number instance : ℕ) (runs : List Run) (instances : List Instance) → IsAwayFrom s number instance
    → runs ≡ other_runs number s.runs → instances ≡ with_out false instance s.instances
    → record s { runs = runs; instances = instances } ≡ returned_of s (run_numbered number s.runs)
late-made s number instance runs instances away gone inside =
    let own = sym (numbered number s.runs away.run away.is_running) in
    ap (λ (rs : List Run). record s { runs = rs; instances = instances }) (gone ∙ ap (λ n. other_runs n s.runs) own)
    ∙ ap (λ (is : List Instance). record s { runs = other_runs away.run.run s.runs; instances = is })
    (inside ∙ ap (λ n. with_out false n s.instances) (sym away.is_on))
    ∙ sym (ap (returned_of s) away.is_running)

-- a run is over
pub over-made : (s : State) (number : ℕ) (run : Run) (ended : Ended) (end : End) → run_numbered number s.runs ≡ Some run → IsOf run ended
    → over s number ended end ≡ end_of s (run_numbered number s.runs) end
over-made s number run ended end found of =
    ap (λ n. over s n ended end) (sym (numbered number s.runs run found))
    ∙ ap (λ seq. over s run.run (record { seq = seq; instance = ended.instance; renewed = ended.renewed }) end) (sym of.seq)
    ∙ ap (λ instance. over s run.run (record { seq = run.seq; instance = instance; renewed = ended.renewed }) end) (sym of.instance)
    ∙ ap (λ renewed. over s run.run (record { seq = run.seq; instance = run.instance; renewed = renewed }) end) (sym of.renewed)
    ∙ sym (ap (λ (one : Option Run). end_of s one end) found)

-- a run goes on
pub turn-made : (s : State) (number : ℕ) (progress : Option (List DataEntry)) (seq : ℕ) (works : List Record) (runs : List Run)
    → IsTurnOf s number progress seq → works ≡ changed_work (telling progress) seq s.works → runs ≡ with_turned number s.runs
    → record s { works = works; runs = runs } ≡ turn_of s (run_numbered number s.runs) progress
turn-made s number progress seq works runs of told turned =
    let run = of.legal.report.run in
    let own = sym (numbered number s.runs run of.legal.report.is_running) in
    ap (λ (ws : List Record). record s { works = ws; runs = runs }) (told ∙ ap (λ n. changed_work (telling progress) n s.works) (sym of.of))
    ∙ ap (λ (rs : List Run). record s { works = changed_work (telling progress) run.seq s.works; runs = rs })
    (turned ∙ ap (λ n. with_turned n s.runs) own)
    ∙ sym (ap (λ (one : Option Run). turn_of s one progress) of.legal.report.is_running)
