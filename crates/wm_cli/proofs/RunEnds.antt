-- What a run hands back, from what the calls below it handed back.
use Rattle.std.proofs.Common.{◌≡◌, ℕ, true, false, List, [], Option, Some, Vec, Global, sym, ◌∙◌, ap, subst, inl}
use Rattle.std.specs.List.{AllByRecursion}
use Rattle.wm_beginning.proofs.Images.{leaves-only, loaded-alone, unbegun-images}
use Rattle.wm_beginning.proofs.Overs.{IsRunOver-begun, IsRunOver-unbegun, IsRunOver-loaded}
use Rattle.wm_beginning.proofs.Unbegun.{early-done}
use Rattle.wm_beginning.proofs.Unread.{IsTextWritten-nothing}
use Rattle.wm_beginning.specs.Begun.{HasJustBegun, AreInputs}
use Rattle.wm_beginning.specs.Loading.{HasLoaded, MayBegin}
use Rattle.wm_beginning.specs.NotBegun.{IsNotBegun}
use Rattle.wm_beginning.specs.Over.{IsTableOver, IsRunOver}
use Rattle.wm_beginning.specs.declared.loading.Loaded.{Loaded}
use Rattle.wm_bench.specs.declared.hand.Hand.{Hand}
use Rattle.wm_cli.proofs.Hands.{AreBoxesBack-opened}
use Rattle.wm_cli.proofs.Opening.{HasCommands-nothing, BeginsSerial-nothing, IsSerialRun-early, IsSerialRun-unopened}
use Rattle.wm_cli.specs.Ended.{IsEndedAtOnce, IsRunEnd}
use Rattle.wm_cli.specs.Images.{RunImages}
use Rattle.wm_ended.specs.Ended.{IsSessionStatus, IsUnbegun}
use Rattle.wm_ended.specs.Tells.{Tells}
use Rattle.wm_ended.specs.declared.ended.Ended.{Ended}
use Rattle.wm_ended.specs.declared.not_begun.NotBegun.{NotBegun}
use Rattle.wm_ended.specs.declared.status.Status.{Status}
use Rattle.wm_ended.specs.declared.status.Status.TheVariants as status
use Rattle.wm_keeper.specs.Store.{told_before}
use Rattle.wm_keeper.specs.declared.row.Row.{Row}
use Rattle.wm_machine.specs.Opened.{Opened}
use Rattle.wm_machine.specs.Outcome.{IsAskable}
use Rattle.wm_machine.specs.Replay.{Replay}
use Rattle.wm_machine.specs.declared.command.Command.{Command}
use Rattle.wm_machine.specs.declared.state.State.{State}
use Rattle.wm_rows.specs.Sound.{AreSound}
use Rattle.wm_seating.proofs.Hands.{AreHandsBack-opened}
use Rattle.wm_seating.specs.Hands.{instances_from}
use Rattle.wm_session.specs.Ended.{HasCommands, IsBookEnd, IsSerialEnd, IsSerialRun}
use Rattle.wm_session.specs.Images.{EndImages}
use Rattle.wm_engine.specs.Inputs.{Inputs}
use Rattle.wm_engine.specs.TableState.{TableState}

-- ---- a run that ended at once

other_status : (ended other : Status) → ended ≡ status.Memory → (status.Memory ≡ other → ⊥) → ended ≡ other → ⊥
other_status ended other is differs same = differs (sym is ∙ same)

-- where a table has just begun with these workers, a run that ended for want of memory is a session that is over, and a serial one
pub IsEnd-at_once : {K W B : Type 0} (tells : Tells K W B) (run : Inputs) (hands : List (Hand B)) (table : TableState K) (sink : W)
    (back : Vec (Hand B) Global) (ended : Ended K W B)
    → IsEndedAtOnce table sink back ended → HasJustBegun tells.store run table → AllByRecursion IsAskable run.lines
    → run.instances ≡ instances_from tells.kind_of 0 hands → tells.given sink ≡ run.written → back.items ≡ hands
    → IsBookEnd tells run ended × IsSerialEnd tells run hands ended
IsEnd-at_once tells run hands table sink back ended at begun askable are written same =
    let opened : Opened run.rows run.instances ended.first = subst (Opened run.rows run.instances) (sym at.first) begun.opened in
    let none : ended.log ≡ [] = at.log ∙ begun.log in
    let last : ended.last ≡ ended.first = at.last ∙ begun.state ∙ sym at.first in
    let instances : ended.last.instances ≡ instances_from tells.kind_of 0 hands =
    ap (λ (s : State). s.instances) (last ∙ opened.state) ∙ are in
    let back_are : ended.hands.items ≡ hands = ap (λ v. v.items) at.hands_are ∙ same in
    let early : ended.status ≡ status.Done → ⊥ = other_status ended.status status.Done at.status_is (λ clash. absurd (cc)) in (
      record {
        session = record {
          status_is = subst IsSessionStatus (sym at.status_is) tt;
          began = at.began;
          at_opening = at.at_opening;
          opened = opened;
          replay = subst (λ log. Replay ended.first log ended.last) (sym none) last;
          commands = HasCommands-nothing run.lines ended.status ended.log none (λ done. absurd (early done));
          bytes = IsTextWritten-nothing run.written (tells.given ended.sink) ended.status ended.first ended.log
              (ap tells.given at.sink_is ∙ written) none;
          rows = rw (at.keeper_is, last, at.first) begun.rows;
          tells_on = rw at.keeper_is begun.tells_on;
          keeper_fault = λ is. absurd (other_status ended.status status.KeeperFault at.status_is (λ clash. absurd (cc)) is);
          sink_fault = λ is. absurd (other_status ended.status status.SinkFault at.status_is (λ clash. absurd (cc)) is);
          images = λ settled.
              rw (at.status_is, at.keeper_is, last, at.first) (λ image left. inl (begun.images settled image left));
        };
        quiet = λ done. absurd (early done);
        hands = AreHandsBack-opened tells.kind_of ended.last hands ended.hands.items instances back_are;
      },
      record {
        boxes = AreBoxesBack-opened tells.kind_of tells.diary_of ended.log ended.last hands ended.hands.items instances back_are;
        diaries = λ done. absurd (early done);
        serial = IsSerialRun-early run.lines ended.status ended.first ended.log ended.last early
            (BeginsSerial-nothing run.lines ended.first ended.log askable opened none);
      },
    )

-- ---- a run whose table was begun

-- what is over of the table of a book
over_of : {K W B : Type 0} (tells : Tells K W B) (run : Inputs) (ended : Ended K W B) → IsBookEnd tells run ended → IsTableOver tells run ended
over_of tells run ended over =
    let session = over.session in
    record {
      status_is = session.status_is;
      began = session.began;
      at_opening = session.at_opening;
      opened = session.opened;
      replay = session.replay;
      quiet = over.quiet;
      bytes = session.bytes;
      rows = session.rows;
      tells_on = session.tells_on;
      hands = over.hands;
      keeper_fault = session.keeper_fault;
      sink_fault = session.sink_fault;
    }

-- a session ends its run
pub IsRunEnd-begun : {K W B : Type 0} (tells : Tells K W B) (run : Inputs) (workers : ℕ) (loaded : Loaded K W B) (commands : List Command)
    (ended : Ended K W B)
    → IsBookEnd tells run ended → (workers ≡ 0 → IsSerialEnd tells run loaded.hands.items ended) → AreInputs tells run loaded commands
    → MayBegin tells.store tells.kind_of loaded → AreSound run.rows
    → IsRunEnd tells workers commands loaded.hands.items (tells.store loaded.keeper).name (Some run.rows) (Some run.rows) loaded.keeper loaded.sink ended
IsRunEnd-begun tells run workers loaded commands ended over serial inputs may sound =
    let session = over.session in
    let keeper = loaded.keeper in
    let lines : run.lines ≡ commands = sym inputs.lines_are in
    let instances = instances_from tells.kind_of 0 loaded.hands.items in
    record {
      over = IsRunOver-begun tells run loaded commands ended (over_of tells run ended over) inputs may sound;
      has_commands = subst (λ all. HasCommands all ended.status ended.log) lines session.commands;
      boxes = λ alone began. (serial alone).boxes;
      diaries = λ alone. (serial alone).diaries;
      serial = λ alone. subst (λ all. IsSerialRun all ended.status ended.first ended.log ended.last) lines (serial alone).serial;
      images = λ alone.
          subst
          (λ began. RunImages began ended.at_opening ended.status commands (Some run.rows) instances ended.last ended.log (tells.store ended.keeper))
          (sym session.began)
          (subst (λ all. EndImages ended.status all ended.last ended.log (tells.store ended.keeper)) lines
          (session.images (λ image left. leaves-only run.rows (tells.store keeper) alone image ((inputs.given.images image).1 left))));
    }

-- over rows that were loaded, it ends what the keeper was given for as it was before
pub IsRunEnd-loaded : {K W B : Type 0} (tells : Tells K W B) (workers : ℕ) (commands : List Command) (hands : List (Hand B)) (name : List ℕ)
    (rows : List Row) (keeper loaded : K) (sink : W) (ended : Ended K W B)
    → ended.began ≡ true → IsRunEnd tells workers commands hands (tells.store loaded).name (Some rows) (Some rows) loaded sink ended
    → HasLoaded name rows (tells.store keeper) (tells.store loaded)
    → IsRunEnd tells workers commands hands (Some name) (told_before (tells.store keeper).rows (tells.store ended.keeper).rows)
    (tells.store keeper).rows keeper sink ended
IsRunEnd-loaded tells workers commands hands name rows keeper loaded sink ended began is load =
    record {
      over = IsRunOver-loaded tells hands name rows keeper loaded sink ended is.over load;
      has_commands = is.has_commands;
      boxes = is.boxes;
      diaries = is.diaries;
      serial = is.serial;
      images = λ alone.
          rw began (rw began at (is.images (loaded-alone rows (tells.store keeper) (tells.store loaded) load.rows_are load.kept alone)));
    }

-- ---- a run whose table wasn't begun

pub IsRunEnd-unbegun : {K W B : Type 0} (tells : Tells K W B) (workers : ℕ) (commands : List Command) (hands : List (Hand B)) (name : Option (List ℕ))
    (keeper : K) (sink : W) (back : NotBegun K W B) (ended : Ended K W B)
    → IsUnbegun back.status back.at_opening back.keeper back.sink back.hands ended
    → IsNotBegun tells.store (instances_from tells.kind_of 0 hands) hands (told_before (tells.store keeper).rows (tells.store back.keeper).rows) keeper sink back
    → AllByRecursion IsAskable commands
    → IsRunEnd tells workers commands hands name (told_before (tells.store keeper).rows (tells.store ended.keeper).rows) (tells.store keeper).rows keeper sink
    ended
IsRunEnd-unbegun tells workers commands hands name keeper sink back ended unbegun is askable =
    let before = (tells.store keeper).rows in
    let held = told_before before (tells.store back.keeper).rows in
    let instances = instances_from tells.kind_of 0 hands in
    let early : ended.status ≡ status.Done → ⊥ =
    λ done. early-done back.status (tells.store keeper).faults (tells.store back.keeper).faults held is.cause (sym unbegun.status_is ∙ done) in
    record {
      over = subst (λ k. IsRunOver tells hands name (told_before before (tells.store k).rows) before keeper sink ended) (sym unbegun.keeper_is)
          (IsRunOver-unbegun tells hands name held before keeper sink back ended unbegun is);
      has_commands = HasCommands-nothing commands ended.status ended.log unbegun.log (λ done. absurd (early done));
      boxes = λ alone began. let clash : true ≡ false = sym began ∙ unbegun.began in absurd (cc);
      diaries = λ alone done. absurd (early done);
      serial = λ alone. IsSerialRun-unopened commands ended.status ended.first ended.log ended.last askable early unbegun.first unbegun.log;
      images = λ alone.
          rw (unbegun.began, unbegun.opening, unbegun.keeper_is)
          (unbegun-images back.at_opening back.status held instances (tells.store keeper) (tells.store back.keeper) is.at_opening alone);
    }
