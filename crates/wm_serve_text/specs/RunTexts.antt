-- What a session writes of its runs unasked. This project's own.
use Rattle.std.specs.Prelude.{ℕ, true, false, List, codes, Option, Some, None}
use Rattle.serde_json.specs.Data as json
use Rattle.wm_data.specs.DataJson.{data_json}
use Rattle.wm_machine.specs.declared.event.Cause.{Cause}
use Rattle.wm_machine.specs.declared.event.Cause.TheVariants as cause
use Rattle.wm_machine.specs.declared.record.Record.{Record}
use Rattle.wm_machine.specs.declared.record.Shown.{Shown}
use Rattle.wm_machine.specs.declared.state.Run.{Run}
use Rattle.wm_serve_text.specs.Answers.{line_text}
use Rattle.wm_texts.specs.Texts.{count, id_text, state_name, texts}

-- ---- a run begins

-- by its name, what it took, the record of its work, and how many instances of its class stand before its own
abbrev pub start_json : List ℕ → Run → Record → ℕ → json.Data
start_json name run work slot = json.object
    (json.member (codes "attempt") (count run.attempt)
    (json.member (codes "class") (json.string work.request.class)
    (json.member (codes "generation") (count work.generation)
    (json.member (codes "id") (id_text work.request.id)
    (json.member (codes "input") (data_json run.input)
    (json.member (codes "run") (json.string name)
    (json.member (codes "seq") (count run.seq)
    (json.member (codes "slot") (count slot)
    (json.member (codes "start") (json.boolean true)
    (json.member (codes "tags") (texts work.request.tags) json.no_members))))))))))

abbrev pub start_text : List ℕ → Run → Record → ℕ → List ℕ
start_text name run work slot = line_text (start_json name run work slot)

-- ---- a work can't start

-- by its id, its number and the cause
abbrev pub failed_start_json : List ℕ → ℕ → Cause → json.Data
failed_start_json id seq cause.NoWorker = json.object
    (json.member (codes "cause") (json.string (codes "NoWorker"))
    (json.member (codes "id") (id_text id)
    (json.member (codes "seq") (count seq)
    (json.member (codes "start") (json.boolean false) json.no_members))))
failed_start_json id seq (cause.Conflict key) = json.object
    (json.member (codes "cause") (json.string (codes "Conflict"))
    (json.member (codes "id") (id_text id)
    (json.member (codes "key") (json.string key)
    (json.member (codes "seq") (count seq)
    (json.member (codes "start") (json.boolean false) json.no_members)))))
failed_start_json id seq (cause.TooLarge size) = json.object
    (json.member (codes "cause") (json.string (codes "TooLarge"))
    (json.member (codes "id") (id_text id)
    (json.member (codes "seq") (count seq)
    (json.member (codes "size") (count size)
    (json.member (codes "start") (json.boolean false) json.no_members)))))

abbrev pub failed_start_text : List ℕ → ℕ → Cause → List ℕ
failed_start_text id seq why = line_text (failed_start_json id seq why)

-- ---- a run is to stop

abbrev pub stop_member : List ℕ → json.Members
stop_member name = json.member (codes "stop") (json.string name) json.no_members

-- with the state that is shown of its work, where that is there
abbrev pub stop_json : List ℕ → Option Shown → json.Data
stop_json name None = json.object (stop_member name)
stop_json name (Some state) = json.object (json.member (codes "state") (json.string (state_name state)) (stop_member name))

abbrev pub stop_text : List ℕ → Option Shown → List ℕ
stop_text name state = line_text (stop_json name state)

-- ---- the lease of a run is over

abbrev pub expired_json : List ℕ → json.Data
expired_json name = json.object (json.member (codes "expired") (json.string name) json.no_members)

abbrev pub expired_text : List ℕ → List ℕ
expired_text name = line_text (expired_json name)
