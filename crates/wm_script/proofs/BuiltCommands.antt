-- The commands of lines are askable.
use Rattle.std.proofs.Common.{ℕ, ◌^◌, ◌<◌, Bool, true, false, cond, List, [], ◌∷◌, map, Option, Some, None, IfSome, option_and_then, Result, Ok, Err, IfOk, rules}
use Rattle.std.specs.Prelude.{codes, nat_lt}
use Rattle.std.specs.List.{AllByRecursion}
use Rattle.std.specs.Map.{lookup}
use Rattle.std.specs.Str.{bytes_eq}
use Rattle.std.proofs.lemmas.Bool.{ltb-true}
use Rattle.serde_json.specs.Data as json
use Rattle.serde_json.specs.Find.{as_number, as_str, as_u64, get}
use Rattle.wm_collections.proofs.Options.{tested, then_any}
use Rattle.wm_machine.specs.Outcome.{IsAskable}
use Rattle.wm_machine.specs.declared.command.Command.{Command}
use Rattle.wm_machine.specs.declared.command.Command.TheVariants.{Enqueue}
use Rattle.wm_machine.specs.declared.command.UniqueName.{UniqueName}
use Rattle.wm_request.specs.Batches.{BatchFields}
use Rattle.wm_request.specs.Requests.{IsRequest, IsShortText}
use Rattle.wm_script.proofs.BuiltRequests.{IsAsked, IsAsked-batch_in, IsRequest-request_in, IsShortText-short_in}
use Rattle.wm_script.proofs.PartsLemmas.{bind_any, bind_holds, formed_holds}
use Rattle.wm_script.proofs.PartsLemmas.{tested as tested_ok}
use Rattle.wm_script.specs.Batches.{batch_in}
use Rattle.wm_script.specs.Lines.{asked_by, asked_in, command_of, commands_in, cut, enqueue_keys, enqueue_of, force_at, moment_of, one_key, or_faulty, prune_of, readers, update_of, value_of, whole_under}
use Rattle.wm_script.specs.Names.{named_by, policy_in}
use Rattle.wm_script.specs.Objects.{has_only}
use Rattle.wm_script.specs.Parts.{formed, ◌>>=◌}
use Rattle.wm_script.specs.Requests.{request_in}
use Rattle.wm_script.specs.Values.{short_in, whole_in}
use Rattle.wm_script.specs.declared.parts.Unread.{Unread}
use Rattle.wm_script.specs.declared.parts.Unread.TheVariants.{Form, Fault, Memory}

-- ---- an enqueue and an update

-- a name, where there is one, that a record may have
IsNamed : Option UniqueName → Type 0
IsNamed named = IfSome named (λ unique. IsShortText unique.name)

IsNamed-named_by : (name policy : Option json.Data) → IfOk (named_by name policy) IsNamed
unfolding named_by IsNamed
IsNamed-named_by None None = tt
IsNamed-named_by None (Some e) = tt
IsNamed-named_by (Some d) None = tt
IsNamed-named_by (Some d) (Some e) =
    bind_holds IsShortText IsNamed _ (formed (short_in d)) (formed_holds IsShortText (short_in d) (IsShortText-short_in d))
    (λ name short. bind_any IsNamed _ (formed (policy_in e)) (λ policy. short))

IsAskable-enqueue : (named : Option UniqueName) (batch : BatchFields) → IsNamed named → IsAsked batch → IsAskable (Enqueue named batch)
unfolding IsAsked IsNamed
IsAskable-enqueue None batch short asked = asked
IsAskable-enqueue (Some unique) batch short asked = record { asked = asked; name_is = short }

IsAskable-enqueue_of : (d : json.Data) → IfOk (enqueue_of d) IsAskable
unfolding enqueue_of
IsAskable-enqueue_of d =
    tested_ok IsAskable (has_only enqueue_keys d) _ (λ e.
    bind_holds IsNamed IsAskable _ (named_by (get (codes "name") d) (get (codes "policy") d))
    (IsNamed-named_by (get (codes "name") d) (get (codes "policy") d)) (λ named short.
    bind_holds IsAsked IsAskable _ (batch_in (get (codes "works") d) (get (codes "layers") d))
    (IsAsked-batch_in (get (codes "works") d) (get (codes "layers") d)) (λ batch asked. IsAskable-enqueue named batch short asked)))

IsAskable-update_of : (d : json.Data) → IfOk (update_of d) IsAskable
unfolding update_of
IsAskable-update_of d =
    bind_any IsAskable _ (formed (one_key (codes "work") d)) (λ work.
    bind_holds IsRequest IsAskable _ (request_in work) (IsRequest-request_in work) (λ request is. is))

-- ---- a prune

IsAskable-prune_of : (d : json.Data) → IfOk (prune_of d) IsAskable
unfolding prune_of
IsAskable-prune_of d =
    tested_ok IsAskable (has_only (codes "cmd" ∷ codes "force" ∷ []) d) _ (λ e. bind_any IsAskable _ (formed (force_at (get (codes "force") d))) (λ force. tt))

-- ---- a moment

IsMoment : ℕ → Type 0
IsMoment at = at < 2 ^ 53

IsMoment-whole_in : (d : json.Data) → IfSome (whole_in d) IsMoment
unfolding whole_in IsMoment
IsMoment-whole_in d =
    then_any IsMoment _ (as_number d) (λ number. then_any IsMoment _ (as_u64 number) (λ n. tested IsMoment (nat_lt n (2 ^ 53)) n (λ e. ltb-true n (2 ^ 53) e)))

IsMoment-whole_under : (key : List ℕ) (d : json.Data) → IfSome (whole_under key d) IsMoment
unfolding whole_under
IsMoment-whole_under key d = then_any IsMoment whole_in (one_key key d) IsMoment-whole_in

IsAskable-moment_of : (d : json.Data) → IfOk (moment_of d) IsAskable
unfolding IsMoment
IsAskable-moment_of d =
    bind_holds IsMoment IsAskable _ (formed (whole_under (codes "at") d))
    (formed_holds IsMoment (whole_under (codes "at") d) (IsMoment-whole_under (codes "at") d)) (λ at below. below)

-- ---- a line

-- what each reader answers is askable
AreBuilt : List (List ℕ × (json.Data → Result Command Unread)) → Type 0
AreBuilt table = AllByRecursion (λ reader. (d : json.Data) → IfOk (reader.1 d) IsAskable) table

AreBuilt-readers : AreBuilt readers
unfolding AreBuilt
AreBuilt-readers = search (rules, tested_ok, bind_any, IsAskable-moment_of, IsAskable-enqueue_of, IsAskable-prune_of, IsAskable-update_of)

found : (b : Bool) (reader : json.Data → Result Command Unread) (rest : Option (json.Data → Result Command Unread)) (d : json.Data)
    → IfOk (reader d) IsAskable → IfOk (formed rest >>= λ reader. reader d) IsAskable
    → IfOk (formed (cond b (Some reader) rest) >>= λ reader. reader d) IsAskable
found true reader rest d h k = h
found false reader rest d h k = k

IsAskable-lookup : (test : List ℕ → Bool) (table : List (List ℕ × (json.Data → Result Command Unread))) (d : json.Data) → AreBuilt table
    → IfOk (formed (lookup test table) >>= λ reader. reader d) IsAskable
unfolding AreBuilt
IsAskable-lookup test [] d askable = tt
IsAskable-lookup test (reader ∷ table) d askable = found (test reader.0) reader.1 (lookup test table) d (askable.0 d) (IsAskable-lookup test table d askable.1)

IsAskable-asked_by : (d : json.Data) → IfOk (asked_by d) IsAskable
unfolding asked_by
IsAskable-asked_by d =
    bind_any IsAskable _ (formed (option_and_then as_str (get (codes "cmd") d))) (λ name. IsAskable-lookup (bytes_eq name) readers d AreBuilt-readers)

IsAskable-or_faulty : (r : Result Command Unread) → IfOk r IsAskable → IsAskable (or_faulty r)
IsAskable-or_faulty (Ok command) h = h
IsAskable-or_faulty (Err Form) h = tt
IsAskable-or_faulty (Err (Fault found)) h = tt
IsAskable-or_faulty (Err Memory) h = tt

-- the command of a line is askable
pub IsAskable-command_of : (line : List ℕ) → IsAskable (command_of line)
unfolding command_of
IsAskable-command_of line = IsAskable-or_faulty (asked_in line) (bind_any IsAskable _ (formed (value_of line)) IsAskable-asked_by)

each_command : (lines : List (List ℕ)) → AllByRecursion IsAskable (map command_of lines)
each_command [] = tt
each_command (line ∷ lines) = (IsAskable-command_of line, each_command lines)

-- the commands of a script are all askable
pub IsAskable-commands_in : (bytes : List ℕ) → AllByRecursion IsAskable (commands_in bytes)
IsAskable-commands_in bytes = each_command (cut bytes)
