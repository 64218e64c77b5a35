-- The ids and the texts of the command of a line are read again.
use Rattle.std.proofs.Common.{ℕ, Bool, true, false, cond, List, [], ◌∷◌, Option, Some, None, IfSome, option_and_then, Result, Ok, Err}
use Rattle.std.specs.Prelude.{codes}
use Rattle.std.specs.List.{AllByRecursion}
use Rattle.std.specs.Map.{lookup}
use Rattle.std.specs.Option.{option_or}
use Rattle.std.specs.Str.{bytes_eq}
use Rattle.serde_json.specs.Data as json
use Rattle.serde_json.specs.Find.{as_str, get}
use Rattle.wm_collections.proofs.Options.{map_of, tested, then_any}
use Rattle.wm_machine.specs.declared.command.Command.{Command}
use Rattle.wm_machine.specs.declared.command.Command.TheVariants as command
use Rattle.wm_machine.specs.declared.command.Target.{Target}
use Rattle.wm_machine.specs.declared.command.Target.TheVariants.{All, Id, Name, Tag}
use Rattle.wm_machine.specs.declared.state.WorkQuery.{WorkQuery}
use Rattle.wm_request.specs.Requests.{IsShortText}
use Rattle.wm_script.proofs.BuiltRequests.{IsShortText-short_in}
use Rattle.wm_script.specs.Batches.{batch_in}
use Rattle.wm_script.specs.Conditions.{conditions_in}
use Rattle.wm_script.specs.Lines.{alone, asked_by, asked_in, by_id, by_name, by_tag, cancel_of, command_of, conditions_of, enqueue_keys, enqueue_of, force_at, id_under, is_of_all, moment_of, observe_of, one_key, or_faulty, prune_of, query_of, readers, retire_of, target_of, text_under, update_of, value_of, whole_under}
use Rattle.wm_script.specs.Names.{named_by, policy_in}
use Rattle.wm_script.specs.Objects.{has_only}
use Rattle.wm_script.specs.Parts.{◌>>=◌, formed, list_at}
use Rattle.wm_script.specs.Queries.{query_in, query_keys, state_in, state_part}
use Rattle.wm_script.specs.Requests.{request_in}
use Rattle.wm_script.specs.Values.{id_in, short_in, text_part}
use Rattle.wm_script.specs.declared.parts.Unread.{Unread}
use Rattle.wm_script.specs.declared.parts.Unread.TheVariants.{Form, Fault, Memory}
use Rattle.wm_spelling.proofs.GivenParts.{given-any, given-formed, given-list, given-tested, given-then, Any, IsGiven, IsOwnFault, IsOwnUnread}
use Rattle.wm_spelling.proofs.OwnBatches.{given-batch, given-ids, given-request, IsOwnBatch, IsOwnRequest}
use Rattle.wm_spelling.proofs.OwnIds.{IsOwnId, IsOwnId-id_in}

pub record IsOwnQuery (query : WorkQuery) : Type 0 where
  pub ids : AllByRecursion IsOwnId query.ids
  pub names : AllByRecursion IsShortText query.names
  pub tags : AllByRecursion IsShortText query.tags

unfoldable pub IsOwnTarget : Target → Type 0
IsOwnTarget (Id id) = IsOwnId id
IsOwnTarget (Tag tag) = IsShortText tag
IsOwnTarget (Name name) = IsShortText name
IsOwnTarget All = Unit {0}

unfoldable pub IsOwn : Command → Type 0
IsOwn (command.Enqueue named batch) = IsOwnBatch batch
IsOwn (command.Cancel target) = IsOwnTarget target
IsOwn (command.Update request) = IsOwnRequest request
IsOwn (command.Query query) = IsOwnQuery query
IsOwn (command.Observe query) = IsOwnQuery query
IsOwn (command.Retire class) = IsShortText class
IsOwn (command.Faulty fault) = IsOwnFault fault
IsOwn _ = Unit {0}

-- ---- an enqueue and an update

given-named : (name policy : Option json.Data) → IsGiven Any (named_by name policy)
unfolding named_by IsOwnUnread Any
given-named None None = tt
given-named None (Some e) = tt
given-named (Some d) None = tt
given-named (Some d) (Some e) =
    given-then Any Any _ (formed (short_in d)) (given-any (short_in d)) (λ name any.
    given-then Any Any _ (formed (policy_in e)) (given-any (policy_in e)) (λ policy any. tt))

given-enqueue_of : (d : json.Data) → IsGiven IsOwn (enqueue_of d)
unfolding enqueue_of IsOwn
given-enqueue_of d =
    given-tested IsOwn (has_only enqueue_keys d) _ (λ e.
    given-then Any IsOwn _ (named_by (get (codes "name") d) (get (codes "policy") d)) (given-named (get (codes "name") d) (get (codes "policy") d))
    (λ named any.
    given-then IsOwnBatch IsOwn _ (batch_in (get (codes "works") d) (get (codes "layers") d)) (given-batch (get (codes "works") d) (get (codes "layers") d))
    (λ batch own. own)))

given-update_of : (d : json.Data) → IsGiven IsOwn (update_of d)
unfolding update_of IsOwn
given-update_of d =
    given-then Any IsOwn _ (formed (one_key (codes "work") d)) (given-any (one_key (codes "work") d)) (λ work any.
    given-then IsOwnRequest IsOwn _ (request_in work) (given-request work) (λ request own. own))

-- ---- a cancel

either_one : (o other : Option Target) → IfSome o IsOwnTarget → IfSome other IsOwnTarget → IfSome (option_or o other) IsOwnTarget
either_one None other own others = others
either_one (Some target) other own others = own

IsOwnId-under : (key : List ℕ) (d : json.Data) → IfSome (id_under key d) IsOwnId
unfolding id_under
IsOwnId-under key d = then_any IsOwnId id_in (one_key key d) IsOwnId-id_in

IsShortText-under : (key : List ℕ) (d : json.Data) → IfSome (text_under key d) IsShortText
unfolding text_under
IsShortText-under key d = then_any IsShortText short_in (one_key key d) IsShortText-short_in

IsOwnTarget-target_of : (d : json.Data) → IfSome (target_of d) IsOwnTarget
unfolding target_of IsOwnTarget
IsOwnTarget-target_of d =
    either_one (by_id d) _ (map_of IsOwnId IsOwnTarget Id (id_under (codes "id") d) (IsOwnId-under (codes "id") d) (λ id own. own))
    (either_one (by_tag d) _ (map_of IsShortText IsOwnTarget Tag (text_under (codes "tag") d) (IsShortText-under (codes "tag") d) (λ tag short. short))
    (either_one (by_name d) _ (map_of IsShortText IsOwnTarget Name (text_under (codes "name") d) (IsShortText-under (codes "name") d) (λ name short. short))
    (tested IsOwnTarget (is_of_all d) All (λ e. tt))))

given-cancel_of : (d : json.Data) → IsGiven IsOwn (cancel_of d)
unfolding IsOwn
given-cancel_of d =
    given-then IsOwnTarget IsOwn _ (formed (target_of d)) (given-formed IsOwnTarget (target_of d) (IsOwnTarget-target_of d)) (λ target own. own)

-- ---- a query, an observe and a retire

given-texts : (value : Option json.Data) → IsGiven (AllByRecursion IsShortText) (list_at text_part value)
given-texts value = given-list IsShortText text_part (λ d. given-formed IsShortText (short_in d) (IsShortText-short_in d)) value

given-query_in : (d : json.Data) → IsGiven IsOwnQuery (query_in d)
unfolding query_in
given-query_in d =
    given-tested IsOwnQuery (has_only query_keys d) _ (λ e.
    given-then (AllByRecursion IsOwnId) IsOwnQuery _ _ (given-ids (get (codes "ids") d)) (λ ids own.
    given-then (AllByRecursion IsShortText) IsOwnQuery _ _ (given-texts (get (codes "names") d)) (λ names short.
    given-then (AllByRecursion Any) IsOwnQuery _ (list_at state_part (get (codes "states") d))
    (given-list Any state_part (λ f. given-any (state_in f)) (get (codes "states") d)) (λ states any.
    given-then (AllByRecursion IsShortText) IsOwnQuery _ _ (given-texts (get (codes "tags") d)) (λ tags shorts.
    record { ids = own; names = short; tags = shorts })))))

given-query_of : (d : json.Data) → IsGiven IsOwn (query_of d)
unfolding IsOwn
given-query_of d = given-then IsOwnQuery IsOwn _ (query_in d) (given-query_in d) (λ query own. own)

given-observe_of : (d : json.Data) → IsGiven IsOwn (observe_of d)
unfolding IsOwn
given-observe_of d = given-then IsOwnQuery IsOwn _ (query_in d) (given-query_in d) (λ query own. own)

given-retire_of : (d : json.Data) → IsGiven IsOwn (retire_of d)
unfolding IsOwn
given-retire_of d =
    given-then IsShortText IsOwn _ (formed (text_under (codes "class") d))
    (given-formed IsShortText (text_under (codes "class") d) (IsShortText-under (codes "class") d)) (λ class short. short)

-- ---- the others

given-alone : (asked : Command) (d : json.Data) → IsOwn asked → IsGiven IsOwn (alone asked d)
given-alone asked d own = given-tested IsOwn (has_only (codes "cmd" ∷ []) d) (Ok asked) (λ e. own)

given-moment_of : (d : json.Data) → IsGiven IsOwn (moment_of d)
unfolding IsOwn
given-moment_of d = given-then Any IsOwn _ (formed (whole_under (codes "at") d)) (given-any (whole_under (codes "at") d)) (λ at any. tt)

given-conditions_of : (d : json.Data) → IsGiven IsOwn (conditions_of d)
unfolding IsOwn
given-conditions_of d = given-then Any IsOwn _ (formed (conditions_in d)) (given-any (conditions_in d)) (λ conditions any. tt)

given-prune_of : (d : json.Data) → IsGiven IsOwn (prune_of d)
unfolding prune_of IsOwn
given-prune_of d =
    given-tested IsOwn (has_only (codes "cmd" ∷ codes "force" ∷ []) d) _ (λ e.
    given-then Any IsOwn _ (formed (force_at (get (codes "force") d))) (given-any (force_at (get (codes "force") d))) (λ force any. tt))

-- ---- a line

AreGivenBy : List (List ℕ × (json.Data → Result Command Unread)) → Type 0
AreGivenBy table = AllByRecursion (λ reader. (d : json.Data) → IsGiven IsOwn (reader.1 d)) table

AreGivenBy-readers : AreGivenBy readers
unfolding AreGivenBy IsOwn
AreGivenBy-readers = (
  given-enqueue_of,
  (
    given-cancel_of,
    (
      given-update_of,
      (
        given-moment_of,
        (
          given-conditions_of,
          (
            given-prune_of,
            (
              λ d. given-alone command.Settle d tt,
              (
                λ d. given-alone command.Hush d tt,
                (
                  λ d. given-alone command.Summary d tt,
                  (
                    given-query_of,
                    (
                      given-retire_of,
                      (
                        given-observe_of,
                        tt,
                      ),
                    ),
                  ),
                ),
              ),
            ),
          ),
        ),
      ),
    ),
  ),
)

given-found : (b : Bool) (reader : json.Data → Result Command Unread) (rest : Option (json.Data → Result Command Unread)) (d : json.Data)
    → IsGiven IsOwn (reader d) → IsGiven IsOwn (formed rest >>= λ reader. reader d)
    → IsGiven IsOwn (formed (cond b (Some reader) rest) >>= λ reader. reader d)
given-found true reader rest d h k = h
given-found false reader rest d h k = k

given-lookup : (test : List ℕ → Bool) (table : List (List ℕ × (json.Data → Result Command Unread))) (d : json.Data) → AreGivenBy table
    → IsGiven IsOwn (formed (lookup test table) >>= λ reader. reader d)
unfolding AreGivenBy IsOwnUnread
given-lookup test [] d all = tt
given-lookup test (reader ∷ table) d all =
    given-found (test reader.0) reader.1 (lookup test table) d (all.0 d) (given-lookup test table d all.1)

given-asked_by : (d : json.Data) → IsGiven IsOwn (asked_by d)
unfolding asked_by
given-asked_by d =
    let name_of = option_and_then as_str (get (codes "cmd") d) in
    given-then Any IsOwn _ (formed name_of) (given-any name_of) (λ name any. given-lookup (bytes_eq name) readers d AreGivenBy-readers)

own-or_faulty : (r : Result Command Unread) → IsGiven IsOwn r → IsOwn (or_faulty r)
unfolding IsOwn IsOwnFault IsOwnUnread
own-or_faulty (Ok asked) own = own
own-or_faulty (Err Form) own = tt
own-or_faulty (Err (Fault fault)) own = own
own-or_faulty (Err Memory) own = tt

pub IsOwn-command_of : (line : List ℕ) → IsOwn (command_of line)
unfolding command_of
IsOwn-command_of line =
    own-or_faulty (asked_in line) (given-then Any IsOwn _ (formed (value_of line)) (given-any (value_of line)) (λ d any. given-asked_by d))
