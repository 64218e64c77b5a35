-- The unique name of an enqueue, with what is done where it is taken. The names of the policies are those of `androidx.work.ExistingWorkPolicy`
-- and `ExistingPeriodicWorkPolicy`; the grammar is this project's own choice.
use Rattle.std.specs.Prelude.{ℕ, List, [], ◌∷◌, codes, Option, Some, None, Result, Ok, Err}
use Rattle.serde_json.specs.Data as json
use Rattle.wm_machine.specs.declared.command.Policy.{Policy}
use Rattle.wm_machine.specs.declared.command.Policy.TheVariants as policy
use Rattle.wm_machine.specs.declared.command.UniqueName.{UniqueName}
use Rattle.wm_script.specs.Parts.{◌>>=◌, formed}
use Rattle.wm_script.specs.Values.{named_in, short_in}
use Rattle.wm_script.specs.declared.parts.Unread.{Unread}
use Rattle.wm_script.specs.declared.parts.Unread.TheVariants.{Form}

abbrev pub policies : List (List ℕ × Policy)
policies =
    (codes "KEEP", policy.Keep) ∷
    (codes "REPLACE", policy.Replace) ∷
    (codes "APPEND", policy.Append) ∷
    (codes "APPEND_OR_REPLACE", policy.AppendOrReplace) ∷
    (codes "CANCEL_AND_REENQUEUE", policy.CancelAndReenqueue) ∷
    (codes "UPDATE", policy.Update) ∷ []

-- a policy by its name
unfoldable pub policy_in : json.Data → Option Policy
policy_in d = named_in policies d

-- a name of 1 to 200 bytes with its policy; neither stands without the other
unfoldable pub named_by : Option json.Data → Option json.Data → Result (Option UniqueName) Unread
named_by None None = Ok None
named_by (Some d) (Some e) = do
  name ← formed (short_in d)
  policy ← formed (policy_in e)
  Ok (Some (record { name = name; policy = policy }))
named_by _ _ = Err Form
