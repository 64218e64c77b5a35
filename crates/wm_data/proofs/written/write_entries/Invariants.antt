use Rattle.std.proofs.Common.{◌≡◌, ◌++◌, drop}
use Rattle.json.specs.Tree.{members_tokens}
use Rattle.serde_json.specs.Written.{members_outline}
use Rattle.wm_data.specs.DataJson.{data_json, entries_json}
use Rattle.wm_data.specs.Tokens.{tokens_of}
use Rattle.wm_data.proofs.written.write_entries.Given as goal

-- with what is left, it is the object
abbrev pub invariant-loop-entry : goal.invariant-loop-entry
invariant-loop-entry l =
    (l.writer.tokens ++ members_tokens (members_outline (entries_json (drop l.entry-index l.entries)))
    ≡ l.fn.writer.tokens ++ tokens_of (data_json l.entries))
    × (l.writer.before ≡ l.fn.writer.before)
