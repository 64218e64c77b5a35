-- What a writer of JSON has after a piece of Data was written to it.
use Rattle.std.specs.Prelude.{◌≡◌, List, ◌++◌, Result, OnOk}
use Rattle.json.specs.Token.{Token}
use Rattle.json.specs.Tree.{json_tokens}
use Rattle.json.specs.Written.{Written}
use Rattle.serde_json.specs.Data as json
use Rattle.serde_json.specs.Written.{outline}

-- the tokens of a value that has no float
abbrev pub tokens_of : json.Data → List Token
tokens_of d = json_tokens (outline d)

-- the tokens stand after those that the writer had, and the bytes that it began with stay
pub record Appends {E : Type 0} (r : Result (Unit {0}) E) (old new : Written) (ts : List Token) : Type 0 where
  pub ok : OnOk r (new.tokens ≡ old.tokens ++ ts)
  pub before : new.before ≡ old.before
