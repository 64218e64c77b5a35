-- The verdict on the bytes of an audit.
use Rattle.std.specs.Prelude.{◌≡◌, ◌≢◌, ℕ, ◌+◌, ◌≤◌, List, ◌++◌, length, slice_get, take, Option, Some, None, MatchOption}
use Rattle.wm_audit.specs.Places.{joined, AreRight, IsEnd, IsRight}
use Rattle.wm_audit.specs.declared.place.Place.{Place}
use Rattle.wm_audit.specs.declared.place.Place.TheVariants as place
use Rattle.wm_audit.specs.declared.verdict.Verdict.{Verdict}
use Rattle.wm_audit.specs.declared.verdict.Verdict.TheVariants.{Sound, WrongLine, WrongText}
use Rattle.wm_audit_text.specs.Audits.{next_line, with_lf}
use Rattle.wm_machine.specs.declared.state.State.{State}

-- the lines before the rest of these bytes are right, the next one has this number, counted from 1, and stands here
pub record Reached (bytes rest : List ℕ) (number : ℕ) (here : Place) : Type 0 where
  pub lines : List (List ℕ)
  pub whole : bytes ≡ joined lines ++ rest
  pub number_is : number ≡ length lines + 1
  pub right : AreRight place.First lines here

-- every line is right: they lead to this state, with this text, and these bytes were given in its place
pub record AllRight (bytes : List ℕ) (last : State) (text given : List ℕ) : Type 0 where
  pub number : ℕ
  pub end : List ℕ
  pub reached : Reached bytes (with_lf end ++ given) number (place.Log last text)
  pub ends : IsEnd (place.Log last text) end given

-- no line stands there, or one that isn't right
abbrev pub IsWrongIn : Place → List ℕ → Type 0
IsWrongIn here rest =
    MatchOption (next_line rest) (Unit {0}) (λ cut. ((next : Place) → IsRight here cut.0 next → ⊥) × (IsEnd here cut.0 cut.1 → ⊥))

-- the lines before the one of this number are right, and it isn't, or is missing
pub record IsFirstWrong (bytes : List ℕ) (number : ℕ) : Type 0 where
  pub rest : List ℕ
  pub here : Place
  pub reached : Reached bytes rest number here
  pub wrong : IsWrongIn here rest

-- two texts differ first at this byte, counted from 0; the end of the shorter one counts
pub record DifferFirstAt (text given : List ℕ) (at : ℕ) : Type 0 where
  pub alike : take at text ≡ take at given
  pub within : (at ≤ length text) × (at ≤ length given)
  pub differ : slice_get text at ≢ slice_get given at

-- two texts are the same, or differ first there
abbrev pub AreCompared : List ℕ → List ℕ → Option ℕ → Type 0
AreCompared text given None = given ≡ text
AreCompared text given (Some at) = DifferFirstAt text given at

-- the verdict where every line is right, they lead to this place, and these bytes were given as the text
abbrev pub IsJudged : Place → List ℕ → Verdict → Type 0
IsJudged (place.Log last text) given (Sound now) = (now ≡ last) × (given ≡ text)
IsJudged (place.Log last text) given (WrongText at) = DifferFirstAt text given at
IsJudged _ given verdict = ⊥

-- Sound where every line is right and the text is that of the events; WrongLine at the first line that isn't right; WrongText where every line is
-- and the text differs
abbrev pub IsVerdict : List ℕ → Verdict → Type 0
IsVerdict bytes (Sound last) = (text : List ℕ) × AllRight bytes last text text
IsVerdict bytes (WrongLine number) = IsFirstWrong bytes number
IsVerdict bytes (WrongText at) = (last : State) × (text : List ℕ) × (given : List ℕ) × AllRight bytes last text given × DifferFirstAt text given at
