-- Asks that were answered, one after another.
use Rattle.std.proofs.Common.{◌≡◌, ℕ, ◌+◌, ◌≤◌, List, [], ◌∷◌, ◌++◌, length, length-append, Result, Ok, Err, IfErr, IsErrAnd, refl, sym, ◌∙◌, ap, subst, arith}
use Rattle.wm_asks.specs.Asked.{ComesTo}
use Rattle.wm_asks.specs.declared.ask.Ask.{Ask}
use Rattle.wm_asks.specs.declared.ask.Ask.TheVariants as ask
use Rattle.wm_asks.specs.declared.ask.LiveReply.{LiveReply}
use Rattle.wm_live.specs.Asking.{Came}
use Rattle.wm_live.specs.Live.{IsAskedAndAnswered}
use Rattle.wm_live.specs.StandState.{StandState}
use Rattle.wm_live_program.specs.Answered.{AreAnswered}
use Rattle.wm_machine.specs.declared.command.Command.{Command}
use Rattle.wm_machine.specs.declared.state.State.{State}

-- one more
pub answered-more : {K B : Type 0} (line : ℕ) (asks : List Ask) (asked : Ask) (given : LiveReply) (before told now : List ℕ) (old between new : StandState K B)
    → AreAnswered line asks before told old between → IsAskedAndAnswered (line + length asks) asked told now given between new
    → AreAnswered line (asks ++ asked ∷ []) before now old new
answered-more line [] asked given before told now old between new (same_answers, same) its = (
  given,
  now,
  new,
  subst (λ n. IsAskedAndAnswered n asked before now given old new) (omega arith)
      (subst (λ (s : StandState _ _). IsAskedAndAnswered (line + 0) asked before now given s new) same
      (subst (λ (t : List ℕ). IsAskedAndAnswered (line + 0) asked t now given between new) same_answers its)),
  (refl, refl),
)
answered-more line (first ∷ asks) asked given before told now old between new (its_given, its_told, its_new, one, more) its = (
  its_given,
  its_told,
  its_new,
  one,
  answered-more (line + 1) asks asked given its_told told now its_new between new more
      (subst (λ n. IsAskedAndAnswered n asked told now given between new) (omega arith) its),
)

-- the first state stays
pub first-answered : {K B : Type 0} (line : ℕ) (asks : List Ask) (before now : List ℕ) (old new : StandState K B) → AreAnswered line asks before now old new
    → new.table.first ≡ old.table.first
first-answered line [] before now old new answered = ap (λ (s : StandState _ _). s.table.first) answered.1
first-answered line (first ∷ asks) before now old new (its_given, told, between, one, more) =
    first-answered (line + 1) asks told now between new more ∙ one.answered.first

-- a clock is read at most once for an ask
read-once : (s : State) (asked : Ask) (told : List ℕ) (come : Result Command LiveReply) → ComesTo s asked told come → length told ≤ 1
read-once s (ask.Line command) told come comes = let none : length told ≡ 0 = ap length comes.0 in omega (arith, none)
read-once s (ask.DelayMet id) told come comes = let none : length told ≡ 0 = ap length comes.0 in omega (arith, none)
read-once s (ask.PeriodMet id) told come comes = let none : length told ≡ 0 = ap length comes.0 in omega (arith, none)
read-once s (ask.ConstraintsMet id) told come comes = let none : length told ≡ 0 = ap length comes.0 in omega (arith, none)
read-once s ask.Tick told come comes = let one : length told ≡ 1 = ap length comes.1.0 in omega (arith, one)
read-once s ask.Wake told come comes = let none : length told ≡ 0 = ap length comes.0 in omega (arith, none)

pub read-more : (s : State) (asked : Ask) (before now : List ℕ) (come : Result Command LiveReply) → Came s asked before now come
    → length now ≤ length before + 1
read-more s asked before now come came =
    let once : length came.told ≤ 1 = read-once s asked came.told come came.comes in
    let are : length now ≡ length before + length came.told = ap length came.answers ∙ length-append before came.told in
    omega (arith, once, are)

-- what holds of what was refused holds of the answer that hands it on
pub if_handed_on : {A E : Type 0} (P : E → Type 0) (answer : Result A E) (refused : E) → IsErrAnd answer (λ e. e ≡ refused) → P refused → IfErr answer P
if_handed_on P (Ok a) refused is holds = tt
if_handed_on P (Err e) refused is holds = subst P (sym is) holds
