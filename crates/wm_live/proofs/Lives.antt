-- What a test driver made of its table, by what its stand went through.
use Rattle.std.proofs.Common.{◌≡◌, ◌⊎◌, ℕ, Bool, true, false, List, [], ◌∷◌, ◌++◌, Some, Result, Ok, Err, IfOk, length, ◌≤◌, refl, sym, ◌∙◌, ap, subst, inl, inr}
use Rattle.std.proofs.lemmas.List.{append-nil}
use Rattle.wm_asks.proofs.MetStarts.{met-starts}
use Rattle.wm_asks.specs.AskTexts.{answer_text}
use Rattle.wm_asks.specs.Parts.{BeginsPart}
use Rattle.wm_asks.specs.declared.ask.Ask.{Ask}
use Rattle.wm_asks.specs.declared.ask.LiveReply.{LiveReply}
use Rattle.wm_asks.specs.declared.ask.LiveReply.TheVariants as answer
use Rattle.wm_bench.specs.declared.place.Place.{Place}
use Rattle.wm_keeper.specs.Store.{Store}
use Rattle.wm_live.proofs.DrainFronts.{begins-answer, begins-command, begins-drain, begins-nothing, goes-nothing}
use Rattle.wm_live.specs.Asking.{Came}
use Rattle.wm_live.specs.Drained.{HasGoneOn, HasNotBegun, HasStopped, IsCutShort, IsExecuted}
use Rattle.wm_live.specs.Live.{IsAnswered, IsAskedAndAnswered, IsEndOf, IsInterrupted, IsOpenedInTrouble}
use Rattle.wm_live.specs.StandState.{StandState}
use Rattle.wm_live.specs.declared.live.LiveEnd.{LiveEnd}
use Rattle.wm_machine.specs.Outcome.{IsLegalLine}
use Rattle.wm_machine.specs.Quiet.{IsQuiet}
use Rattle.wm_machine.specs.Valid.{Valid}
use Rattle.wm_machine.specs.declared.command.Command.{Command}
use Rattle.wm_machine.specs.declared.event.Event.{Event}
use Rattle.wm_machine.specs.declared.event.Event.TheVariants as event
use Rattle.wm_machine.specs.declared.reply.Reply.{Reply}
use Rattle.wm_machine.specs.declared.state.State.{State}
use Rattle.wm_engine.specs.TableState.{TableState}
use Rattle.wm_engine.specs.declared.trouble.Trouble.{Trouble}
use Rattle.wm_texts.specs.Texts.{log_text}
use Rattle.wm_worker.specs.declared.kind.Kind.{Kind}

-- ---- the opening

module _ {K B : Type 0} (kind_of : B → Kind) (table : TableState K) (places : List (Place B)) (new : StandState K B) (empty : table.log ≡ []) where
  abbrev fresh : StandState K B
  fresh = record { table = table; places = places; text = [] }

  pub is_in_trouble : (store : K → Store) (trouble : Trouble) (end : LiveEnd K B) → HasStopped kind_of trouble fresh new → IsEndOf store (Some trouble) new end
      → Valid end.table.last → IsOpenedInTrouble store table end
  is_in_trouble store trouble end stopped is valid =
      let log : end.table.log ≡ stopped.events = is.log ∙ stopped.appended ∙ ap (λ (log : List Event). log ++ stopped.events) empty in
      let text : end.text.items ≡ stopped.more = is.text ∙ stopped.text in
      record {
        trouble = trouble;
        trouble_is = is.trouble_is;
        first = is.first ∙ stopped.first;
        replay = is.replay;
        rows = is.rows;
        begins = rw log (begins-drain table.state new.table.state stopped.events stopped.goes (subst Valid is.last valid) stopped.few_runs);
        told = rw (log, text) stopped.told;
      }

-- ---- a command

-- for a reply nothing is written beside its event
no_text : (line : ℕ) (reply : Reply) (hushed : Bool) → answer_text line (answer.Did reply) hushed ≡ []
no_text line reply true = refl
no_text line reply false = refl

pub is_answered : {K B : Type 0} (kind_of : B → Kind) (line : ℕ) (asked : Command) (reply : Reply) (old new : StandState K B)
    → IsExecuted kind_of line asked reply old new → IsAnswered line (Ok asked) (answer.Did reply) old new
is_answered kind_of line asked reply old new done =
    let events = event.Command line asked reply ∷ done.drain in
    record {
      events = events;
      first = done.first;
      appended = done.appended;
      part = record { drain = done.drain; events_are = refl; legal = done.legal; drained = done.drained };
      text = done.text
          ∙ ap (λ (more : List ℕ). old.text ++ more) (sym (append-nil (log_text old.table.state events)))
          ∙ ap (λ (more : List ℕ). old.text ++ (log_text old.table.state events ++ more)) (sym (no_text line reply new.table.state.hushed));
    }

begins-cut : (s : State) (line : ℕ) (asked : Command) (events : List Event) (now : State) → Valid s → IsQuiet s → IsLegalLine s asked
    → Valid now → length now.runs ≤ 1 → HasNotBegun s events now ⊎ HasGoneOn s line asked events now → BeginsPart s line (Ok asked) events
begins-cut s line asked events now valid quiet may reached few (inl not) =
    subst (BeginsPart s line (Ok asked)) (sym not.none) (begins-nothing s line asked valid quiet may)
begins-cut s line asked events now valid quiet may reached few (inr on) =
    subst (BeginsPart s line (Ok asked)) (sym on.events_are) (begins-command s line asked on.reply on.drain now on.legal on.goes reached few)

pub is_interrupted : {K B : Type 0} (store : K → Store) (line : ℕ) (asked : Command) (trouble : Trouble) (old new : StandState K B) (end : LiveEnd K B)
    → Valid old.table.state → IsQuiet old.table.state → IsLegalLine old.table.state asked → IsCutShort line asked trouble old new
    → IsEndOf store (Some trouble) new end → Valid end.table.last → IsInterrupted store line (Ok asked) old end
is_interrupted store line asked trouble old new end valid quiet may cut is reached = record {
  events = cut.events;
  ended = record {
    trouble = trouble;
    more = cut.more;
    trouble_is = is.trouble_is;
    first = is.first ∙ cut.first;
    appended = is.log ∙ cut.appended;
    replay = is.replay;
    rows = is.rows;
    text = is.text ∙ cut.text;
    told = cut.told;
  };
  begins = begins-cut old.table.state line asked cut.events new.table.state valid quiet may (subst Valid is.last reached) cut.few_runs cut.goes;
}

-- ---- an answer without a command

pub is_told : {K B : Type 0} (line : ℕ) (told : LiveReply) (old new : StandState K B) → IsQuiet old.table.state → new.table ≡ old.table
    → new.text ≡ old.text ++ answer_text line told old.table.state.hushed → IsAnswered line (Err told) told old new
is_told line told old new quiet same text = record {
  events = [];
  first = ap (λ (t : TableState _). t.first) same;
  appended = ap (λ (t : TableState _). t.log) same ∙ sym (append-nil old.table.log);
  part = rw same (refl, record { goes = goes-nothing old.table.state; quiet = quiet });
  text = rw same text;
}

pub is_untold : {K B : Type 0} (store : K → Store) (line : ℕ) (told : LiveReply) (trouble : Trouble) (old : StandState K B) (end : LiveEnd K B)
    → IsQuiet old.table.state → IsEndOf store (Some trouble) old end → IsInterrupted store line (Err told) old end
is_untold store line told trouble old end quiet is = record {
  events = [];
  ended = record {
    trouble = trouble;
    more = [];
    trouble_is = is.trouble_is;
    first = is.first;
    appended = is.log ∙ sym (append-nil old.table.log);
    replay = is.replay;
    rows = is.rows;
    text = is.text ∙ sym (append-nil old.text);
    told = record { told = []; untold = []; events_are = refl; few = tt; text_is = refl };
  };
  begins = begins-answer old.table.state line told quiet;
}

-- ---- an ask

-- it was answered, and what it met starts
pub is_asked : {K B : Type 0} (line : ℕ) (asked : Ask) (before now : List ℕ) (come : Result Command LiveReply) (given : LiveReply) (old new : StandState K B)
    → Valid old.table.state → IsQuiet old.table.state → Came old.table.state asked before now come → IsAnswered line come given old new
    → IsAskedAndAnswered line asked before now given old new
is_asked line asked before now come given old new valid quiet came answered = record {
  come = come;
  came = came;
  answered = answered;
  starts = met-starts old.table.state line asked came.told come given answered.events new.table.state valid quiet came.comes answered.part;
}

pub if_answered : {A E : Type 0} {P Q : A → Type 0} (answer : Result A E) → ((a : A) → P a → Q a) → IfOk answer P → IfOk answer Q
if_answered (Ok a) more holds = more a holds
if_answered (Err e) more holds = tt
