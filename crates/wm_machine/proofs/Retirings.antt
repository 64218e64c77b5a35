-- What is owed for a retire.
use Rattle.std.proofs.Common.{◌≡◌, ◌&&◌, ℕ, ◌+◌, ◌≤◌, Bool, true, false, not, cond, List, [], ◌∷◌, refl, sym, ◌∙◌, ap, subst, inl, inr}
use Rattle.std.specs.List.{AllByRecursion}
use Rattle.std.specs.Prelude.{count_by}
use Rattle.std.specs.Str.{bytes_eq}
use Rattle.std.proofs.lemmas.List.{length-map}
use Rattle.std.proofs.lemmas.Bool.{cases_Bool, cond-false, cond_both, true≢false}
use Rattle.wm_collections.proofs.Lists.{All-map, All-weaker, HasOne-map, none_pass}
use Rattle.wm_machine.proofs.Owed.{quiet_frame, IsAnswered, IsLinedIn-quiet}
use Rattle.wm_machine.specs.First.{is_idle, is_live}
use Rattle.wm_machine.specs.Frame.{untouched}
use Rattle.wm_machine.specs.Replied.{Outcome, unchanged}
use Rattle.wm_machine.specs.Retired.{made_retired, with_retired}
use Rattle.wm_machine.specs.Valid.{Valid, AreNumberedInOrder, IsInstanceOf, IsOutForRun}
use Rattle.wm_machine.specs.Types.{Instance, State}
use Rattle.wm_machine.specs.declared.command.Command.TheVariants as command
use Rattle.wm_machine.specs.declared.reply.Refusal.TheVariants.{NoSuchClass}
use Rattle.wm_machine.specs.declared.reply.Reply.TheVariants as reply

-- an instance, retired where it is of the class
abbrev pub retired_in : List ℕ → Instance → Instance
retired_in class instance = cond (bytes_eq instance.class class) (made_retired instance) instance

pub retired_both : (P : Instance → Type 0) (class : List ℕ) (instance : Instance) → P (made_retired instance) → P instance → P (retired_in class instance)
retired_both P class instance hit miss = cond_both (bytes_eq instance.class class) (made_retired instance) instance P (λ e. hit) (λ e. miss)

numbered-retired : (class : List ℕ) (first : ℕ) (instances : List Instance) → AreNumberedInOrder first instances
    → AreNumberedInOrder first (with_retired class instances)
numbered-retired class first [] ordered = tt
numbered-retired class first (instance ∷ instances) ordered = (
  retired_both (λ i. i.number ≡ first) class instance ordered.0 ordered.0,
  numbered-retired class (first + 1) instances ordered.1,
)

-- number and kind of an instance stay, and whether it is out
reached-retired : (s : State) (class : List ℕ) → Valid s → Valid (record s { instances = with_retired class s.instances })
reached-retired s class valid =
    record {
      works = valid.works;
      runs = record {
        running = valid.runs.running;
        each = All-weaker s.runs (λ run is. record {
          number = is.number;
          turn = is.turn;
          input = is.input;
          work = is.work;
          instance = HasOne-map _ (retired_in class) s.instances
              (λ i of. retired_both (IsInstanceOf run) class i (record { number = of.number; kind = of.kind }) of) is.instance;
        }) valid.runs.each;
        apart = valid.runs.apart;
      };
      instances = record {
        out = All-map _ (retired_in class) s.instances (λ i is. retired_both (IsOutForRun s.runs) class i is is) valid.instances.out;
        few = subst (λ n. n ≤ 10000) (sym (length-map s.instances (retired_in class))) valid.instances.few;
        numbered = numbered-retired class 0 s.instances valid.instances.numbered;
      };
      few_observers = valid.few_observers;
      now = valid.now;
    }

already : (retired : Bool) → not retired ≡ false → retired ≡ true
already true is = refl
already false is = absurd (true≢false is)

-- an instance of a class that isn't live is retired already
retired-same : (class : List ℕ) (instance : Instance) → (bytes_eq instance.class class && not instance.retired) ≡ false → retired_in class instance ≡ instance
retired-same class instance dead =
    elim (cases_Bool (bytes_eq instance.class class)) [
      | inl of ↦
          let is : instance.retired ≡ true = already instance.retired (sym (ap (λ b. b && not instance.retired) of) ∙ dead) in
          cond_both (bytes_eq instance.class class) (made_retired instance) instance (λ i. i ≡ instance)
          (λ e. ap (λ b. record instance { retired = b }) (sym is))
          (λ e. refl)
      | inr other ↦ cond-false (bytes_eq instance.class class) (made_retired instance) instance other
    ]

same_each : (class : List ℕ) (instances : List Instance)
    → AllByRecursion (λ instance. (bytes_eq instance.class class && not instance.retired) ≡ false) instances → with_retired class instances ≡ instances
same_each class [] dead = refl
same_each class (instance ∷ instances) dead =
    ap (λ i. i ∷ with_retired class instances) (retired-same class instance dead.0) ∙ ap (λ l. instance ∷ l) (same_each class instances dead.1)

-- where a class isn't live, retiring it changes nothing
pub retired-dead : (class : List ℕ) (instances : List Instance) → is_live instances class ≡ false → with_retired class instances ≡ instances
unfolding is_live
retired-dead class instances dead = same_each class instances (none_pass _ instances dead)

pub retire-answered : (s : State) (class : List ℕ) → IsAnswered s (command.Retire class)
retire-answered s class =
    let live = is_live s.instances class in
    let done : Outcome = record {
      reply = reply.Retired (count_by (is_idle class) s.instances);
      state = record s { instances = with_retired class s.instances };
    } in
    record {
      answered = λ rest. refl;
      reached = λ reached. cond_both live done (unchanged s (reply.Refused NoSuchClass)) (λ o. Valid o.state) (λ e. reached-retired s class reached)
          (λ e. reached);
      frame = IsLinedIn-quiet (command.Retire class) s _ (cond_both live done (unchanged s (reply.Refused NoSuchClass))
          (λ o. untouched o.state (command.Retire class ∷ []) ≡ quiet_frame s (command.Retire class)) (λ e. refl)
          (λ dead. ap (λ i. record (untouched s (command.Retire class ∷ [])) { instances = i }) (sym (retired-dead class s.instances dead))));
    }
