-- The numbers of the classes that have no room are those that are listed.
use Rattle.std.proofs.Common.{◌≡◌, ℕ, ◌+◌, ◌<◌, ◌&&◌, ◌||◌, Bool, true, false, not, cond, eqb, List, [], ◌∷◌, ◌++◌, get_or, length, map, take, is_some, refl, sym, ◌∙◌, ap, subst, arith, inl, inr}
use Rattle.std.specs.List.{list_any, position_or_len}
use Rattle.std.specs.Str.{bytes_eq}
use Rattle.std.proofs.lemmas.Bool.{cases_Bool, cond_both, eq-eqb, false≢true, ne_eqb, or_left, or_parts, or_right}
use Rattle.std.proofs.lemmas.List.{append-nil, length-take-le, take_more}
use Rattle.std.proofs.lemmas.Slice.Eq.{bytes_eq-Decides}
use Rattle.std.proofs.lemmas.List.Folds.{list_any-append}
use Rattle.wm_collections.proofs.Lists.{All-append, All-map, All-weaker, list_any-false}
use Rattle.wm_collections.specs.Lists.{is_among}
use Rattle.wm_machine.specs.First.{has_room, idle_instance, is_live}
use Rattle.wm_machine.specs.Retired.{made_retired}
use Rattle.wm_machine.specs.Runs.{made_out}
use Rattle.wm_machine.specs.declared.state.Instance.{Instance}
use Rattle.wm_machine.specs.declared.state.State.{State}
use Rattle.wm_changes.specs.StepChanges.{changed_state, instances_by, moves_instance, retired_by, retires, touches_instances}
use Rattle.wm_changes.specs.declared.change.RunChange.{RunChange}
use Rattle.wm_changes.specs.declared.change.RunChange.TheVariants.{Unchanged, Begin, Turn, End, Stop, Renew}
use Rattle.wm_changes.specs.declared.change.SettingChange.{SettingChange}
use Rattle.wm_changes.specs.declared.change.SettingChange.TheVariants as set
use Rattle.wm_changes.specs.declared.change.StepChange.{StepChange}
use Rattle.wm_steps.specs.Readied.{busy_from, class_number, AreBusy, AreNamed}

-- a class that no instance has isn't live, so its works needn't wait
unnamed-room : (names : List (List ℕ)) (class : List ℕ) (instances : List Instance) → AreNamed names instances
    → list_any (λ name. bytes_eq name class) names ≡ false → has_room instances class ≡ true
unfolding is_live
unnamed-room names class instances named none =
    let apart = All-weaker instances (λ instance is. elim (cases_Bool (bytes_eq instance.class class)) as (λ _. (bytes_eq instance.class class && not instance.retired) ≡ false) [
      | inl same ↦ absurd (false≢true (sym none ∙ subst (λ (c : List ℕ). list_any (λ name. bytes_eq name c) names ≡ true) ((bytes_eq-Decides instance.class class).0 same) is))
      | inr other ↦ rw other refl
    ]) named in
    let dead = list_any-false (λ (instance : Instance). bytes_eq instance.class class && not instance.retired) instances apart in
    ap (λ b. is_some (idle_instance instances class) || not b) dead ∙ or-true (is_some (idle_instance instances class)) where
      or-true : (b : Bool) → (b || true) ≡ true
      or-true true = refl
      or-true false = refl

-- those that are listed have numbers from the first one on
listed-from : (number least : ℕ) (instances : List Instance) (names : List (List ℕ)) → least < number → is_among (busy_from number instances names) least ≡ false
listed-from number least instances [] below = refl
listed-from number least instances (name ∷ names) below =
    let rest = listed-from (number + 1) least instances names (omega (arith, below)) in
    cond_both (has_room instances name) (busy_from (number + 1) instances names) (number ∷ busy_from (number + 1) instances names)
    (λ (found : List ℕ). is_among found least ≡ false) (λ e. rest) (λ e. let miss = ne_eqb number least (λ e. absurd (omega (arith, below, e))) in rw miss rest)

listed-is : (number : ℕ) (class : List ℕ) (instances : List Instance) (names : List (List ℕ))
    → is_among (busy_from number instances names) (number + position_or_len (λ name. bytes_eq name class) names)
    ≡ (list_any (λ name. bytes_eq name class) names && not (has_room instances class))
listed-is number class instances [] = refl
listed-is number class instances (name ∷ names) =
    elim (cases_Bool (bytes_eq name class)) as (λ _. is_among (busy_from number instances (name ∷ names)) (number + position_or_len (λ name. bytes_eq name class) (name ∷ names))
    ≡ (list_any (λ name. bytes_eq name class) (name ∷ names) && not (has_room instances class))) [
      | inl here ↦
          (let same : name ≡ class = (bytes_eq-Decides name class).0 here in
          let zero-more : number + 0 ≡ number = omega arith in
          rw (here, zero-more) (subst (λ (c : List ℕ). is_among (busy_from number instances (name ∷ names)) number ≡ not (has_room instances c)) same
          (cond_both (has_room instances name) (busy_from (number + 1) instances names) (number ∷ busy_from (number + 1) instances names)
          (λ (found : List ℕ). is_among found number ≡ not (has_room instances name))
          (λ e. listed-from (number + 1) number instances names (omega arith) ∙ sym (ap not e))
          (λ e. let hit = eq-eqb number number refl in rw hit (sym (ap not e))))))
      | inr other ↦
          (let n = position_or_len (λ name. bytes_eq name class) names in
          let next : number + (1 + n) ≡ number + 1 + n = omega arith in
          let rest = listed-is (number + 1) class instances names in
          rw (other, next) (cond_both (has_room instances name) (busy_from (number + 1) instances names) (number ∷ busy_from (number + 1) instances names)
          (λ (found : List ℕ). is_among found (number + 1 + n) ≡ (list_any (λ name. bytes_eq name class) names && not (has_room instances class)))
          (λ e. rest) (λ e. let miss = ne_eqb number (number + 1 + n) (λ e. absurd (omega (arith, e))) in rw miss rest)))
    ]

pub listed-busy : (instances : List Instance) (names : List (List ℕ)) → AreNamed names instances → AreBusy names instances (busy_from 0 instances names)
listed-busy instances names named class =
    ap (is_among (busy_from 0 instances names)) (nothing-more (class_number names class)) ∙ listed-is 0 class instances names
    ∙ decide (list_any (λ name. bytes_eq name class) names) (has_room instances class) (λ none. unnamed-room names class instances named none) where
      nothing-more : (n : ℕ) → n ≡ 0 + n
      nothing-more n = omega arith

      decide : (is_named room : Bool) → (is_named ≡ false → room ≡ true) → (is_named && not room) ≡ not room
      decide true room free = refl
      decide false room free = let is = free refl in rw is refl

-- one class more
pub busy-more : (number : ℕ) (instances : List Instance) (names : List (List ℕ)) (class : List ℕ)
    → busy_from number instances (names ++ class ∷ []) ≡ busy_from number instances names ++ busy_from (number + length names) instances (class ∷ [])
busy-more number instances [] class = let same : number + 0 ≡ number = omega arith in rw same refl
busy-more number instances (name ∷ names) class =
    let next : number + length (name ∷ names) ≡ number + 1 + length names = omega arith in
    let rest = busy-more (number + 1) instances names class in
    elim (cases_Bool (has_room instances name)) as (λ _. busy_from number instances (name ∷ names ++ class ∷ [])
    ≡ busy_from number instances (name ∷ names) ++ busy_from (number + length (name ∷ names)) instances (class ∷ [])) [
      | inl e ↦ rw (e, next) rest
      | inr e ↦ rw (e, next) (ap (λ found. number ∷ found) rest)
    ]

-- the numbers that are listed, once one class more is looked at
pub busy-step : (instances : List Instance) (names : List (List ℕ)) (i : ℕ) (class : List ℕ) (number : ℕ) (busy new : List ℕ) (room : Bool) → i < length names
    → class ≡ get_or names i class → number ≡ i → busy ≡ busy_from 0 instances (take i names) → room ≡ has_room instances class
    → new ≡ cond room busy (busy ++ number ∷ []) → new ≡ busy_from 0 instances (take (i + 1) names)
busy-step instances names i class number busy new room within is here are room_is new_is =
    let taken : take (i + 1) names ≡ take i names ++ class ∷ [] = take_more names i class within ∙ ap (λ one. take i names ++ one ∷ []) (sym is) in
    let count : 0 + length (take i names) ≡ number = omega (arith, length-take-le i names (omega (arith, within)), here) in
    new_is ∙ ap (λ (before : List ℕ). cond room before (before ++ number ∷ [])) are ∙ ap (λ b. cond b (busy_from 0 instances (take i names)) (busy_from 0 instances (take i names) ++ number ∷ [])) room_is
    ∙ one-more (has_room instances class) (busy_from 0 instances (take i names)) number
    ∙ ap (λ n. busy_from 0 instances (take i names) ++ busy_from n instances (class ∷ [])) (sym count)
    ∙ sym (ap (busy_from 0 instances) taken ∙ busy-more 0 instances (take i names) class) where
      one-more : (room : Bool) (before : List ℕ) (n : ℕ) → cond room before (before ++ n ∷ []) ≡ before ++ cond room [] (n ∷ [])
      one-more true before n = sym (append-nil before)
      one-more false before n = refl

-- ---- the classes of instances

has-itself : (names : List (List ℕ)) (class : List ℕ) → list_any (λ name. bytes_eq name class) (names ++ class ∷ []) ≡ true
has-itself names class =
    list_any-append (λ name. bytes_eq name class) names (class ∷ [])
    ∙ or_right (list_any (λ name. bytes_eq name class) names) _ (or_left _ false ((bytes_eq-Decides class class).1 refl))

named-wider : (names more : List (List ℕ)) (instances : List Instance) → AreNamed names instances → AreNamed (names ++ more) instances
named-wider names more instances named =
    All-weaker instances (λ instance is. list_any-append (λ name. bytes_eq name instance.class) names more ∙ or_left _ _ is) named

pub named-more : (names : List (List ℕ)) (instances : List Instance) (i : ℕ) (instance : Instance) → i < length instances → instance ≡ get_or instances i instance
    → AreNamed names (take i instances) → list_any (λ name. bytes_eq name instance.class) names ≡ true → AreNamed names (take (i + 1) instances)
named-more names instances i instance within is named here =
    subst (AreNamed names) (sym (take_more instances i instance within ∙ ap (λ one. take i instances ++ one ∷ []) (sym is)))
    (All-append (λ (it : Instance). list_any (λ name. bytes_eq name it.class) names ≡ true) (take i instances) (instance ∷ []) named (here, tt))

pub named-new : (names new : List (List ℕ)) (instances : List Instance) (i : ℕ) (instance : Instance) → i < length instances → instance ≡ get_or instances i instance
    → AreNamed names (take i instances) → new ≡ names ++ instance.class ∷ [] → AreNamed new (take (i + 1) instances)
named-new names new instances i instance within is named new_is =
    subst (λ (all : List (List ℕ)). AreNamed all (take (i + 1) instances)) (sym new_is)
    (named-more (names ++ instance.class ∷ []) instances i instance within is (named-wider names (instance.class ∷ []) (take i instances) named)
    (has-itself names instance.class))

-- what a step makes of instances leaves their classes
pub named-kept : (names : List (List ℕ)) (change : Instance → Instance) (instances : List Instance) → ((instance : Instance) → (change instance).class ≡ instance.class)
    → AreNamed names instances → AreNamed names (map change instances)
named-kept names change instances same named =
    All-map (λ (it : Instance). list_any (λ name. bytes_eq name it.class) names ≡ true) change instances
    (λ instance is. ap (λ (c : List ℕ). list_any (λ name. bytes_eq name c) names) (same instance) ∙ is) named

out-class : (out : Bool) (number : ℕ) (instance : Instance) → (cond (eqb instance.number number) (made_out out instance) instance).class ≡ instance.class
out-class out number instance = cond_both (eqb instance.number number) (made_out out instance) instance (λ (it : Instance). it.class ≡ instance.class) (λ e. refl) (λ e. refl)

retired-class : (class : List ℕ) (instance : Instance) → (cond (bytes_eq instance.class class) (made_retired instance) instance).class ≡ instance.class
retired-class class instance =
    cond_both (bytes_eq instance.class class) (made_retired instance) instance (λ (it : Instance). it.class ≡ instance.class) (λ e. refl) (λ e. refl)

named-runs : (names : List (List ℕ)) (run : RunChange) (instances : List Instance) → AreNamed names instances → AreNamed names (instances_by run instances)
named-runs names Unchanged instances named = named
named-runs names (Begin run) instances named = named-kept names _ instances (out-class true run.instance) named
named-runs names (Turn run) instances named = named
named-runs names (End run instance) instances named = named-kept names _ instances (out-class false instance) named
named-runs names (Stop numbers) instances named = named
named-runs names (Renew seq) instances named = named

named-set : (names : List (List ℕ)) (to : SettingChange) (instances : List Instance) → AreNamed names instances → AreNamed names (retired_by to instances)
named-set names set.Unchanged instances named = named
named-set names (set.Moment at) instances named = named
named-set names (set.Conditions conditions) instances named = named
named-set names (set.Retire class) instances named = named-kept names _ instances (retired-class class) named
named-set names (set.Observe query) instances named = named
named-set names set.Hush instances named = named

pub step-named : (names : List (List ℕ)) (s : State) (change : StepChange) → AreNamed names s.instances → AreNamed names (changed_state change s).instances
step-named names s change named = named-set names change.setting (instances_by change.run s.instances) (named-runs names change.run s.instances named)

-- ---- a step that touches no instance

runs-untouched : (run : RunChange) (instances : List Instance) → moves_instance run ≡ false → instances_by run instances ≡ instances
runs-untouched Unchanged instances not = refl
runs-untouched (Begin run) instances not = absurd cc
runs-untouched (Turn run) instances not = refl
runs-untouched (End run instance) instances not = absurd cc
runs-untouched (Stop numbers) instances not = refl
runs-untouched (Renew seq) instances not = refl

set-untouched : (to : SettingChange) (instances : List Instance) → retires to ≡ false → retired_by to instances ≡ instances
set-untouched set.Unchanged instances not = refl
set-untouched (set.Moment at) instances not = refl
set-untouched (set.Conditions conditions) instances not = refl
set-untouched (set.Retire class) instances not = absurd cc
set-untouched (set.Observe query) instances not = refl
set-untouched set.Hush instances not = refl

-- leaves the busy classes
pub step-busy : (names : List (List ℕ)) (s t : State) (change : StepChange) (busy : List ℕ) → t ≡ changed_state change s → touches_instances change ≡ false
    → AreBusy names s.instances busy → AreBusy names t.instances busy
step-busy names s t change busy made untouched are =
    let parts = or_parts (moves_instance change.run) (retires change.setting) untouched in
    let same : t.instances ≡ s.instances =
    ap (λ (u : State). u.instances) made ∙ set-untouched change.setting (instances_by change.run s.instances) parts.1
    ∙ runs-untouched change.run s.instances parts.0 in
    subst (λ instances. AreBusy names instances busy) (sym same) are
