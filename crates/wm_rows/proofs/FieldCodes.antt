-- A field that is read has the code of what it is read as, and the code of a value is read as that value.
use Rattle.std.proofs.Common.{◌≡◌, ℕ, zero, suc, ◌+◌, ◌<◌, ◌≤◌, ◌==◌, ℤ, pos, negsuc, int_eq, Bool, true, false, not, ◌&&◌, ◌||◌, cond, List, [], ◌∷◌, length, map, nat_le, slice_get, Option, Some, None, is_none, option_and_then, option_map, unwrap_or, IfSome, refl, sym, ap, ◌∙◌, subst, arith}
use Rattle.std.proofs.lemmas.Bool.{and_parts, le-leb, leb-true, true≢false}
use Rattle.std.proofs.lemmas.List.{length-map}
use Rattle.std.specs.Cmp.{signed_Decides}
use Rattle.std.specs.List.{AllByRecursion}
use Rattle.wm_conditions.specs.declared.conditions.Constraints.{Constraints}
use Rattle.wm_conditions.specs.declared.conditions.Network.{Network}
use Rattle.wm_conditions.specs.declared.conditions.Network.TheVariants as network
use Rattle.wm_data.specs.declared.merger.Merger.{Merger}
use Rattle.wm_data.specs.declared.merger.Merger.TheVariants.{Overwriting, ArrayCreating}
use Rattle.wm_keeper.specs.declared.row.Row.{Row}
use Rattle.wm_machine.specs.Rows.{flag, flags_code, flex_code, kind_code, merger_code, moment_code, network_code, period_code, phase_code, policy_code, row_of}
use Rattle.wm_machine.specs.declared.record.How.TheVariants as how
use Rattle.wm_machine.specs.declared.record.Phase.{Phase}
use Rattle.wm_machine.specs.declared.record.Phase.TheVariants as phase
use Rattle.wm_machine.specs.declared.record.Record.{Record}
use Rattle.wm_rows.specs.Fields.{coded, constraints_in, each_in, form_in, greatest, has_flag, has_given, kinds, mergers, moment_in, most_prior, networks, number_in, period_in, period_of, phase_in, phases, policies, prior_in, where_it_is}
use Rattle.wm_rows.specs.declared.fields.Form.{Form}
use Rattle.wm_rows.specs.declared.fields.Form.TheVariants.{First, Second}
use Rattle.wm_schedule.specs.Clamped.{IsPeriod}
use Rattle.wm_schedule.specs.Moments.{IsDelay}
use Rattle.wm_schedule.specs.declared.schedule.BackoffPolicy.{BackoffPolicy}
use Rattle.wm_schedule.specs.declared.schedule.BackoffPolicy.TheVariants.{Linear, Exponential}
use Rattle.wm_schedule.specs.declared.schedule.Period.{Period}

-- ---- one thing after another

pub bound : {A B : Type 0} (o : Option A) (f : A → Option B) (b : B) → option_and_then f o ≡ Some b → (a : A) × (o ≡ Some a) × (f a ≡ Some b)
bound None f b is = absurd (cc)
bound (Some a) f b is = (a, refl, is)

pub of_some : {T : Type 0} {x y : T} → Some x ≡ Some y → x ≡ y
of_some {T} {x} {y} is = let given : Option T → T = λ o. unwrap_or o x in ap given is

pub passed : {T : Type 0} (holds : Bool) (x y : T) → where_it_is holds x ≡ Some y → (holds ≡ true) × (x ≡ y)
passed true x y is = let same : x ≡ y = cc in (refl, same)
passed false x y is = absurd (cc)

-- ---- numbers

-- a value is this number, and within its bounds
pub record IsNumberIn (least most : ℕ) (value : ℤ) (number : ℕ) : Type 0 where
  pub is : pos number ≡ value
  pub above : least ≤ number
  pub below : number ≤ most

pub number_in-read : (least most : ℕ) (value : ℤ) (number : ℕ) → number_in least most value ≡ Some number → IsNumberIn least most value number
unfolding number_in
number_in-read least most (pos n) number is =
    let both = passed (nat_le least n && nat_le n most) n number is in
    let parts = and_parts (nat_le least n) (nat_le n most) both.0 in
    subst (IsNumberIn least most (pos n)) both.1 (record { is = refl; above = leb-true least n parts.0; below = leb-true n most parts.1 })
number_in-read least most (negsuc n) number is = absurd (cc)

pub number_in-written : (least most number : ℕ) → least ≤ number → number ≤ most → number_in least most (pos number) ≡ Some number
unfolding number_in
number_in-written least most number above below = rw (le-leb least number above, le-leb number most below) refl

-- ---- a form

-- the version of a form
abbrev pub version_of : Form → ℤ
version_of First = pos 1
version_of Second = pos 2

-- the row of a record in a form
abbrev pub row_in : Form → Record → Row
row_in form work = record (row_of work) { version = version_of form }

-- a number from 1 to 2 is the version of its form
version-numbered : (n : ℕ) → 1 ≤ n → n ≤ 2 → version_of (cond (n == 1) First Second) ≡ pos n
version-numbered zero above below = absurd (omega (arith, above))
version-numbered (suc zero) above below = refl
version-numbered (suc (suc zero)) above below = refl
version-numbered (suc (suc (suc n))) above below = absurd (omega (arith, below))

pub form_in-read : (version : ℤ) (form : Form) → form_in version ≡ Some form → version_of form ≡ version
unfolding form_in
form_in-read version form is =
    let number = bound (number_in 1 2 version) _ form is in
    let read = number_in-read 1 2 version number.0 number.1 in
    ap version_of (sym (of_some number.2)) ∙ version-numbered number.0 read.above read.below ∙ read.is

pub form_in-written : (form : Form) → form_in (version_of form) ≡ Some form
unfolding form_in number_in
form_in-written First = refl
form_in-written Second = refl

-- ---- codes

-- the codes of these are their places, from this one on
abbrev AreCodedFrom : {T : Type 0} → (T → ℤ) → ℕ → List T → Type 0
AreCodedFrom code place [] = Unit {0}
AreCodedFrom code place (x ∷ xs) = (code x ≡ pos place) × AreCodedFrom code (suc place) xs

at-place : {T : Type 0} (code : T → ℤ) (place n : ℕ) (xs : List T) (x : T) → AreCodedFrom code place xs → slice_get xs n ≡ Some x → code x ≡ pos (place + n)
at-place code place n [] x are is = absurd (cc)
at-place code place zero (y ∷ ys) x are is = let same : x ≡ y = cc in ap code same ∙ are.0 ∙ ap pos (omega arith)
at-place code place (suc n) (y ∷ ys) x are is = at-place code (suc place) n ys x are.1 is ∙ ap pos (omega arith)

coded-read : {T : Type 0} (code : T → ℤ) (meanings : List T) (value : ℤ) (x : T) → AreCodedFrom code 0 meanings → coded meanings value ≡ Some x → code x ≡ value
coded-read code meanings (pos n) x are is = at-place code 0 n meanings x are is ∙ ap pos (omega arith)
coded-read code meanings (negsuc n) x are is = absurd (cc)

pub policy-read : (value : ℤ) (policy : BackoffPolicy) → coded policies value ≡ Some policy → policy_code policy ≡ value
policy-read value policy is = coded-read policy_code policies value policy (refl, (refl, tt)) is

pub policy-written : (policy : BackoffPolicy) → coded policies (policy_code policy) ≡ Some policy
policy-written Linear = refl
policy-written Exponential = refl

pub merger-read : (value : ℤ) (merger : Merger) → coded mergers value ≡ Some merger → merger_code merger ≡ value
merger-read value merger is = coded-read merger_code mergers value merger (refl, (refl, tt)) is

pub merger-written : (merger : Merger) → coded mergers (merger_code merger) ≡ Some merger
merger-written Overwriting = refl
merger-written ArrayCreating = refl

network-read : (value : ℤ) (network : Network) → coded networks value ≡ Some network → network_code network ≡ value
network-read value network is = coded-read network_code networks value network (refl, (refl, (refl, (refl, (refl, tt))))) is

network-written : (network : Network) → coded networks (network_code network) ≡ Some network
network-written network.NotRequired = refl
network-written network.Connected = refl
network-written network.Unmetered = refl
network-written network.NotRoaming = refl
network-written network.Metered = refl

phase_code-read : (value : ℤ) (phase : Phase) → coded phases value ≡ Some phase → phase_code phase ≡ value
phase_code-read value phase is = coded-read phase_code phases value phase (refl, (refl, (refl, (refl, (refl, tt))))) is

phase_code-written : (phase : Phase) → coded phases (phase_code phase) ≡ Some phase
phase_code-written phase.Waiting = refl
phase_code-written phase.Running = refl
phase_code-written (phase.Done how.Succeeded) = refl
phase_code-written (phase.Done how.Failed) = refl
phase_code-written (phase.Done how.Cancelled) = refl

-- ---- a period

-- a period has these codes, and is within its limits
pub record IsPeriodIn (kind value flex : ℤ) (period : Option Period) : Type 0 where
  pub kind_is : kind_code period ≡ kind
  pub value_is : period_code period ≡ value
  pub flex_is : flex_code period ≡ flex
  pub within : IfSome period (λ p. IsPeriod p × IsDelay p.period)

code_of_kind : Bool → ℤ
code_of_kind periodic = cond periodic (pos 1) (pos 0)

none-read : (value : ℤ) (n : ℕ) → number_in 0 0 value ≡ Some n → pos 0 ≡ value
none-read value n is = let read = number_in-read 0 0 value n is in ap pos (omega (arith, read.below)) ∙ read.is

period_of-read : (periodic : Bool) (kind value flex : ℤ) (period : Option Period) → code_of_kind periodic ≡ kind → period_of periodic value flex ≡ Some period
    → IsPeriodIn kind value flex period
unfolding code_of_kind
period_of-read false kind value flex period code is =
    let none = bound (number_in 0 0 value) _ period is in
    let no_flex = bound (number_in 0 0 flex) _ period none.2 in
    let same : None ≡ period = cc in
    subst (IsPeriodIn kind value flex) same (record {
      kind_is = code;
      value_is = none-read value none.0 none.1;
      flex_is = none-read flex no_flex.0 no_flex.1;
      within = tt;
    })
period_of-read true kind value flex period code is =
    let some = bound (number_in 900000 315360000000 value) _ period is in
    let some_flex = bound (number_in 300000 some.0 flex) _ period some.2 in
    let p = number_in-read 900000 315360000000 value some.0 some.1 in
    let f = number_in-read 300000 some.0 flex some_flex.0 some_flex.1 in
    subst (IsPeriodIn kind value flex) (of_some some_flex.2) (record {
      kind_is = code;
      value_is = p.is;
      flex_is = f.is;
      within = (record { least = p.above; least_flex = f.above; flex_within = f.below }, p.below);
    })

pub period_in-read : (kind value flex : ℤ) (period : Option Period) → period_in kind value flex ≡ Some period → IsPeriodIn kind value flex period
unfolding period_in code_of_kind
period_in-read kind value flex period is =
    let read = bound (coded kinds kind) _ period is in
    period_of-read read.0 kind value flex period (coded-read code_of_kind kinds kind read.0 (refl, (refl, tt)) read.1) read.2

pub period_in-written : (period : Option Period) → IfSome period (λ p. IsPeriod p × IsDelay p.period)
    → period_in (kind_code period) (period_code period) (flex_code period) ≡ Some period
unfolding period_in
period_in-written None within = rw (number_in-written 0 0 0 (omega arith) (omega arith)) refl
period_in-written (Some period) within =
    rw (
      number_in-written 900000 315360000000 period.period within.0.least within.1,
      number_in-written 300000 period.period period.flex within.0.least_flex within.0.flex_within,
    ) refl

-- ---- constraints

-- the flags that a number has set
flags_of : ℕ → Network → Constraints
flags_of flags network = record {
  network = network;
  charging = has_flag 8 flags;
  idle = has_flag 4 flags;
  battery_not_low = has_flag 2 flags;
  storage_not_low = has_flag 1 flags;
}

-- it holds of so many numbers, from this one on
AllFrom : (ℕ → Type 0) → ℕ → ℕ → Type 0
AllFrom P first zero = Unit {0}
AllFrom P first (suc count) = P first × AllFrom P (suc first) count

all_from-at : (P : ℕ → Type 0) (first count n : ℕ) → AllFrom P first count → n < count → P (first + n)
unfolding AllFrom
all_from-at P first zero n all within = absurd (omega arith)
all_from-at P first (suc count) zero all within = let e : first ≡ first + 0 = omega arith in subst P e all.0
all_from-at P first (suc count) (suc n) all within =
    let e : suc first + n ≡ first + suc n = omega arith in subst P e (all_from-at P (suc first) count n all.1 (omega arith))

flags-read : (network : Network) (flags : ℕ) → flags ≤ 15 → flags_code (flags_of flags network) ≡ pos flags
unfolding AllFrom flags_of
flags-read network flags few =
    let four : AllFrom (λ n. flags_code (flags_of n network) ≡ pos n) 12 4 = (refl, (refl, (refl, (refl, tt)))) in
    let eight : AllFrom (λ n. flags_code (flags_of n network) ≡ pos n) 8 8 = (refl, (refl, (refl, (refl, four)))) in
    let twelve : AllFrom (λ n. flags_code (flags_of n network) ≡ pos n) 4 12 = (refl, (refl, (refl, (refl, eight)))) in
    let P : ℕ → Type 0 = λ n. flags_code (flags_of n network) ≡ pos n in
    let e : 0 + flags ≡ flags = omega arith in
    subst P e (all_from-at P 0 16 flags (refl, (refl, (refl, (refl, twelve)))) (omega arith))

pub constraints_in-read : (code flags : ℤ) (constraints : Constraints) → constraints_in code flags ≡ Some constraints
    → (network_code constraints.network ≡ code) × (flags_code constraints ≡ flags)
unfolding constraints_in flags_of
constraints_in-read code flags constraints is =
    let network = bound (coded networks code) _ constraints is in
    let number = bound (number_in 0 15 flags) _ constraints network.2 in
    let n = number_in-read 0 15 flags number.0 number.1 in
    let same : flags_of number.0 network.0 ≡ constraints = cc in
    subst (λ (c : Constraints). (network_code c.network ≡ code) × (flags_code c ≡ flags)) same
    (network-read code network.0 network.1, flags-read network.0 number.0 n.below ∙ n.is)

-- what flags come to
sum_of : Bool → Bool → Bool → Bool → ℕ
sum_of charging idle battery_not_low storage_not_low = flag charging 8 + flag idle 4 + flag battery_not_low 2 + flag storage_not_low 1

flags-few : (a b c d : Bool) → sum_of a b c d ≤ 15
unfolding sum_of
flags-few true true true d = elim d as (λ v. sum_of true true true v ≤ 15) [ true ↦ omega arith | false ↦ omega arith ]
flags-few true true false d = elim d as (λ v. sum_of true true false v ≤ 15) [ true ↦ omega arith | false ↦ omega arith ]
flags-few true false true d = elim d as (λ v. sum_of true false true v ≤ 15) [ true ↦ omega arith | false ↦ omega arith ]
flags-few true false false d = elim d as (λ v. sum_of true false false v ≤ 15) [ true ↦ omega arith | false ↦ omega arith ]
flags-few false true true d = elim d as (λ v. sum_of false true true v ≤ 15) [ true ↦ omega arith | false ↦ omega arith ]
flags-few false true false d = elim d as (λ v. sum_of false true false v ≤ 15) [ true ↦ omega arith | false ↦ omega arith ]
flags-few false false true d = elim d as (λ v. sum_of false false true v ≤ 15) [ true ↦ omega arith | false ↦ omega arith ]
flags-few false false false d = elim d as (λ v. sum_of false false false v ≤ 15) [ true ↦ omega arith | false ↦ omega arith ]

flags-written : (network : Network) (a b c d : Bool) → flags_of (sum_of a b c d) network
    ≡ record { network = network; charging = a; idle = b; battery_not_low = c; storage_not_low = d }
unfolding flags_of sum_of
flags-written network true true true true = refl
flags-written network true true true false = refl
flags-written network true true false true = refl
flags-written network true true false false = refl
flags-written network true false true true = refl
flags-written network true false true false = refl
flags-written network true false false true = refl
flags-written network true false false false = refl
flags-written network false true true true = refl
flags-written network false true true false = refl
flags-written network false true false true = refl
flags-written network false true false false = refl
flags-written network false false true true = refl
flags-written network false false true false = refl
flags-written network false false false true = refl
flags-written network false false false false = refl

pub constraints_in-written : (c : Constraints) → constraints_in (network_code c.network) (flags_code c) ≡ Some c
unfolding constraints_in flags_of sum_of
constraints_in-written c =
    rw (
      network-written c.network,
      number_in-written 0 15 (sum_of c.charging c.idle c.battery_not_low c.storage_not_low) (omega arith)
          (flags-few c.charging c.idle c.battery_not_low c.storage_not_low),
    )
    (ap Some (flags-written c.network c.charging c.idle c.battery_not_low c.storage_not_low))

-- ---- a phase

-- work of this kind may be in the phase
abbrev pub may_be_in : Option Period → Phase → Bool
may_be_in period phase = is_none period || not (has_given phase)

pub phase_in-read : (period : Option Period) (value : ℤ) (phase : Phase) → phase_in period value ≡ Some phase
    → (phase_code phase ≡ value) × (may_be_in period phase ≡ true)
unfolding phase_in
phase_in-read period value phase is =
    let read = bound (coded phases value) _ phase is in
    let both = passed (may_be_in period read.0) read.0 phase read.2 in
    subst (λ p. (phase_code p ≡ value) × (may_be_in period p ≡ true)) both.1 (phase_code-read value read.0 read.1, both.0)

pub phase_in-written : (period : Option Period) (phase : Phase) → may_be_in period phase ≡ true → phase_in period (phase_code phase) ≡ Some phase
unfolding phase_in
phase_in-written period phase may = rw (phase_code-written phase, may) refl

-- ---- moments

-- a moment has this code, and is within its limits; where there may be none, there is none
pub record IsMomentIn (may : Bool) (value : ℤ) (moment : Option ℕ) : Type 0 where
  pub is : moment_code moment ≡ value
  pub within : IfSome moment (λ m. m ≤ greatest)
  pub none : may ≡ false → moment ≡ None

some_number : (found moment : Option ℕ) → option_map Some found ≡ Some moment → (n : ℕ) × (found ≡ Some n) × (Some n ≡ moment)
some_number None moment some = absurd (cc)
some_number (Some n) moment some = (n, refl, of_some some)

pub moment_in-read : (may : Bool) (value : ℤ) (moment : Option ℕ) → moment_in may value ≡ Some moment → IsMomentIn may value moment
unfolding moment_in
moment_in-read may value moment is = by_test (int_eq value (negsuc 0)) refl may refl is where
  by_test : (b : Bool) → int_eq value (negsuc 0) ≡ b → (c : Bool) → may ≡ c
      → cond b (Some None) (cond c (option_map Some (number_in 0 greatest value)) None) ≡ Some moment → IsMomentIn may value moment
  by_test true none c may_is same =
      let here : None ≡ moment = of_some same in
      subst (IsMomentIn may value) here (record { is = sym ((signed_Decides value (negsuc 0)).0 none); within = tt; none = λ e. refl })
  by_test false some true may_is same =
      let read = some_number (number_in 0 greatest value) moment same in
      let number = number_in-read 0 greatest value read.0 read.1 in
      subst (IsMomentIn may value) read.2 (record {
        is = number.is;
        within = number.below;
        none = λ e. absurd (true≢false (sym may_is ∙ e));
      })
  by_test false some false may_is same = absurd (cc)

pub moment_in-written : (may : Bool) (moment : Option ℕ) → (may ≡ false → moment ≡ None) → IfSome moment (λ m. m ≤ greatest)
    → moment_in may (moment_code moment) ≡ Some moment
unfolding moment_in
moment_in-written may None none within = refl
moment_in-written true (Some moment) none within = rw (number_in-written 0 greatest moment (omega arith) within) refl
moment_in-written false (Some moment) none within = let clash : Some moment ≡ None = none refl in absurd (cc)

-- ---- prerequisites

-- a number of a work
abbrev pub IsOfWork : ℕ → Type 0
IsOfWork number = (1 ≤ number) × (number ≤ greatest)

numbers-read : (values : List ℤ) (numbers : List ℕ) → each_in (number_in 1 greatest) values ≡ Some numbers
    → (map pos numbers ≡ values) × AllByRecursion IsOfWork numbers
numbers-read [] numbers is =
    let same : [] ≡ numbers = cc in
    subst (λ (ns : List ℕ). (map pos ns ≡ []) × AllByRecursion IsOfWork ns) same (refl, tt)
numbers-read (value ∷ values) numbers is =
    let first = bound (number_in 1 greatest value) _ numbers is in
    let others = bound (each_in (number_in 1 greatest) values) _ numbers first.2 in
    let read = number_in-read 1 greatest value first.0 first.1 in
    let rest = numbers-read values others.0 others.1 in
    let same : first.0 ∷ others.0 ≡ numbers = cc in
    subst (λ (ns : List ℕ). (map pos ns ≡ value ∷ values) × AllByRecursion IsOfWork ns) same
    (rw (read.is, rest.0) refl, ((read.above, read.below), rest.1))

numbers-written : (numbers : List ℕ) → AllByRecursion IsOfWork numbers → each_in (number_in 1 greatest) (map pos numbers) ≡ Some numbers
numbers-written [] are = refl
numbers-written (number ∷ numbers) are = rw (number_in-written 1 greatest number are.0.0 are.0.1, numbers-written numbers are.1) refl

-- the prerequisites have these numbers, and work of this kind may have as many
pub record ArePriorIn (period : Option Period) (values : List ℤ) (numbers : List ℕ) : Type 0 where
  pub are : map pos numbers ≡ values
  pub each : AllByRecursion IsOfWork numbers
  pub few : length numbers ≤ most_prior period

pub prior_in-read : (period : Option Period) (values : List ℤ) (numbers : List ℕ) → prior_in period values ≡ Some numbers → ArePriorIn period values numbers
unfolding prior_in
prior_in-read period values numbers is =
    let left = bound (where_it_is (nat_le (length values) (most_prior period)) values) _ numbers is in
    let both = passed (nat_le (length values) (most_prior period)) values left.0 left.1 in
    let read = numbers-read values numbers (subst (λ vs. each_in (number_in 1 greatest) vs ≡ Some numbers) (sym both.1) left.2) in
    let long : length numbers ≡ length values = sym (length-map numbers pos) ∙ ap length read.0 in
    record { are = read.0; each = read.1; few = omega (arith, long, leb-true (length values) (most_prior period) both.0) }

pub prior_in-written : (period : Option Period) (numbers : List ℕ) → AllByRecursion IsOfWork numbers → length numbers ≤ most_prior period
    → prior_in period (map pos numbers) ≡ Some numbers
unfolding prior_in
prior_in-written period numbers are few =
    let within : length (map pos numbers) ≤ most_prior period = omega (arith, length-map numbers pos, few) in
    rw (le-leb (length (map pos numbers)) (most_prior period) within) (numbers-written numbers are)
