-- The instance of a number stands at the number: it is the one that is made out or not.
use Rattle.std.proofs.Common.{◌≡◌, ℕ, zero, suc, ◌+◌, ◌<◌, ◌≤◌, Bool, List, [], ◌∷◌, length, get_or, set, refl, sym, ◌∙◌, ap, subst, arith}
use Rattle.std.proofs.lemmas.Bool.{eq-eqb, ne_eqb}
use Rattle.wm_machine.specs.Runs.{made_out, with_out}
use Rattle.wm_machine.specs.Valid.{AreNumberedInOrder}
use Rattle.wm_machine.specs.declared.state.Instance.{Instance}

-- those numbered from a greater one on stay
out-later : (out : Bool) (number first : ℕ) (instances : List Instance) → AreNumberedInOrder first instances → number < first
    → with_out out number instances ≡ instances
out-later out number first [] ordered less = refl
out-later out number first (instance ∷ instances) ordered less =
    let is = ordered.0 in
    let miss = ne_eqb instance.number number (λ e. absurd (omega arith)) in
    rw miss (ap (λ rest. instance ∷ rest) (out-later out number (first + 1) instances ordered.1 (omega arith)))

-- the one at an index has the index more than the first number
out-at : (out : Bool) (first i : ℕ) (instances : List Instance) (d : Instance) → AreNumberedInOrder first instances → i < length instances
    → with_out out (first + i) instances ≡ set instances i (made_out out (get_or instances i d))
out-at out first i [] d ordered within = absurd (omega arith)
out-at out first zero (instance ∷ instances) d ordered within =
    let is = ordered.0 in
    let hit = eq-eqb instance.number (first + 0) (omega (arith, is)) in
    rw hit (ap (λ rest. made_out out instance ∷ rest) (out-later out (first + 0) (first + 1) instances ordered.1 (omega arith)))
out-at out first (suc i) (instance ∷ instances) d ordered within =
    let is = ordered.0 in
    let miss = ne_eqb instance.number (first + suc i) (λ e. absurd (omega (arith, is, e))) in
    let next : first + suc i ≡ first + 1 + i = omega arith in
    rw miss (ap (λ rest. instance ∷ rest) (ap (λ n. with_out out n instances) next ∙ out-at out (first + 1) i instances d ordered.1 (omega arith)))

-- where none stands none changes
out-past : (out : Bool) (number first : ℕ) (instances : List Instance) → AreNumberedInOrder first instances → first + length instances ≤ number
    → with_out out number instances ≡ instances
out-past out number first [] ordered past = refl
out-past out number first (instance ∷ instances) ordered past =
    let is = ordered.0 in
    let miss = ne_eqb instance.number number (λ e. absurd (omega (arith, is, e))) in
    rw miss (ap (λ rest. instance ∷ rest) (out-past out number (first + 1) instances ordered.1 (omega arith)))

-- so the one of a number stands at the number
pub out-there : (out : Bool) (number : ℕ) (instances : List Instance) (d : Instance) → AreNumberedInOrder 0 instances → number < length instances
    → with_out out number instances ≡ set instances number (made_out out (get_or instances number d))
out-there out number instances d ordered within =
    let here : number ≡ 0 + number = omega arith in
    ap (λ n. with_out out n instances) here ∙ out-at out 0 number instances d ordered within

pub out-none : (out : Bool) (number : ℕ) (instances : List Instance) → AreNumberedInOrder 0 instances → length instances ≤ number
    → with_out out number instances ≡ instances
out-none out number instances ordered past = out-past out number 0 instances ordered (omega (arith, past))

-- instances that are the same are numbered in order, too
pub ordered-is : (now before : List Instance) → now ≡ before → AreNumberedInOrder 0 before → AreNumberedInOrder 0 now
ordered-is now before same ordered = subst (AreNumberedInOrder 0) (sym same) ordered
