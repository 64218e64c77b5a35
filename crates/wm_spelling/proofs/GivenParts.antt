-- What holds of all that a reader gives: of what it reads, and of the id that its fault shows.
use Rattle.std.proofs.Common.{◌≡◌, ℕ, ◌≤◌, suc, Bool, true, false, cond, List, [], ◌∷◌, length, Option, Some, None, IfSome, Result, Ok, Err, refl, ap, arith}
use Rattle.std.specs.Prelude.{nat_le, nat_lt}
use Rattle.std.specs.List.{AllByRecursion}
use Rattle.std.proofs.lemmas.Bool.{and_parts, leb-true}
use Rattle.serde_json.specs.Data as json
use Rattle.wm_machine.specs.declared.command.LineFault.{LineFault}
use Rattle.wm_machine.specs.declared.command.LineFault.TheVariants as fault
use Rattle.wm_script.specs.Parts.{◌>>=◌, each_in, formed, items_in, is_count, joined, list_at, some_in}
use Rattle.wm_script.specs.declared.parts.Unread.{Unread}
use Rattle.wm_script.specs.declared.parts.Unread.TheVariants.{Form, Fault, Memory}
use Rattle.wm_spelling.proofs.OwnIds.{IsOwnId}

-- the id that a fault shows is read again
unfoldable pub IsOwnFault : LineFault → Type 0
IsOwnFault (fault.IdTwice id) = IsOwnId id
IsOwnFault (fault.PeriodicInChain id) = IsOwnId id
IsOwnFault _ = Unit {0}

unfoldable pub IsOwnUnread : Unread → Type 0
IsOwnUnread (Fault found) = IsOwnFault found
IsOwnUnread _ = Unit {0}

abbrev pub IsGiven : {T : Type 0} → (T → Type 0) → Result T Unread → Type 0
IsGiven P (Ok x) = P x
IsGiven P (Err found) = IsOwnUnread found

-- ---- single parts

pub given-formed : {T : Type 0} (P : T → Type 0) (o : Option T) → IfSome o P → IsGiven P (formed o)
unfolding IsOwnUnread
given-formed P None h = tt
given-formed P (Some x) h = h

pub given-then : {A B : Type 0} (Q : A → Type 0) (P : B → Type 0) (f : A → Result B Unread) (r : Result A Unread) → IsGiven Q r
    → ((x : A) → Q x → IsGiven P (f x)) → IsGiven P (r >>= f)
given-then Q P f (Ok x) q h = h x q
given-then Q P f (Err found) q h = q

pub given-tested : {A : Type 0} (P : A → Type 0) (b : Bool) (r : Result A Unread) → (b ≡ true → IsGiven P r) → IsGiven P (cond b r (Err Form))
unfolding IsOwnUnread
given-tested P true r h = h refl
given-tested P false r h = tt

-- whatever is read
unfoldable pub Any : {T : Type 0} → T → Type 0
Any x = Unit {0}

pub given-any : {T : Type 0} (o : Option T) → IsGiven Any (formed o)
unfolding IsOwnUnread Any
given-any None = tt
given-any (Some x) = tt

-- ---- lists

-- as many as there are items, of each of which it holds
pub record AreGiven {T : Type 0} (P : T → Type 0) (n : ℕ) (xs : List T) : Type 0 where
  pub all : AllByRecursion P xs
  pub as_many : length xs ≡ n

pub given-joined : {T : Type 0} (P : T → Type 0) (Q R : List T → Type 0) (r : Result T Unread) (others : Result (List T) Unread) → IsGiven P r
    → IsGiven Q others → ((x : T) (xs : List T) → P x → Q xs → R (x ∷ xs)) → IsGiven R (joined r others)
unfolding IsOwnUnread
given-joined P Q R (Ok x) (Ok xs) h all more = more x xs h all
given-joined P Q R (Ok x) (Err found) h all more = all
given-joined P Q R (Err Form) others h all more = tt
given-joined P Q R (Err (Fault found)) (Ok xs) h all more = h
given-joined P Q R (Err (Fault found)) (Err Form) h all more = tt
given-joined P Q R (Err (Fault found)) (Err (Fault other)) h all more = h
given-joined P Q R (Err (Fault found)) (Err Memory) h all more = h
given-joined P Q R (Err Memory) (Ok xs) h all more = tt
given-joined P Q R (Err Memory) (Err Form) h all more = tt
given-joined P Q R (Err Memory) (Err (Fault other)) h all more = tt
given-joined P Q R (Err Memory) (Err Memory) h all more = tt

pub given-each : {T : Type 0} (P : T → Type 0) (f : json.Data → Result T Unread) → ((d : json.Data) → IsGiven P (f d)) → (ds : List json.Data)
    → IsGiven (AreGiven P (length ds)) (each_in f ds)
given-each P f h [] = record { all = tt; as_many = refl }
given-each P f h (d ∷ ds) =
    given-joined P (AreGiven P (length ds)) (AreGiven P (suc (length ds))) (f d) (each_in f ds) (h d) (given-each P f h ds)
    (λ x xs is are. record { all = (is, are.all); as_many = ap suc are.as_many })

given-items : (d : json.Data) → IsGiven Any (items_in d)
unfolding IsOwnUnread Any
given-items (json.array ds) = tt
given-items json.null = tt
given-items (json.boolean b) = tt
given-items (json.number n) = tt
given-items (json.string s) = tt
given-items (json.object ms) = tt

only_all : {T : Type 0} (P : T → Type 0) (n : ℕ) (r : Result (List T) Unread) → IsGiven (AreGiven P n) r → IsGiven (AllByRecursion P) r
only_all P n (Ok xs) are = are.all
only_all P n (Err found) are = are

pub given-list : {T : Type 0} (P : T → Type 0) (f : json.Data → Result T Unread) → ((d : json.Data) → IsGiven P (f d)) → (value : Option json.Data)
    → IsGiven (AllByRecursion P) (list_at f value)
given-list P f h None = tt
given-list P f h (Some d) =
    given-then Any (AllByRecursion P) _ (items_in d) (given-items d) (λ ds any. only_all P (length ds) (each_in f ds) (given-each P f h ds))

-- at most 1,000 of them
pub record AreFew {T : Type 0} (P : T → Type 0) (xs : List T) : Type 0 where
  pub all : AllByRecursion P xs
  pub few : length xs ≤ 1000

few_of : (n : ℕ) → is_count n ≡ true → n ≤ 1000
few_of n is = leb-true n 1000 (and_parts (nat_lt 0 n) (nat_le n 1000) is).1

are_few : {T : Type 0} (P : T → Type 0) (n : ℕ) (r : Result (List T) Unread) → is_count n ≡ true → IsGiven (AreGiven P n) r → IsGiven (AreFew P) r
are_few P n (Ok xs) is are =
    let few = few_of n is in
    let many = are.as_many in
    record { all = are.all; few = omega arith }
are_few P n (Err found) is are = are

pub given-some : {T : Type 0} (P : T → Type 0) (f : json.Data → Result T Unread) → ((d : json.Data) → IsGiven P (f d)) → (d : json.Data)
    → IsGiven (AreFew P) (some_in f d)
given-some P f h d =
    given-then Any (AreFew P) _ (items_in d) (given-items d) (λ ds any.
    given-tested (AreFew P) (is_count (length ds)) (each_in f ds) (λ few. are_few P (length ds) (each_in f ds) few (given-each P f h ds)))
