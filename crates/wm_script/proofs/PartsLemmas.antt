-- Lemmas on parts and on lists of them.
use Rattle.std.proofs.Common.{◌≡◌, ℕ, ◌+◌, ◌<◌, ◌≤◌, suc, Bool, true, false, cond, List, [], ◌∷◌, drop, get_or, length, map, Option, Some, None, IfSome, Result, Ok, Err, IfOk, refl, sym, ap, ◌∙◌, append-nil, arith}
use Rattle.std.specs.Prelude.{nat_le, nat_lt}
use Rattle.std.specs.List.{AllByRecursion}
use Rattle.std.proofs.lemmas.Bool.{and_parts, ltb-true}
use Rattle.std.proofs.lemmas.List.{append_assoc, drop_more, length-map}
use Rattle.serde_json.specs.Data as json
use Rattle.serde_json.specs.View.{items_view, view}
use Rattle.serde_json.specs.declared.value.Value.{Value}
use Rattle.wm_data.proofs.ItemLists.{item_list-items_of}
use Rattle.wm_data.specs.DataRead.{item_list}
use Rattle.wm_machine.specs.declared.command.LineFault.{LineFault}
use Rattle.wm_script.specs.Onto.{onto, with_fault, with_part, IsOneMore, IsStopped}
use Rattle.wm_script.specs.Parts.{each_in, formed, IsFaultOf, is_count, items_in, joined, list_at, or_fault, some_in, ◌>>=◌}
use Rattle.wm_script.specs.declared.parts.Unread.{Unread}
use Rattle.wm_script.specs.declared.parts.Unread.TheVariants.{Form, Fault, Memory}

-- how many items there are, by what each of them is seen as
pub count_items : (vs : List Value) → length (item_list (items_view vs)) ≡ length vs
count_items vs = rw (item_list-items_of (map view vs)) (length-map vs view)

-- ---- one item more

pub one_part : {T : Type 0} (all : Result (List T) LineFault) (part : T) → IsOneMore all (Ok part) (with_part all part)
one_part (Ok parts) part (Ok more) = ap Ok (append_assoc parts (part ∷ []) more)
one_part (Ok parts) part (Err found) = refl
one_part (Err first) part (Ok more) = refl
one_part (Err first) part (Err Form) = refl
one_part (Err first) part (Err (Fault found)) = refl
one_part (Err first) part (Err Memory) = refl

pub one_fault : {T : Type 0} (all : Result (List T) LineFault) (fault : LineFault) → IsOneMore all (Err (Fault fault)) (with_fault all fault)
one_fault (Ok parts) fault (Ok more) = refl
one_fault (Ok parts) fault (Err Form) = refl
one_fault (Ok parts) fault (Err (Fault found)) = refl
one_fault (Ok parts) fault (Err Memory) = refl
one_fault (Err first) fault (Ok more) = refl
one_fault (Err first) fault (Err Form) = refl
one_fault (Err first) fault (Err (Fault found)) = refl
one_fault (Err first) fault (Err Memory) = refl

pub one_out : {T : Type 0} (all : Result (List T) LineFault) → IsStopped all (Err Form) Form
one_out (Ok parts) others = refl
one_out (Err first) others = refl

-- at the end
pub onto_none : {T : Type 0} (parts : List T) → onto (Ok parts) (Ok []) ≡ Ok parts
onto_none parts = ap Ok (append-nil parts)

-- an item of a list is read
module _ {T : Type 0} (f : json.Data → Result T Unread) (vs : List Value) (i : ℕ) (v : Value) (whole : Result (List T) Unread)
    (all : Result (List T) LineFault) (h : i < length vs) (is : v ≡ get_or vs i v)
    (left : onto all (each_in f (item_list (items_view (drop i vs)))) ≡ whole) where
  next : onto all (joined (f (view v)) (each_in f (item_list (items_view (drop (i + 1) vs))))) ≡ whole
  next =
      ap (λ rest. onto all (each_in f (item_list (items_view rest)))) (sym (drop_more vs i v h ∙ ap (λ x. x ∷ drop (i + 1) vs) (sym is)))
      ∙ left

  pub item_more : (more : Result (List T) LineFault) → IsOneMore all (f (view v)) more
      → onto more (each_in f (item_list (items_view (drop (i + 1) vs)))) ≡ whole
  item_more more is_more = is_more (each_in f (item_list (items_view (drop (i + 1) vs)))) ∙ next

  pub item_stopped : (found : Unread) → IsStopped all (f (view v)) found → IsFaultOf whole found
  item_stopped found stopped = rw next at (stopped (each_in f (item_list (items_view (drop (i + 1) vs)))))

-- ---- what holds of an answer

pub or_holds : {T E : Type 0} (P : T → Type 0) (of_fault : E → Unread) (r : Result T E) → IfOk r P → IfOk (or_fault of_fault r) P
or_holds P of_fault (Ok x) h = h
or_holds P of_fault (Err found) h = tt

pub formed_holds : {T : Type 0} (P : T → Type 0) (o : Option T) → IfSome o P → IfOk (formed o) P
formed_holds P None h = tt
formed_holds P (Some x) h = h

pub bind_any : {A B : Type 0} (P : B → Type 0) (f : A → Result B Unread) (r : Result A Unread) → ((x : A) → IfOk (f x) P) → IfOk (r >>= f) P
bind_any P f (Ok x) h = h x
bind_any P f (Err found) h = tt

pub bind_holds : {A B : Type 0} (Q : A → Type 0) (P : B → Type 0) (f : A → Result B Unread) (r : Result A Unread) → IfOk r Q
    → ((x : A) → Q x → IfOk (f x) P) → IfOk (r >>= f) P
bind_holds Q P f (Ok x) q h = h x q
bind_holds Q P f (Err found) q h = tt

-- where it is there only if a test holds
pub tested : {A : Type 0} (P : A → Type 0) (b : Bool) (r : Result A Unread) → (b ≡ true → IfOk r P) → IfOk (cond b r (Err Form)) P
tested P true r h = h refl
tested P false r h = tt

-- ---- lists

-- as many as there are items, of each of which it holds
pub record AreRead {T : Type 0} (P : T → Type 0) (n : ℕ) (xs : List T) : Type 0 where
  pub all : AllByRecursion P xs
  pub as_many : length xs ≡ n

one_read : {T : Type 0} (P : T → Type 0) (n : ℕ) (r : Result T Unread) (others : Result (List T) Unread) → IfOk r P → IfOk others (AreRead P n)
    → IfOk (joined r others) (AreRead P (suc n))
one_read P n (Ok x) (Ok xs) h all = record { all = (h, all.all); as_many = ap suc all.as_many }
one_read P n (Ok x) (Err found) h all = tt
one_read P n (Err Form) others h all = tt
one_read P n (Err (Fault found)) (Ok xs) h all = tt
one_read P n (Err (Fault found)) (Err Form) h all = tt
one_read P n (Err (Fault found)) (Err (Fault other)) h all = tt
one_read P n (Err (Fault found)) (Err Memory) h all = tt
one_read P n (Err Memory) (Ok xs) h all = tt
one_read P n (Err Memory) (Err Form) h all = tt
one_read P n (Err Memory) (Err (Fault other)) h all = tt
one_read P n (Err Memory) (Err Memory) h all = tt

each_holds : {T : Type 0} (P : T → Type 0) (f : json.Data → Result T Unread) → ((d : json.Data) → IfOk (f d) P) → (ds : List json.Data)
    → IfOk (each_in f ds) (AreRead P (length ds))
each_holds P f h [] = record { all = tt; as_many = refl }
each_holds P f h (d ∷ ds) = one_read P (length ds) (f d) (each_in f ds) (h d) (each_holds P f h ds)

all_of : {T : Type 0} (P : T → Type 0) (n : ℕ) (r : Result (List T) Unread) → IfOk r (AreRead P n) → IfOk r (AllByRecursion P)
all_of P n (Ok xs) are = are.all
all_of P n (Err found) are = tt

-- each part of a list
pub list_holds : {T : Type 0} (P : T → Type 0) (f : json.Data → Result T Unread) → ((d : json.Data) → IfOk (f d) P) → (value : Option json.Data)
    → IfOk (list_at f value) (AllByRecursion P)
list_holds P f h None = tt
list_holds P f h (Some d) =
    bind_any (AllByRecursion P) _ (items_in d) (λ ds. all_of P (length ds) (each_in f ds) (each_holds P f h ds))

-- there are as many as there are items
as_many : {T : Type 0} (f : json.Data → Result T Unread) (ds : List json.Data) (xs : List T) → each_in f ds ≡ Ok xs → length xs ≡ length ds
as_many {T} f ds xs is = (rw is at (each_holds Any f (λ d. any (f d)) ds)).as_many where
  Any : T → Type 0
  Any x = Unit {0}

  any : (r : Result T Unread) → IfOk r Any
  any (Ok x) = tt
  any (Err found) = tt

some_of : (n : ℕ) → is_count n ≡ true → 1 ≤ n
some_of n is =
    let parts = and_parts (nat_lt 0 n) (nat_le n 1000) is in
    let more = ltb-true 0 n parts.0 in
    omega arith

-- where 1 to 1,000 are read, there is one
has_some : {T : Type 0} (f : json.Data → Result T Unread) (ds : List json.Data) (xs : List T) → is_count (length ds) ≡ true
    → each_in f ds ≡ Ok xs → 1 ≤ length xs
has_some f ds xs is read =
    let some = some_of (length ds) is in
    let many = as_many f ds xs read in
    omega arith

pub some_read : {T : Type 0} (f : json.Data → Result T Unread) (ds : List json.Data) (r : Result (List T) Unread) → is_count (length ds) ≡ true
    → IfOk r (λ xs. each_in f ds ≡ Ok xs) → IfOk r (λ xs. 1 ≤ length xs)
some_read f ds (Ok xs) is read = has_some f ds xs is read
some_read f ds (Err found) is read = tt

-- at least one, and each of them
abbrev pub AreSome : {T : Type 0} → (T → Type 0) → List T → Type 0
AreSome P xs = (1 ≤ length xs) × AllByRecursion P xs

are_some : {T : Type 0} (P : T → Type 0) (n : ℕ) (r : Result (List T) Unread) → is_count n ≡ true → IfOk r (AreRead P n) → IfOk r (AreSome P)
are_some P n (Ok xs) is are =
    let some = some_of n is in
    let many = are.as_many in
    (omega arith, are.all)
are_some P n (Err found) is are = tt

pub some_holds : {T : Type 0} (P : T → Type 0) (f : json.Data → Result T Unread) → ((d : json.Data) → IfOk (f d) P) → (d : json.Data)
    → IfOk (some_in f d) (AreSome P)
some_holds P f h d =
    bind_any (AreSome P) _ (items_in d) (λ ds.
    tested (AreSome P) (is_count (length ds)) (each_in f ds) (λ is. are_some P (length ds) (each_in f ds) is (each_holds P f h ds)))
