-- The first limit of a script of which no more was read than one byte past the limit on bytes.
use Rattle.std.proofs.Common.{◌≡◌, ℕ, ◌<◌, ◌≤◌, Bool, true, false, List, [], ◌++◌, length, nat_le, nat_lt, Option, Some, None, IfSome, refl, sym, ◌∙◌, ap, append-nil, length-append, lt-ltb, arith}
use Rattle.std.proofs.lemmas.Bool.{leb-true, leb-false, ltb-true, ltb-false}
use Rattle.wm_beginning.specs.Script.{IsReadFrom}
use Rattle.wm_script.specs.Limits.{first_limit, most_script_bytes}
use Rattle.wm_script.specs.declared.limits.Limit.{Limit}
use Rattle.wm_script.specs.declared.limits.Limit.TheVariants.{Bytes}

-- what is past the limit on bytes passes that one first, whatever the rest is
past_bytes : (bytes : List ℕ) → most_script_bytes < length bytes → first_limit bytes ≡ Some Bytes
unfolding first_limit
past_bytes bytes past = rw (lt-ltb most_script_bytes (length bytes) past) refl

longer : (script rest : List ℕ) → (b : Bool) → nat_le (length script) most_script_bytes ≡ b → (length script ≤ most_script_bytes → rest ≡ [])
    → first_limit (script ++ rest) ≡ first_limit script
longer script rest true within whole =
    ap first_limit (ap (λ more. script ++ more) (whole (leb-true (length script) most_script_bytes within)) ∙ append-nil script)
longer script rest false past whole =
    let more = leb-false (length script) most_script_bytes past in
    past_bytes (script ++ rest) (omega (arith, length-append script rest)) ∙ sym (past_bytes script (omega arith))

-- what was read of a script passes the limit first that the whole script does
pub same_limit : (before now : Option (List ℕ)) (script : List ℕ) (found : Option Limit) → IsReadFrom most_script_bytes before now script → first_limit script ≡ found
    → IfSome before (λ all. first_limit all ≡ found)
same_limit before None script found read is = rw read.taken tt
same_limit before (Some rest) script found read is =
    rw read.taken (longer script rest (nat_le (length script) most_script_bytes) refl read.whole ∙ is)

within : (script : List ℕ) (b : Bool) → nat_lt most_script_bytes (length script) ≡ b → first_limit script ≡ None → length script ≤ most_script_bytes
within script true past none = let clash : Some Bytes ≡ None = sym (past_bytes script (ltb-true most_script_bytes (length script) past)) ∙ none in absurd (cc)
within script false up none = ltb-false most_script_bytes (length script) up

-- a script that passes no limit was read whole
pub read_whole : (before now : Option (List ℕ)) (script : List ℕ) →
    IsReadFrom most_script_bytes before now script → first_limit script ≡ None → IfSome before (λ all. all ≡ script)
read_whole before None script read none = rw read.taken tt
read_whole before (Some rest) script read none =
    let at_end = read.whole (within script (nat_lt most_script_bytes (length script)) refl none) in
    rw read.taken (ap (λ more. script ++ more) at_end ∙ append-nil script)
