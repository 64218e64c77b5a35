-- How the pairs of the records of the numbers of a set are added.
use Rattle.std.proofs.Common.{◌≡◌, ℕ, ◌++◌, List, [], ◌∷◌, filter, map, Bor, refl, sym, ◌∙◌, ap, append_assoc}
use Rattle.std.proofs.lemmas.List.{map-append}
use Rattle.std.proofs.lemmas.List.Elements.{filter_map-append}
use Rattle.std.specs.BTreeSet.{BTreeSet, IsOrdered}
use Rattle.std.specs.Map.Iter.{deref}
use Rattle.std.specs.Ordering.{nat_cmp}
use Rattle.wm_collections.proofs.Lists.{All-weaker}
use Rattle.wm_collections.proofs.NumberSets.{list-all, list-is}
use Rattle.wm_machine.proofs.Runnings.{WorksAscend-in_order}
use Rattle.wm_machine.specs.Input.{work_numbered}
use Rattle.wm_machine.specs.Valid.{Valid}
use Rattle.wm_machine.specs.declared.record.Record.{Record}
use Rattle.wm_machine.specs.declared.state.State.{State}
use Rattle.wm_observe.specs.Compared.{may_differ, pair_at}
use Rattle.wm_observe.specs.Near.{HaveDiffering}
use Rattle.wm_observe.specs.declared.note.Pair.{Pair}
use Rattle.wm_steps.proofs.NumberedWorks.{numbered-passing}
use Rattle.wm_steps.specs.Numbers.{numbered}
use Rattle.wm_changes.specs.StepChanges.{changed_state}
use Rattle.wm_changes.specs.declared.change.StepChange.{StepChange}

pub split-on : (yielded : List (Bor ℕ)) (number : Bor ℕ) (before after all : List ℕ) → map deref yielded ++ before ≡ all → before ≡ deref number ∷ after
    → map deref (yielded ++ number ∷ []) ++ after ≡ all
split-on yielded number before after all split first =
    rw (map-append, append_assoc) (ap (λ rest. map deref yielded ++ rest) (sym first) ∙ split)

-- the pair of the record of one number more
pub pairs-on : (pair : Record → Pair) (works : List Record) (before now new : List Pair) (yielded : List (Bor ℕ)) (number : Bor ℕ)
    → now ≡ before ++ map pair (numbered works (map deref yielded)) → new ≡ now ++ map pair (numbered works (deref number ∷ []))
    → new ≡ before ++ map pair (numbered works (map deref (yielded ++ number ∷ [])))
pairs-on pair works before now new yielded number so_far more =
    let some = numbered works (map deref yielded) in
    let one = numbered works (deref number ∷ []) in
    let all : numbered works (map deref (yielded ++ number ∷ [])) ≡ some ++ one =
    ap (numbered works) (map-append deref yielded (number ∷ []))
    ∙ filter_map-append (λ (seq : ℕ). work_numbered seq works) (map deref yielded) (deref number ∷ []) in
    more ∙ ap (λ (pairs : List Pair). pairs ++ map pair one) so_far ∙ append_assoc before (map pair some) (map pair one)
    ∙ ap (λ (pairs : List Pair). before ++ pairs) (sym (map-append pair some one)) ∙ ap (λ (found : List Record). before ++ map pair found) (sym all)

-- all of them are the pairs of the records of which the change may tell another thing
pub pairs-all : (s : State) (change : StepChange) → Valid s → (numbers : BTreeSet ℕ) → HaveDiffering change s.works numbers → IsOrdered nat_cmp numbers
    → (before : List Pair) (yielded : List (Bor ℕ)) (rest all : List ℕ) → map deref yielded ++ rest ≡ all → all ≡ numbers.keys → rest ≡ []
    → before ++ map (pair_at change s.works (changed_state change s).works) (numbered s.works (map deref yielded))
    ≡ before ++ map (pair_at change s.works (changed_state change s).works) (filter (may_differ change) s.works)
pairs-all s change valid numbers differing ordered before yielded rest all split whole none =
    let listed : map deref yielded ≡ numbers.keys = list-all numbers yielded rest all (map deref yielded) split whole none refl in
    let are = list-is numbers numbers.keys ordered refl in
    let found : numbered s.works numbers.keys ≡ filter (may_differ change) s.works =
    numbered-passing (may_differ change) s.works numbers.keys (WorksAscend-in_order s.works valid.works.in_order) are.ascending
    (All-weaker s.works (λ work is. are.each work.seq ∙ is) differing) in
    ap (λ (works : List Record). before ++ map (pair_at change s.works (changed_state change s).works) works)
    (ap (numbered s.works) listed ∙ found)
