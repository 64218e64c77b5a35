-- What a run takes is Data, what it is where a work names no prerequisite, and why a work that has none can't start.
use Rattle.std.proofs.Common.{◌≡◌, ℕ, true, cond, eqb, List, [], ◌∷◌, filter_map, Option, Some, None, option_map, Result, Ok, Err, refl, sym, ◌∙◌, ap, subst, nat_le}
use Rattle.std.proofs.lemmas.Bool.{cond_both}
use Rattle.std.specs.List.{AllByRecursion, cons_option}
use Rattle.wm_data.specs.Size.{size_of, IsData}
use Rattle.wm_machine.specs.Types.{Cause, DataEntry, Period, Record, State}
use Rattle.wm_data.specs.declared.merger.Merger.{Merger}
use Rattle.wm_data.specs.declared.merger.Merger.TheVariants as merger
use Rattle.wm_collections.proofs.Lists.{All-find, one_gives}
use Rattle.wm_machine.proofs.Records.{IsData-output}
use Rattle.wm_machine.specs.First.{is_live}
use Rattle.wm_machine.specs.Input.{cause_in, input_by, input_of, outputs_for, work_numbered}
use Rattle.wm_machine.specs.Runs.{start_refusal}
use Rattle.wm_collections.specs.Lists.{HasOne}
use Rattle.wm_machine.specs.Valid.{IsRecord}
use Rattle.wm_machine.specs.declared.event.Cause.TheVariants as cause
use Rattle.wm_merge.proofs.MergedData.{merged-data}
use Rattle.wm_merge.specs.Merged.{answer_of, arrays, least_conflict, merged}
use Rattle.wm_merge.specs.Overwriting.{overwritten}
use Rattle.wm_merge.specs.declared.fault.MergeFault.{MergeFault}
use Rattle.wm_merge.specs.declared.fault.MergeFault.TheVariants as fault

-- ---- it is Data

-- what a record of these gave
output_at : (works : List Record) (found : Option Record) (rest : List (List DataEntry)) → ((work : Record) → found ≡ Some work → IsData work.output)
    → AllByRecursion IsData rest → AllByRecursion IsData (cons_option (option_map (λ (work : Record). work.output) found) rest)
output_at works None rest gave all = all
output_at works (Some work) rest gave all = (gave work refl, all)

outputs-data : (works : List Record) (numbers : List ℕ) → AllByRecursion IsRecord works
    → AllByRecursion IsData (filter_map (λ seq. option_map (λ (work : Record). work.output) (work_numbered seq works)) numbers)
outputs-data works [] records = tt
outputs-data works (seq ∷ numbers) records =
    output_at works (work_numbered seq works) _ (λ work found. IsData-output work (All-find _ (λ w. eqb w.seq seq) works work found records))
    (outputs-data works numbers records)

input_by-data : (period : Option Period) (works : List Record) (work : Record) (input : List DataEntry) → AllByRecursion IsRecord works → IsRecord work
    → input_by period works work ≡ Ok input → IsData input
input_by-data None works work input records own is =
    merged-data work.request.merger (work.request.input ∷ outputs_for works work) input is (own.request.input, outputs-data works work.prior records)
input_by-data (Some period) works work input records own is =
    let same : work.request.input ≡ input = cc in
    subst IsData same own.request.input

-- what a run of a record takes
pub input_of-data : (s : State) (work : Record) (input : List DataEntry) → AllByRecursion IsRecord s.works → HasOne (λ other. other ≡ work) s.works
    → input_of s work ≡ Ok input → IsData input
input_of-data s work input records stored is =
    input_by-data work.request.period s.works work input records (one_gives s.works (λ other own same. subst IsRecord same own) records stored) is

-- ---- its own input alone

-- ---- there is none

-- why a work with a worker can't start whose inputs don't become one
pub start_refusal-no_input : (s : State) (work : Record) (input : Result (List DataEntry) MergeFault) → is_live s.instances work.request.class ≡ true
    → input_of s work ≡ input → start_refusal s work ≡ cause_in input
start_refusal-no_input s work input live is = ap (λ b. cond b (cause_in (input_of s work)) (Some cause.NoWorker)) live ∙ ap cause_in is

-- there is a cause
abbrev HasCause : Option Cause → Type 0
HasCause found = (cause : Cause) × (found ≡ Some cause)

answer-cause : (conflict : Option (List ℕ)) (entries : List DataEntry) (fault : MergeFault) → answer_of conflict entries ≡ Err fault
    → HasCause (cause_in (Err fault))
answer-cause (Some key) entries found is =
    let same : fault.Conflict key ≡ found = cc in
    subst (λ f. HasCause (cause_in (Err f))) same (cause.Conflict key, refl)
answer-cause None entries found is =
    let size = size_of entries in
    cond_both (nat_le size 10240) (Ok entries) (Err (fault.TooLarge size)) (λ answer. answer ≡ Err found → HasCause (cause_in (Err found)))
    (λ e same. absurd (cc)) (λ e same.
    let one : fault.TooLarge size ≡ found = cc in
    subst (λ f. HasCause (cause_in (Err f))) one (cause.TooLarge size, refl)) is

merged-cause : (how : Merger) (inputs : List (List DataEntry)) (fault : MergeFault) → merged how inputs ≡ Err fault → HasCause (cause_in (Err fault))
merged-cause merger.Overwriting inputs fault is = answer-cause None (overwritten inputs) fault is
merged-cause merger.ArrayCreating inputs fault is = answer-cause (least_conflict inputs) (arrays inputs) fault is

input_by-cause : (period : Option Period) (works : List Record) (work : Record) (fault : MergeFault) → input_by period works work ≡ Err fault
    → HasCause (cause_in (Err fault))
input_by-cause None works work fault is = merged-cause work.request.merger (work.request.input ∷ outputs_for works work) fault is
input_by-cause (Some period) works work fault is = absurd (cc)

-- work that has no input can't start
pub start_refusal-some : (s : State) (work : Record) (fault : MergeFault) → input_of s work ≡ Err fault → HasCause (start_refusal s work)
start_refusal-some s work fault is =
    cond_both (is_live s.instances work.request.class) (cause_in (input_of s work)) (Some cause.NoWorker) HasCause
    (λ live. subst (λ input. HasCause (cause_in input)) (sym is) (input_by-cause work.request.period s.works work fault is)) (λ none. (cause.NoWorker, refl))
