-- A work is ready where its node is free.
use Rattle.std.proofs.Common.{◌≡◌, ℕ, ◌&&◌, Bool, false, cond, eqb, List, Option, Some, None, IfSome, sym, ◌∙◌, ap, inl, inr}
use Rattle.std.specs.List.{AllByRecursion}
use Rattle.std.proofs.lemmas.Bool.{and_parts, cases_Bool}
use Rattle.std.proofs.lemmas.Option.{cond_some, none-some}
use Rattle.wm_collections.proofs.Lists.{All-find}
use Rattle.wm_graph.specs.Marks.{unmet}
use Rattle.wm_graph.specs.Nodes.{NodeFields}
use Rattle.wm_machine.specs.First.{is_waiting}
use Rattle.wm_machine.specs.Input.{work_numbered}
use Rattle.wm_machine.specs.Valid.{IsRecord}
use Rattle.wm_machine.specs.declared.record.Record.{Record}
use Rattle.wm_ready.specs.Entries.{is_same, Entry}
use Rattle.wm_steps.specs.Readied.{entry_of, if_free, is_entry_of, is_waiting_as}
use Rattle.wm_changes.specs.Readiness.{is_ready_in}

module _ (names : List (List ℕ)) (entry : Entry) (nodes : List NodeFields) (works : List Record) (work : Record)
    (is : (is_waiting work.phase && eqb (unmet nodes work.seq) 0) ≡ is_ready_in works work) where
  abbrev same : Bool
  same = is_same entry (entry_of names work)

  -- the entry of a free work is that of the work, which is ready
  pub free-is : (free : Record) → Some free ≡ if_free nodes work → is_waiting_as names entry free ≡ is_entry_of names works entry work
  free-is free found =
      let parts = cond_some (is_waiting work.phase && eqb (unmet nodes work.seq) 0) work free (sym found) in
      let waits = and_parts (is_waiting work.phase) (eqb (unmet nodes work.seq) 0) parts.0 in
      ap (λ (w : Record). is_waiting_as names entry w) (sym parts.1) ∙ ap (λ b. b && same) (waits.0 ∙ sym parts.0 ∙ is)

  pub not-free : None ≡ if_free nodes work → is_entry_of names works entry work ≡ false
  not-free none =
      elim (cases_Bool (is_waiting work.phase && eqb (unmet nodes work.seq) 0)) as (λ _. is_entry_of names works entry work ≡ false) [
        | inl e ↦ absurd (none-some work (none ∙ ap (λ b. cond b (Some work) None) e))
        | inr e ↦ ap (λ b. b && same) (sym is ∙ e)
      ]

-- a record that is found by its number is within its limits
pub numbered-record : (works : List Record) (number : ℕ) (found : Option Record) → found ≡ work_numbered number works → AllByRecursion IsRecord works
    → IfSome found IsRecord
numbered-record works number None is records = tt
numbered-record works number (Some work) is records = All-find IsRecord (λ (w : Record). eqb w.seq number) works work (sym is) records
