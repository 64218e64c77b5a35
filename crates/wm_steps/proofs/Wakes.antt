-- The wake of the entries is that of the works.
use Rattle.std.proofs.Common.{◌≡◌, ◌⊎◌, ℕ, ◌<◌, ◌≤◌, ◌&&◌, true, false, List, refl, sym, ◌∙◌, arith, Option, Some, None, inl, inr, MatchOption}
use Rattle.std.proofs.lemmas.Bool.{and_from, and_parts, cases_Bool}
use Rattle.std.specs.List.{AllByRecursion}
use Rattle.wm_collections.specs.Lists.{HasOne}
use Rattle.wm_collections.proofs.Lists.{All-stored, All-weaker, any_passes, list_any-stored, HasOne-with}
use Rattle.wm_conditions.specs.Signatures.{AreMet}
use Rattle.wm_machine.specs.Due.{due_of}
use Rattle.wm_machine.specs.First.{has_room}
use Rattle.wm_machine.specs.declared.record.Record.{Record}
use Rattle.wm_machine.specs.declared.state.State.{State}
use Rattle.wm_ready.specs.Entries.{has, is_later, is_same, Entry, IsFirst, IsFirstMoment, NonePasses}
use Rattle.wm_steps.proofs.Firsts.{not-not, same-class, same-due, same-itself, same-signature}
use Rattle.wm_steps.specs.Readied.{entry_of, is_entry_of, AreBusy, AreReady}
use Rattle.wm_changes.specs.Readiness.{is_ready_in}
use Rattle.wm_steps.specs.Wakes.{waits_for_its_moment, IsLeastDue, IsWakeOf}

not-later : (due other seq seq_other : ℕ) → (due < other) ⊎ ((due ≡ other) × (seq ≤ seq_other)) → due ≤ other
not-later due other seq seq_other (inl less) = omega (arith, less)
not-later due other seq seq_other (inr (same, _)) = omega (arith, same)

module _ (names : List (List ℕ)) (s : State) (entries : List Entry) (bits : ℕ) (busy : List ℕ)
    (ready : AreReady names s.works entries) (told : AreMet s.conditions bits) (rooms : AreBusy names s.instances busy) where
  abbrev entry_for : Record → Entry
  entry_for work = entry_of names work

  waits-is : (work : Record) → waits_for_its_moment s work ≡ (is_ready_in s.works work && is_later s.now bits busy (entry_for work))
  waits-is work = rw (told.each work.request.constraints, rooms work.request.class, not-not (has_room s.instances work.request.class)) refl

  -- a work that waits for its moment has an entry that passes
  entry-there : (work : Record) → HasOne (λ other. other ≡ work) s.works → waits_for_its_moment s work ≡ true → has entries (entry_for work) ≡ true
  entry-there work stored waits =
      let parts = and_parts _ _ (sym (waits-is work) ∙ waits) in
      ready (entry_for work)
      ∙ list_any-stored (is_entry_of names s.works (entry_for work)) s.works work stored (and_from _ _ parts.0 (same-itself (entry_for work)))

  entry-passes : (work : Record) → waits_for_its_moment s work ≡ true → is_later s.now bits busy (entry_for work) ≡ true
  entry-passes work waits = (and_parts _ _ (sym (waits-is work) ∙ waits)).1

  none-waits : NonePasses entries (is_later s.now bits busy) → AllByRecursion (λ work. waits_for_its_moment s work ≡ false) s.works
  none-waits none =
      All-weaker s.works (λ work stored. elim (cases_Bool (waits_for_its_moment s work)) as (λ _. waits_for_its_moment s work ≡ false) [
        | inl waits ↦ absurd (none (entry_for work) (entry-there work stored waits) (entry-passes work waits))
        | inr not_waiting ↦ not_waiting
      ]) (All-stored s.works)

  -- the work of an entry that passes waits for its moment, which is the entry's
  entry-waits : (entry : Entry) → is_later s.now bits busy entry ≡ true → (work : Record) → is_entry_of names s.works entry work ≡ true
      → (waits_for_its_moment s work ≡ true) × (due_of work ≡ entry.due)
  entry-waits entry passes work is =
      let parts = and_parts _ _ is in
      let due = same-due entry (entry_for work) parts.1 in
      let sig = same-signature entry (entry_for work) parts.1 in
      let class = same-class entry (entry_for work) parts.1 in
      let later : is_later s.now bits busy (entry_for work) ≡ true = rw (← due, ← sig, ← class) passes in
      (waits-is work ∙ and_from _ _ parts.0 later, sym due)

  first-least : (entry : Entry) → IsFirst entries (is_later s.now bits busy) entry → IsLeastDue s entry.due
  first-least entry first = record {
    there =
        HasOne-with s.works (λ work stored is. entry-waits entry first.passes work is) (All-stored s.works)
        (any_passes (is_entry_of names s.works entry) s.works (sym (ready entry) ∙ first.there));
    least =
        All-weaker s.works (λ work stored waits.
        not-later entry.due (due_of work) entry.seq work.seq
        (first.least (entry_for work) (entry-there work stored waits) (entry-passes work waits))) (All-stored s.works);
  }

  pub wake-is : (wake : Option ℕ) → MatchOption wake (NonePasses entries (is_later s.now bits busy)) (IsFirstMoment entries (is_later s.now bits busy))
      → IsWakeOf s wake
  wake-is None none = none-waits none
  wake-is (Some moment) (entry, first, is) = rw is (first-least entry first)
