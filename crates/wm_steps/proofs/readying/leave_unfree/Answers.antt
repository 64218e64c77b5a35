use Rattle.std.proofs.Common.{◌≡◌, ◌&&◌, ◌||◌, Bool, true, false, not, ℕ, List, Bor, Option, None, Some, IfSome, is_some, refl, sym, ◌∙◌, ap}
use Rattle.std.specs.Option.{option_copied}
use Rattle.std.proofs.Math.Bool.{and-true}
use Rattle.wm_machine.specs.First.{is_waiting}
use Rattle.wm_machine.specs.declared.record.Record.{Record}
use Rattle.wm_ready.specs.Entries.{has, is_same, Entry}
use Rattle.wm_steps.specs.Readied.{entry_of, is_left}
use Rattle.wm_steps.proofs.readying.leave_unfree.Goals as goal

-- where the work itself is free, each entry is left
left-own : (names : List (List ℕ)) (work : Record) (free : Option (Bor Record)) → IfSome (option_copied free) (λ one. one ≡ work) → is_some free ≡ true
    → (entry : Entry) → is_left names work (option_copied free) entry ≡ true
left-own names work None itself there entry = absurd cc
left-own names work (Some one) itself there entry =
    ap (λ (w : Record). is_left names work (Some w) entry) itself ∙ same (is_waiting work.phase) (is_same entry (entry_of names work)) where
      same : (waits is : Bool) → (not (waits && is) || is) ≡ true
      same true true = refl
      same true false = refl
      same false is = refl

pub returns-else-is_none : goal.returns-else-is_none
returns-else-is_none c =
    λ entry. sym (ap (λ b. has c.args.ready.now entry && b)
    (left-own c.args.classes.now c.args.work.now c.args.free c.requires.itself (c.is_none.ensures ∙ ap not c.if-is_none.false) entry)
    ∙ and-true (has c.args.ready.now entry))
