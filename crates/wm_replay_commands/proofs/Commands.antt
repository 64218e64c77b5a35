-- Outcomes, and works that are removed.
use Rattle.std.proofs.Common.{◌≡◌, ℕ, Bool, not, List, filter, length, sym, ◌∙◌, ap}
use Rattle.std.specs.List.{count_by}
use Rattle.std.proofs.lemmas.List.{length-map}
use Rattle.std.proofs.lemmas.List.Sums.{length-filter}
use Rattle.wm_collections.specs.Lists.{AllLater, is_among}
use Rattle.wm_collections.proofs.Lists.{All-weaker, filter-same}
use Rattle.wm_machine.proofs.Runnings.{WorksAscend-in_order}
use Rattle.wm_machine.specs.Group.{numbers_in}
use Rattle.wm_machine.specs.Replied.{Outcome}
use Rattle.wm_machine.specs.Valid.{IsBefore}
use Rattle.wm_machine.specs.declared.record.Record.{Record}
use Rattle.wm_machine.specs.declared.reply.Reply.{Reply}
use Rattle.wm_machine.specs.declared.state.State.{State}
use Rattle.wm_unique.proofs.Numbered.{among_filter}

-- an outcome is its reply and its state
pub outcome-is : (of : Outcome) (answer : Reply) (now : State) → answer ≡ of.reply → now ≡ of.state → of ≡ record { reply = answer; state = now }
outcome-is of answer now reply_is state_is i = record { reply = sym reply_is i; state = sym state_is i }

-- as many numbers as works pass
pub numbers-count : (test : Record → Bool) (works : List Record) → length (numbers_in (filter test works)) ≡ count_by test works
numbers-count test works = length-map (filter test works) (λ (work : Record). work.seq) ∙ length-filter test works

-- the works but for those of the numbers of the ones that pass
pub without_numbers : (test : Record → Bool) (works : List Record) (numbers : List ℕ) → AllLater IsBefore works → numbers ≡ numbers_in (filter test works)
    → filter (λ work. not (is_among numbers work.seq)) works ≡ filter (λ work. not (test work)) works
without_numbers test works numbers in_order are =
    ap (λ (ns : List ℕ). filter (λ (work : Record). not (is_among ns work.seq)) works) are
    ∙ filter-same _ _ works (All-weaker works (λ (work : Record) is. ap not is) (among_filter test works (WorksAscend-in_order works in_order)))
