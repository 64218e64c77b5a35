-- The works of an enqueue that was answered stay until an event removes them.
use Rattle.std.proofs.Common.{◌≡◌, ℕ, ◌&&◌, eqb, if◌then◌else◌, Bool, true, false, not, List, [], ◌∷◌, map, pos, Option, Some, None, refl, sym, ap, subst, inl, inr}
use Rattle.std.specs.List.{list_any}
use Rattle.std.proofs.lemmas.Bool.{eqb-true, eq-eqb}
use Rattle.wm_collections.proofs.Lists.{any_passes, list_any-one, HasOne-front, HasOne-last, HasOne-map, HasOne-weaker}
use Rattle.wm_collections.specs.Lists.{HasOne}
use Rattle.wm_machine.specs.Enqueued.{carried_out, made_ready, new_numbers, new_record, outcome_by, placed_after, plan_in, prior_of, refusal_of, with_work}
use Rattle.wm_machine.specs.Plan as plan
use Rattle.wm_machine.specs.Plan.{Plan}
use Rattle.wm_machine.specs.Replay.{Replay}
use Rattle.wm_machine.specs.Replied.{Outcome}
use Rattle.wm_machine.specs.Rows.{row_of, rows_of}
use Rattle.wm_machine.specs.Step.{after}
use Rattle.wm_machine.specs.declared.command.Command.TheVariants as command
use Rattle.wm_machine.specs.declared.command.UniqueName.{UniqueName}
use Rattle.wm_machine.specs.declared.event.Event.{Event}
use Rattle.wm_machine.specs.declared.event.Event.TheVariants as event
use Rattle.wm_machine.specs.declared.record.How.TheVariants as how
use Rattle.wm_machine.specs.declared.record.Record.{Record}
use Rattle.wm_machine.specs.declared.reply.Refusal.{Refusal}
use Rattle.wm_machine.specs.declared.reply.Reply.TheVariants as reply
use Rattle.wm_machine.specs.declared.state.State.{State}
use Rattle.wm_request.specs.declared.request.Batch.{Batch}
use Rattle.wm_request.specs.declared.request.Node.{Node}
use Rattle.wm_table.specs.Acknowledged.{has_work, HasRow, NoneRemoves}

-- ---- the state after an enqueue

-- a record of this number is there
abbrev HasRecord : ℕ → List Record → Type 0
HasRecord number works = HasOne (λ work. work.seq ≡ number) works

-- it stays while others are placed
placed-keeps : (number : ℕ) (s : State) (name : Option (List ℕ)) (after_these : List ℕ) (nodes : List Node) → HasRecord number s.works
    → HasRecord number (placed_after s name after_these nodes).works
placed-keeps number s name after_these [] has = has
placed-keeps number s name after_these (node ∷ nodes) has =
    let work = new_record s name (prior_of s.works after_these node.after) node in
    placed-keeps number (with_work s work) name after_these nodes (HasOne-front (λ w. w.seq ≡ number) s.works (work ∷ []) has)

-- each new number has a record
placed-has : (number : ℕ) (s : State) (name : Option (List ℕ)) (after_these : List ℕ) (nodes : List Node)
    → HasOne (λ one. one ≡ number) (new_numbers s.next nodes) → HasRecord number (placed_after s name after_these nodes).works
placed-has number s name after_these [] is = absurd is
placed-has number s name after_these (node ∷ nodes) is =
    let work = new_record s name (prior_of s.works after_these node.after) node in
    elim is [
      | inl here ↦ placed-keeps number (with_work s work) name after_these nodes (HasOne-last (λ w. w.seq ≡ number) s.works work here)
      | inr later ↦ placed-has number (with_work s work) name after_these nodes later
    ]

-- what is answered so has a record for each number
abbrev HasNumbers : ℕ → List ℕ → Outcome → Type 0
HasNumbers number numbers outcome = reply.Enqueued numbers ≡ outcome.reply → HasRecord number outcome.state.works

carried-has : (number : ℕ) (numbers : List ℕ) (carried : Plan) (s : State) (name : List ℕ) (works : List Node) → HasOne (λ one. one ≡ number) numbers
    → HasNumbers number numbers (carried_out carried s name works)
carried-has number numbers plan.Keeps s name works among is = absurd cc
carried-has number numbers (plan.Updates member) s name [] among is =
    let none : numbers ≡ [] = cc in absurd (subst (HasOne (λ one. one ≡ number)) none among)
carried-has number numbers (plan.Updates member) s name (work ∷ works) among is = absurd cc
carried-has number numbers (plan.Places placing) s name works among is =
    placed-has number _ (Some name) placing.after works
    (let same : numbers ≡ new_numbers (made_ready s placing).next works = cc is in subst (HasOne (λ one. one ≡ number)) same among)

outcome-has : (number : ℕ) (numbers : List ℕ) (refused : Option Refusal) (s : State) (named : Option UniqueName) (works : List Node)
    → HasOne (λ one. one ≡ number) numbers → HasNumbers number numbers (outcome_by refused s named works)
outcome-has number numbers (Some found) s named works among is = absurd cc
outcome-has number numbers None s None works among is =
    placed-has number s None [] works (let same : numbers ≡ new_numbers s.next works = cc in subst (HasOne (λ one. one ≡ number)) same among)
outcome-has number numbers None s (Some unique) works among is = carried-has number numbers (plan_in s unique) s unique.name works among is

-- ---- later events

-- a record of a number, as a test
has-record : (number : ℕ) (works : List Record) → HasRecord number works → list_any (λ work. eqb work.seq number) works ≡ true
has-record number works has =
    list_any-one (λ (work : Record). eqb work.seq number) works (HasOne-weaker works (λ work is. eq-eqb work.seq number is) has)

kept-step : (there now : Bool) → there ≡ true → (there && not now) ≡ false → now ≡ true
kept-step true true is same = refl
kept-step true false is same = absurd cc
kept-step false now is same = absurd cc

kept-log : (number : ℕ) (s last : State) (later : List Event) → Replay s later last → NoneRemoves number s later → has_work number s ≡ true
    → has_work number last ≡ true
kept-log number s last [] same none has = subst (λ (t : State). has_work number t ≡ true) (sym same) has
kept-log number s last (e ∷ later) replays none has =
    kept-log number (after s e) last later replays.1 none.1 (kept-step (has_work number s) (has_work number (after s e)) has none.0)

-- its row is there
row-there : (number : ℕ) (works : List Record) → list_any (λ work. eqb work.seq number) works ≡ true → HasRow number (map row_of works)
row-there number works has =
    HasOne-map (λ row. row.seq ≡ pos number) row_of works (λ work is. ap pos (eqb-true work.seq number is))
    (any_passes (λ (work : Record). eqb work.seq number) works has)

pub acknowledged-kept : (s last : State) (line : ℕ) (named : Option UniqueName) (batch : Batch) (numbers : List ℕ) (number : ℕ) (later : List Event)
    → Replay s (event.Command line (command.Enqueue named batch) (reply.Enqueued numbers) ∷ later) last
    → HasOne (λ one. one ≡ number) numbers
    → NoneRemoves number (after s (event.Command line (command.Enqueue named batch) (reply.Enqueued numbers))) later
    → HasRow number (rows_of last)
acknowledged-kept s last line named batch numbers number later replays among none =
    let works = batch.works in
    let has = outcome-has number numbers (refusal_of s named works) s named works among replays.0.1 in
    row-there number last.works (kept-log number _ last later replays.1 none (has-record number _ has))
