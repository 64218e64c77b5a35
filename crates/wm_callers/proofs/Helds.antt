-- What a call does to what stands under the lock, and to a pass.
use Rattle.std.proofs.Common.{◌≡◌, ℕ, ◌+◌, List, [], ◌∷◌, ◌++◌, length, refl, sym, ap, ◌∙◌, append_assoc, length-append}
use Rattle.std.proofs.lemmas.List.{map-append}
use mathlib.Core.List.{IsPrefix}
use Rattle.atomic_table.specs.declared.shared.Seat.{Seat}
use Rattle.wm_collections.proofs.Lists.{All-push}
use Rattle.wm_callers.specs.Calls.{IsCalled}
use Rattle.wm_callers.specs.ForDesk.{IsForDesk}
use Rattle.wm_callers.specs.History.{asked_at, asked_by, asked_in, IsOfDesk, Stands}
use Rattle.wm_callers.specs.Inputs.{DeskInputs}
use Rattle.wm_callers.specs.Invariants.{HeldInvariant, PassInvariant, pass_state}
use Rattle.wm_callers.specs.Places.{places_of, ArePart}
use Rattle.wm_callers.specs.Told.{TableTold}
use Rattle.wm_callers.specs.Rule.{all_of, own_of, with_call, IsDeskSeat, IsPassSeat}
use Rattle.wm_machine.specs.declared.command.Command.{Command}
use Rattle.wm_machine.specs.declared.event.Event.{Event}
use Rattle.wm_machine.specs.declared.event.Event.TheVariants as event
use Rattle.wm_machine.specs.declared.reply.Reply.{Reply}
use Rattle.wm_callers.specs.declared.entry.Signed.{Signed}
use Rattle.wm_callers.specs.declared.pass.Receipt.{Receipt}
use Rattle.wm_callers.specs.declared.view.View.{View}
use Rattle.wm_callers.proofs.Lists.{part-longer, part-signed}

-- ---- histories

asked-append : (log more : List Event) → asked_in (log ++ more) ≡ asked_in log ++ asked_in more
asked-append [] more = refl
asked-append (e ∷ log) more = ap (λ rest. asked_at e ++ rest) (asked-append log more) ∙ sym (append_assoc (asked_at e) (asked_in log) (asked_in more))

abbrev pub entry_of : ℕ → ℕ → Command → Reply → Signed
entry_of number line command reply = record { caller = number; line = line; command = command; reply = reply }

-- a log and its history with one command more
pub stands-push : (callers : List ℕ) (log : List Event) (all : List Signed) (number line : ℕ) (command : Command) (reply : Reply) → IsForDesk command → Stands callers log all
    → Stands (callers ++ number ∷ []) (log ++ event.Command line command reply ∷ []) (all ++ entry_of number line command reply ∷ [])
stands-push callers log all number line command reply fits stands =
    let entry = entry_of number line command reply in
    record {
      numbers = map-append (λ (e : Signed). e.caller) all (entry ∷ []) ∙ ap (λ numbers. numbers ++ number ∷ []) stands.numbers;
      commands = map-append asked_by all (entry ∷ []) ∙ ap (λ asked. asked ++ asked_by entry ∷ []) stands.commands
          ∙ sym (asked-append log (event.Command line command reply ∷ []));
      alone = All-push IsOfDesk log (event.Command line command reply) stands.alone fits;
    }

-- ---- the locked value

pub held-called : (desk : DeskInputs) (before now : TableTold) (callers numbers : List ℕ) (seat next : Seat (Unit {0}) View) (calls counted faults number line : ℕ) (command : Command) (reply : Reply)
    → IsForDesk command → HeldInvariant desk before callers seat calls faults → now.log ≡ before.log ++ event.Command line command reply ∷ [] → now.faults ≡ before.faults
    → IsDeskSeat desk.board next → all_of next ≡ all_of seat ++ entry_of number line command reply ∷ [] → numbers ≡ callers ++ number ∷ [] → counted ≡ calls + 1
    → HeldInvariant desk now numbers next counted faults
held-called desk before now callers numbers seat next calls counted faults number line command reply fits held log count rest all more one =
    let entry = entry_of number line command reply in
    let longer : length (all_of next) ≡ length (all_of seat) + 1 = ap length all ∙ length-append (all_of seat) (entry ∷ []) in
    record {
      seat_is = rest;
      stands = rw (more, log, all) (stands-push callers before.log (all_of seat) number line command reply fits held.stands);
      counted = one ∙ ap (λ n. n + 1) held.counted ∙ sym longer;
      faulted = rw count held.faulted;
      later = rw count held.later;
    }

-- ---- the pass

pub pass-called : (desk : DeskInputs) (number place : ℕ) (seat next : Seat (Unit {0}) View) (before_it : List Signed) (entry : Signed) (parts parts_next amount amount_next met : ℕ)
    → PassInvariant desk number seat parts amount met → IsPassSeat desk.board next → own_of next ≡ with_call (own_of seat) (before_it ++ entry ∷ []) place
    → place ≡ length before_it → entry.caller ≡ number → IsPrefix (own_of seat).seen before_it
    → parts_next ≡ parts → amount_next ≡ amount + 1 → PassInvariant desk number next parts_next amount_next met
pass-called desk number place seat next before_it entry parts parts_next amount amount_next met pass rest same at own begins parts_same one = record {
  seat_is = rest;
  number_is = ap (λ own. own.number) same ∙ pass.number_is;
  one_part = parts_same ∙ pass.one_part;
  calls = one ∙ ap (λ n. n + 1) pass.calls ∙ sym (length-append (own_of seat).mine (place ∷ [])) ∙ sym (ap (λ own. length own.mine) same);
  fault_part = pass.fault_part;
  own_places = rw (same, at) (part-signed number (own_of seat).mine (own_of seat).seen before_it entry own begins pass.own_places);
}

-- what a call did to it
pub called : (number line units : ℕ) (command : Command) (receipt : Receipt) (seat next : Seat (Unit {0}) View) (all : List Signed)
    → (own_of seat).number ≡ number → IsPrefix (own_of seat).seen all
    → own_of next ≡ with_call (own_of seat) (all ++ entry_of number line command receipt.reply ∷ []) receipt.place → receipt.place ≡ length all
    → ArePart (own_of seat).mine (places_of number (own_of seat).seen)
    → IsCalled line command receipt (pass_state number seat units) (pass_state number next units)
called number line units command receipt seat next all is begins same place part = record {
  between = begins.0;
  seen_is = ap (λ own. own.seen) same ∙ ap (λ front. front ++ entry_of number line command receipt.reply ∷ []) (sym begins.1);
  place_is = place ∙ sym (ap length begins.1);
  mine_is = ap (λ own. own.mine) same;
  number_is = refl;
  units_are = refl;
  own_places = rw (same, place)
      (part-signed number (own_of seat).mine (own_of seat).seen all (entry_of number line command receipt.reply) refl begins part);
}

-- a pass that has seen more
pub pass-learned : (desk : DeskInputs) (number : ℕ) (seat next : Seat (Unit {0}) View) (parts amount met : ℕ) → PassInvariant desk number seat parts amount met
    → IsPassSeat desk.board next → (own_of next).number ≡ (own_of seat).number → (own_of next).mine ≡ (own_of seat).mine
    → IsPrefix (own_of seat).seen (own_of next).seen → PassInvariant desk number next parts amount met
pass-learned desk number seat next parts amount met pass rest same mine begins = record {
  seat_is = rest;
  number_is = same ∙ pass.number_is;
  one_part = pass.one_part;
  calls = pass.calls ∙ sym (ap length mine);
  fault_part = pass.fault_part;
  own_places = rw mine (part-longer number (own_of seat).mine (own_of seat).seen (own_of next).seen begins pass.own_places);
}
