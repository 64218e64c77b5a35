-- The first line and the one before the text are read from what is written.
use Rattle.std.proofs.Common.{◌≡◌, ℕ, ◌+◌, List, [], ◌∷◌, length, map, Some, refl, le-leb}
use Rattle.std.specs.List.{AllByRecursion}
use Rattle.std.proofs.lemmas.List.{length-map}
use Rattle.wm_audit_text.proofs.LineValues.{read_by-text}
use Rattle.wm_audit_text.specs.Fields.{items_at, number_at, text_at, text_in}
use Rattle.wm_audit_text.specs.Headers.{end_in, end_json, hand_in, hand_json, hands_from, hands_in, header_json, kind_in}
use Rattle.wm_audit_text.specs.Lines.{end_line, end_of, header_form, header_in, header_line, header_of, IsHeaderOf}
use Rattle.wm_data.proofs.ItemLists.{item_list-items_of}
use Rattle.wm_machine.specs.Opened.{AreFresh, IsFresh}
use Rattle.wm_machine.specs.Valid.{AreNumberedInOrder}
use Rattle.wm_machine.specs.declared.state.Instance.{Instance}
use Rattle.wm_script.specs.Lines.{value_of}
use Rattle.wm_worker.specs.declared.kind.Kind.{Kind}
use Rattle.wm_worker.specs.declared.kind.Kind.TheVariants as kind

kind-read : (hand : Instance) (k : Kind) → hand.kind ≡ k → kind_in (hand_json hand) ≡ k
unfolding text_at text_in
kind-read hand kind.Echo is = rw is refl
kind-read hand kind.Sum is = rw is refl
kind-read hand kind.FailUntil is = rw is refl
kind-read hand kind.RetryUntil is = rw is refl
kind-read hand kind.Count is = rw is refl
kind-read hand kind.Wait is = rw is refl
kind-read hand kind.Custom is = rw is refl

hand-read : (number : ℕ) (hand : Instance) → hand.number ≡ number → IsFresh hand → hand_in number (hand_json hand) ≡ hand
unfolding text_at text_in
hand-read number hand is fresh = rw (kind-read hand hand.kind refl, is, fresh.out, fresh.retired) refl

hands-read : (number : ℕ) (hands : List Instance) → AreNumberedInOrder number hands → AllByRecursion IsFresh hands
    → hands_from number (map hand_json hands) ≡ hands
hands-read number [] order fresh = refl
hands-read number (hand ∷ hands) order fresh = rw (hand-read number hand order.0 fresh.0, hands-read (number + 1) hands order.1 fresh.1) refl

header-read : (hands : List Instance) (rows : ℕ) → AreFresh hands → header_in (header_json hands rows) ≡ Some (record { hands = hands; rows = rows })
unfolding hands_in items_at number_at
header-read hands rows fresh =
    rw (item_list-items_of (map hand_json hands), length-map hands hand_json, le-leb (length hands) 10000 fresh.few, hands-read 0 hands fresh.in_order fresh.all) refl

pub IsHeaderOf-hands : (hands : List Instance) (rows : ℕ) → value_of (header_line hands rows) ≡ Some (header_json hands rows) → AreFresh hands
    → IsHeaderOf hands rows
unfolding header_of
IsHeaderOf-hands hands rows value fresh = read_by-text header_form header_in (record { hands = hands; rows = rows }) value (header-read hands rows fresh)

pub end-told : (size : ℕ) → value_of (end_line size) ≡ Some (end_json size) → end_of (end_line size) ≡ Some size
unfolding end_of end_in number_at
end-told size value = read_by-text end_json (λ d. Some (end_in d)) size value refl
