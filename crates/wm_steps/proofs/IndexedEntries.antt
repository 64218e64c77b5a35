-- Records in order come into an index one after another.
use Rattle.std.proofs.Common.{◌≡◌, ℕ, ◌+◌, ◌<◌, false, List, [], ◌∷◌, ◌++◌, drop, get_or, length, map, take, None, option_map, sym, ◌∙◌, ap, subst}
use Rattle.std.specs.List.{AllByRecursion}
use Rattle.std.proofs.lemmas.List.{drop_more, map-append, take-append-drop, take_more}
use Rattle.wm_collections.specs.Lists.{AllLater}
use Rattle.wm_collections.proofs.Lists.{find-fails, All-map}
use Rattle.wm_index.specs.Entries.{by_id, is_id, Entry}
use Rattle.wm_machine.specs.Valid.{IsBefore}
use Rattle.wm_machine.specs.declared.record.Record.{Record}
use Rattle.wm_steps.proofs.EntryKept.{whole_entry, IsBeside}
use Rattle.wm_steps.proofs.EntryLists.{across, other-bytes}

-- the record at a place has another number and another id than those before it
pub beside-before : (works : List Record) (i : ℕ) (work : Record) → i < length works → work ≡ get_or works i work → AllLater IsBefore works
    → IsBeside (map whole_entry (take i works)) work
beside-before works i work within is in_order =
    let left : drop i works ≡ work ∷ drop (i + 1) works = drop_more works i work within ∙ ap (λ (w : Record). w ∷ drop (i + 1) works) (sym is) in
    let whole : works ≡ take i works ++ work ∷ drop (i + 1) works =
    sym (take-append-drop i works) ∙ ap (λ (later : List Record). take i works ++ later) left in
    let before : AllByRecursion (λ one. IsBefore one work) (take i works) =
    (across IsBefore (take i works) (work ∷ drop (i + 1) works) (subst (AllLater IsBefore) whole in_order)).0 in
    record {
      below = All-map (λ (entry : Entry). entry.seq < work.seq) whole_entry (take i works) (λ one is. is.number) before;
      other = All-map (λ (entry : Entry). is_id work.request.id entry.id ≡ false) whole_entry (take i works)
          (λ one is. other-bytes one.request.id work.request.id is.id) before;
    }

-- no other has its id
pub unfound : (entries : List Entry) (work : Record) → IsBeside entries work → by_id entries work.request.id ≡ None
unfound entries work beside =
    ap (option_map (λ (entry : Entry). entry.seq)) (find-fails (λ (entry : Entry). is_id work.request.id entry.id) entries beside.other)

-- and it comes behind them
pub whole-more : (works : List Record) (i : ℕ) (work : Record) → i < length works → work ≡ get_or works i work
    → map whole_entry (take i works) ++ whole_entry work ∷ [] ≡ map whole_entry (take (i + 1) works)
whole-more works i work within is =
    sym (map-append whole_entry (take i works) (work ∷ []))
    ∙ ap (map whole_entry) (ap (λ one. take i works ++ one ∷ []) is ∙ sym (take_more works i work within))
