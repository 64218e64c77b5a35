-- What callers made who served their lines, each by itself.
use Rattle.std.proofs.Common.{◌≡◌, ℕ, suc, ◌<◌, List, [], ◌∷◌, ◌++◌, length, map, None, slice_index_or, refl, sym, ap, ap₂, subst, ◌∙◌, arith}
use Rattle.std.specs.List.{AllByRecursion}
use mathlib.Core.List.{IsPrefix}
use Rattle.wm_collections.proofs.Lists.{All-weaker}
use Rattle.wm_callers_program.specs.Lines.{lines_for, AskedLine}
use Rattle.wm_callers_program.specs.Made.{lines_by}
use Rattle.wm_callers_program.specs.Serving.{HasOwnPlaces, HasServed, HaveServed, IsFresh, IsReady, IsServed}
use Rattle.wm_callers_program.specs.declared.caller.Caller.{Caller}

-- callers of whom each has served, place by place
pub served-each : {J : Type 0} (olds news : List (Caller J)) → length news ≡ length olds
    → ((k : ℕ) (d : Caller J) → k < length olds → HasServed (slice_index_or olds k d) (slice_index_or news k d)) → HaveServed olds news
served-each [] [] len each = tt
served-each [] (new ∷ news) len each = absurd (omega (arith, len))
served-each (old ∷ olds) [] len each = absurd (omega (arith, len))
served-each (old ∷ olds) (new ∷ news) len each =
    (each 0 old (omega arith), served-each olds news (omega (arith, len)) (λ k d below. each (suc k) d (omega (arith, below))))

-- ---- callers that were ready

served-ready : {J : Type 0} (callers : ℕ) (lines : List AskedLine) (old new : Caller J) → IsReady callers lines old → HasServed old new → IsServed callers lines new
served-ready callers lines old new ready served =
    let nothing : lines_by old.pass ≡ [] = ap lines_by ready.fresh.pass_is in
    let own : lines_by old.pass ++ old.lot ≡ lines_for callers new.pass.number lines =
    ap (λ l. l ++ old.lot) nothing ∙ ready.lot_is ∙ ap (λ number. lines_for callers number lines) (sym served.number_is) in
    record {
      called = record { own_places = served.own_places; front = subst (IsPrefix (lines_by new.pass)) own served.front };
      whole = λ none. served.whole none ∙ own;
      fault = served.fault;
    }

pub all-served : {J : Type 0} (callers : ℕ) (lines : List AskedLine) (olds news : List (Caller J)) → HaveServed olds news
    → AllByRecursion (IsReady callers lines) olds → AllByRecursion (IsServed callers lines) news
all-served callers lines [] [] served ready = tt
all-served callers lines [] (new ∷ news) served ready = absurd served
all-served callers lines (old ∷ olds) [] served ready = absurd served
all-served callers lines (old ∷ olds) (new ∷ news) served ready =
    (served-ready callers lines old new ready.0 served.0, all-served callers lines olds news served.1 ready.1)

-- their numbers are the same
pub numbers-served : {J : Type 0} (olds news : List (Caller J)) → HaveServed olds news
    → map (λ (c : Caller J). c.pass.number) news ≡ map (λ (c : Caller J). c.pass.number) olds
numbers-served [] [] served = refl
numbers-served [] (new ∷ news) served = absurd served
numbers-served (old ∷ olds) [] served = absurd served
numbers-served (old ∷ olds) (new ∷ news) served = ap₂ ◌∷◌ served.0.number_is (numbers-served olds news served.1)

-- those that are fresh may be served
pub fresh-may : {J : Type 0} (callers : List (Caller J)) → AllByRecursion IsFresh callers
    → AllByRecursion (λ caller. (caller.refused ≡ None) × HasOwnPlaces caller.pass) callers
fresh-may callers fresh = All-weaker callers (λ caller is. (is.going, subst HasOwnPlaces (sym is.pass_is) tt)) fresh
