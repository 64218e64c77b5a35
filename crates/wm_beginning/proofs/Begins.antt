-- A store that wasn't loaded, and an opening that was refused.
use Rattle.std.proofs.Common.{◌≡◌, true, false, List, Option, Some, IfSome, Vec, Global, refl, subst, inl, inr}
use Rattle.wm_beginning.specs.NotBegun.{EarlyCause, IsNotBegun, IsOpeningRefused}
use Rattle.wm_bench.specs.declared.hand.Hand.{Hand}
use Rattle.wm_ended.specs.Causes.{status_by_begin}
use Rattle.wm_ended.specs.declared.status.Status.{Status}
use Rattle.wm_keeper.proofs.Stores.{GoesOn-loaded}
use Rattle.wm_keeper.specs.Store.{Store, IsStoreKept, KeepsTelling}
use Rattle.wm_keeper.specs.declared.row.Row.{Row}
use Rattle.wm_machine.specs.declared.state.Instance.{Instance}
use Rattle.wm_engine.specs.Begins.{is_at_commit, AreChangedByOpening, LeavesUnopened}
use Rattle.wm_engine.specs.declared.trouble.BeginFault.{BeginFault}
use Rattle.wm_engine.specs.declared.trouble.BeginFault.TheVariants as begin

-- what comes back where no opening was committed
pub not_begun-unopened : {K W B : Type 0} (store : K → Store) (instances : List Instance) (held : Option (List Row)) (keeper kept : K) (sink : W)
    (hands : Vec (Hand B) Global) (why : Status)
    → EarlyCause why (store keeper).faults (store kept).faults held → IsStoreKept (store keeper) (store kept) → KeepsTelling (store keeper) (store kept)
    → IsNotBegun store instances hands.items held keeper sink (record { status = why; at_opening = false; keeper = kept; sink = sink; hands = hands })
not_begun-unopened store instances held keeper kept sink hands why cause same telling = record {
  cause = cause;
  at_opening = λ image left. same.images image left;
  rows = same.rows;
  goes_on = GoesOn-loaded (store keeper) (store kept) same telling;
  sink_is = refl;
  hands_back = refl;
}

-- whether the commit of an opening was refused, as the table tells it
pub refused-begin : {K : Type 0} (store : K → Store) (rows : List Row) (instances : List Instance) (keeper : K) (refused : K × BeginFault)
    → IfSome (store keeper).rows (λ held. rows ≡ held) → (is_at_commit refused.1 ≡ true → AreChangedByOpening rows instances)
    → LeavesUnopened store rows instances keeper refused
    → IsOpeningRefused false (is_at_commit refused.1) (status_by_begin refused.1) (Some rows) instances (store keeper) (store refused.0)
refused-begin store rows instances keeper (now, begin.KeeperFault) held changed leaves = record {
  rows = rows;
  told = refl;
  told_left = λ image left. held;
  changed = changed refl;
  why = inl refl;
  images = λ image left. elim (leaves image left) [ inl old ↦ inl old | inr would ↦ inr would.1 ];
}
refused-begin store rows instances keeper (now, begin.CommitMemory) held changed leaves = record {
  rows = rows;
  told = refl;
  told_left = λ image left. held;
  changed = changed refl;
  why = inr refl;
  images = λ image left. elim (leaves image left) [ inl old ↦ inl old | inr would ↦ inr would.1 ];
}
refused-begin store rows instances keeper (now, begin.Memory) held changed same = λ image left. subst (λ k. (store k).images image) same left
refused-begin store rows instances keeper (now, begin.Bad seq bad_row) held changed same = λ image left. subst (λ k. (store k).images image) same left
