-- What a commit of a step's rows makes of what a crash may leave.
use Rattle.std.proofs.Common.{◌≡◌, List, Option, Some, None, refl, sym, ◌∙◌, ap, subst, inl, inr}
use Rattle.std.specs.Prelude.{◌⊎◌, IfSome, IsSome}
use Rattle.wm_keeper.specs.Keeper.{changed}
use Rattle.wm_keeper.specs.Store.{Store}
use Rattle.wm_keeper.specs.declared.row.Change.{Change}
use Rattle.wm_keeper.specs.declared.row.Row.{Row}
use Rattle.wm_machine.specs.Opened.{Opened}
use Rattle.wm_machine.specs.Rows.{rows_of}
use Rattle.wm_machine.specs.Step.{after}
use Rattle.wm_machine.specs.Valid.{Valid}
use Rattle.wm_machine.specs.declared.event.Event.{Event}
use Rattle.wm_machine.specs.declared.state.Instance.{Instance}
use Rattle.wm_machine.specs.declared.state.State.{State}
use Rattle.wm_opening.proofs.OpenedAgain.{opened-again}
use Rattle.wm_rows.specs.declared.fault.RowFault.{RowFault}
use Rattle.wm_rows.specs.declared.fault.RowFault.TheVariants as row
use Rattle.wm_changes.specs.StepChanges.{changed_state, row_changes, Fits, IsStepOf}
use Rattle.wm_changes.specs.declared.change.StepChange.{StepChange}
use Rattle.wm_engine.proofs.StepRows.{rows-changed}
use Rattle.wm_steps.specs.Stored.{HoldsOnly, KeepsImages, LeavesBefore, LeavesOnly, MakesImages}
use Rattle.wm_engine.specs.Images.{WouldLeave, WouldOpen}
use Rattle.wm_engine.specs.Begins.{begin_fault_of, begin_trouble_of, LeavesOpened, LeavesUnopened}
use Rattle.wm_engine.specs.TableState.{TableState}
use Rattle.wm_engine.specs.declared.trouble.Trouble.{Trouble}
use Rattle.wm_engine.specs.declared.trouble.Trouble.TheVariants as trouble

-- ---- a step

-- a commit of a step's rows leaves just those of the state after it
pub images-made : (s now : State) (change : StepChange) (before after : Store) → Valid s → Fits s change → HoldsOnly (rows_of s) before
    → now ≡ changed_state change s → MakesImages (row_changes change) before after → LeavesOnly (rows_of s) before → LeavesOnly (rows_of now) after
images-made s now change before after valid fits holds now_is makes leaves image is =
    makes (rows_of s) holds leaves image is ∙ rows-changed s change valid fits ∙ ap rows_of (sym now_is)

-- a refused one leaves what it could leave before, or those
pub images-kept : (s : State) (change : StepChange) (before after : Store) → Valid s → Fits s change → HoldsOnly (rows_of s) before
    → KeepsImages (row_changes change) before after → LeavesBefore (rows_of (changed_state change s)) before after
images-kept s change before after valid fits holds keeps image is = elim (keeps (rows_of s) holds image is) [
  | inl old ↦ inl old
  | inr made ↦ inr (made.0, made.1 ∙ rows-changed s change valid fits)
]

-- these are the rows that the step's event would have left
pub would_leave : (s : State) (change : StepChange) (image : List Row) → IsStepOf s change → image ≡ rows_of (changed_state change s)
    → WouldLeave (λ e. e ≡ change.event) s image
would_leave s change image is left = record { e = change.event; is = refl; legal = is.legal; rows = left ∙ ap rows_of is.state }

-- an event of some is one of others
pub WouldLeave-as : (may also : Event → Type 0) (s : State) (image : List Row) → ((e : Event) → may e → also e) → WouldLeave may s image
    → WouldLeave also s image
WouldLeave-as may also s image weaker would = record { e = would.e; is = weaker would.e would.is; legal = would.legal; rows = would.rows }

-- ---- the opening

-- rows that are those told are told as these
told_rows : (rows : List Row) (told : Option (List Row)) → IfSome told (λ held. rows ≡ held) → IfSome told (λ held. held ≡ rows)
told_rows rows None is = tt
told_rows rows (Some held) is = sym is

-- a commit of the rows that change leaves just those of the state opened
pub opened-left : {K : Type 0} (store : K → Store) (rows : List Row) (changes : List Change) (keeper : K) (table : TableState K)
    → IfSome (store keeper).rows (λ held. rows ≡ held) → changed changes rows ≡ rows_of table.first
    → MakesImages changes (store keeper) (store table.keeper) → LeavesOpened store rows keeper table
opened-left store rows changes keeper table holds is makes leaves image left =
    makes rows (told_rows rows (store keeper).rows holds) leaves image left ∙ is

-- a refused one leaves what it could leave before, or those
pub unopened-left : {K : Type 0} (store : K → Store) (rows : List Row) (instances : List Instance) (changes : List Change) (first : State)
    (keeper now : K) (why : Trouble)
    → IfSome (store keeper).rows (λ held. rows ≡ held) → changed changes rows ≡ rows_of first → Opened rows instances first
    → KeepsImages changes (store keeper) (store now) → LeavesUnopened store rows instances keeper (now, begin_trouble_of why)
unopened-left store rows instances changes first keeper now why holds is opened keeps =
    let left : (image : List Row) → (store now).images image → (store keeper).images image ⊎ (IsSome (store keeper).rows × WouldOpen rows instances image) =
    λ image left. elim (keeps rows (told_rows rows (store keeper).rows holds) image left) [
      | inl old ↦ inl old
      | inr made ↦ inr (
        made.0,
        record {
          first = first;
          opened = opened;
          left = made.1 ∙ is;
          again = subst (λ (rows : List Row). Opened rows instances first) (sym (made.1 ∙ is)) (opened-again rows instances first opened);
        },
      )
    ] in
    elim why as (λ why. LeavesUnopened store rows instances keeper (now, begin_trouble_of why)) [
      | trouble.KeeperFault ↦ left
      | trouble.Memory ↦ left
    ]

-- and so does an opening that didn't come to a commit
pub unopened-same : {K : Type 0} (store : K → Store) (rows : List Row) (instances : List Instance) (keeper : K) (fault : RowFault)
    → LeavesUnopened store rows instances keeper (keeper, begin_fault_of fault)
unopened-same store rows instances keeper (row.BadRow seq) = refl
unopened-same store rows instances keeper (row.Unsound seq) = refl
unopened-same store rows instances keeper row.Memory = refl
