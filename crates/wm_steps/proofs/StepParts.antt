-- What the parts of a view owe to a step, and what they are after it.
use Rattle.std.proofs.Common.{◌≡◌, ℕ, ◌<◌, ◌≤◌, ◌^◌, false, List, ◌++◌, map, sym, ◌∙◌, ap, subst}
use Rattle.std.specs.List.{AllByRecursion}
use Rattle.std.proofs.lemmas.List.{append-nil}
use Rattle.wm_collections.proofs.Lists.{All-stored, All-weaker}
use Rattle.wm_changes.specs.Nodes.{nodes_of}
use Rattle.wm_changes.specs.StepChanges.{changed_state, changed_works, next_run_by, Fits, HasNextRun, IsLettingGo, IsStepOf}
use Rattle.wm_changes.specs.declared.change.RunChange.{RunChange}
use Rattle.wm_changes.specs.declared.change.RunChange.TheVariants.{Unchanged, Begin, Turn, End, Stop, Renew}
use Rattle.wm_changes.specs.declared.change.StepChange.{StepChange}
use Rattle.wm_graph.specs.Nodes.{HasNode, NodeFields}
use Rattle.wm_machine.specs.Valid.{Valid}
use Rattle.wm_machine.specs.declared.record.Record.{Record}
use Rattle.wm_machine.specs.declared.state.State.{State}
use Rattle.wm_index.specs.Entries.{Entry}
use Rattle.wm_steps.proofs.CoveredSteps.{covered-step}
use Rattle.wm_steps.proofs.Nodes.{node-stored}
use Rattle.wm_steps.proofs.StepNodes.{step-follows, step-grown, viewed-step}
use Rattle.wm_steps.specs.Covers.{mark_after, mark_of, takes_members, AreCovered}
use Rattle.wm_steps.specs.Entries.{AreEntriesOf, IsFollowable}
use Rattle.wm_steps.specs.Following.{placed_node}
use Rattle.wm_steps.specs.Startables.{HaveRooms}
use Rattle.wm_steps.specs.Views.{IsViewed}
use Rattle.wm_steps.specs.declared.covers.Covers.{Covers}
use Rattle.wm_steps.specs.declared.startable.Startable.{Startable}

-- the step of the value is one of the fields
pub step-inside : (s now : State) (change : StepChange) → s ≡ now → IsStepOf now change → IsStepOf s change
step-inside s now change same is = subst (λ (t : State). IsStepOf t change) (sym same) is

-- ---- runs

-- each run is at one of its turns
pub turns_left : (s : State) → Valid s → AllByRecursion (λ run. run.turn ≤ 999) s.runs
turns_left s valid = All-weaker s.runs (λ run is. is.turn) valid.runs.each

-- a number below the last has one after it
pub has_next : (run : RunChange) (next : ℕ) → next_run_by run next < 2 ^ 64 → HasNextRun run next
has_next Unchanged next few = tt
has_next (Begin run) next few = few
has_next (Turn run) next few = tt
has_next (End run instance) next few = tt
has_next (Stop numbers) next few = tt
has_next (Renew seq) next few = tt

-- ---- nodes and entries

-- once the nodes of the placed records are added, they are those of all records
pub grown-nodes : (s : State) (change : StepChange) (old new : List NodeFields) → Valid s → Fits s change → old ≡ nodes_of s.works
    → new ≡ old ++ map placed_node change.placed → new ≡ nodes_of (s.works ++ change.placed)
grown-nodes s change old new valid fits old_is new_is =
    new_is ∙ ap (λ (nodes : List NodeFields). nodes ++ map placed_node change.placed) old_is ∙ step-grown s change valid fits

-- each record has its node
pub each-node : (works all : List Record) (graph nodes : List NodeFields) → all ≡ works → nodes ≡ graph → graph ≡ nodes_of works
    → AllByRecursion (λ work. HasNode nodes work.seq) all
each-node works all graph nodes same is graph_is =
    subst (λ (ns : List NodeFields). AllByRecursion (λ work. HasNode ns work.seq) all) (sym (is ∙ graph_is))
    (subst (λ (ws : List Record). AllByRecursion (λ work. HasNode (nodes_of works) work.seq) ws) (sym same)
    (All-weaker works (λ work stored. node-stored work works stored) (All-stored works)))

pub can-follow : (s now : State) (works : List Record) (change : StepChange) → s ≡ now → Valid s → IsStepOf now change → works ≡ s.works
    → IsFollowable works change
can-follow s now works change same valid is works_are =
    subst (λ (all : List Record). IsFollowable all change) (sym works_are) (step-follows s change valid (step-inside s now change same is))

-- ---- ready works

-- what has other ready works alone has the same rooms
pub same-rooms : (s : State) (kept new : Startable) → new ≡ record kept { ready = new.ready } → HaveRooms s kept → HaveRooms s new
same-rooms s kept new is rooms =
    subst (HaveRooms s) (sym is)
    (record { few = rooms.few; named = rooms.named; room = rooms.room; busy_are = rooms.busy_are; tracked = rooms.tracked })

pub ready-then : (one two three : Startable) → two ≡ record one { ready = two.ready } → three ≡ record two { ready = three.ready }
    → three ≡ record one { ready = three.ready }
ready-then one two three first second = second ∙ ap (λ (kept : Startable). record kept { ready = three.ready }) first

-- ---- a run that is let go

letting-works : (s : State) (change : StepChange) → IsLettingGo change → (changed_state change s).works ≡ s.works
letting-works s change is = ap (λ (c : StepChange). changed_works c s.works) is.is ∙ append-nil s.works

letting-takes : (s : State) (change : StepChange) → IsLettingGo change → takes_members s.works change ≡ false
letting-takes s change is = ap (takes_members s.works) is.is

pub letting-next : (change : StepChange) (next : ℕ) → IsLettingGo change → HasNextRun change.run next
letting-next change next is = subst (λ (c : StepChange). HasNextRun c.run next) (sym is.is) tt

-- the marks of unique names are as they were
letting-covered : (s made : State) (covers : Covers) (change : StepChange) → Valid s → IsStepOf s change → IsLettingGo change → made ≡ changed_state change s
    → AreCovered s covers → AreCovered made covers
letting-covered s made covers change valid is away made_is covered =
    covered-step s change valid is.fits made covers covers made_is
    (λ name. sym (ap (λ takes. mark_after takes (mark_of covers name)) (letting-takes s change away))) covered

-- and so are the graph, the index and the works that are ready
pub letting-viewed : (s made : State) (graph : List NodeFields) (index : List Entry) (startable made_startable : Startable) (covers : Covers)
    (change : StepChange) → IsViewed s graph index startable covers → IsStepOf s change → IsLettingGo change → made ≡ changed_state change s
    → HaveRooms made made_startable → made_startable.ready ≡ startable.ready → made_startable.classes ≡ startable.classes
    → IsViewed made graph index made_startable covers
letting-viewed s made graph index startable made_startable covers change viewed is away made_is rooms same_ready same_classes =
    let works = letting-works s change away in
    viewed-step s made graph graph index index startable made_startable covers covers change viewed is made_is (viewed.graph_is ∙ ap nodes_of (sym works))
    (subst (λ (works : List Record). AreEntriesOf works index) (sym works) viewed.entries_are) rooms
    (rw (same_ready, same_classes, works) viewed.startable_are.ready_are)
    (letting-covered s made covers change viewed.valid is away made_is viewed.covered)
