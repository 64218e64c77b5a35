use Rattle.std.proofs.Common.{◌≡◌, Some, sym, ap, subst}
use Rattle.wm_engine.proofs.Besides.{has-claimed}
use Rattle.wm_engine.proofs.Claims.{new-claim, IsClaimAnswer-made}
use Rattle.wm_engine.proofs.NoLines.{silent_claim}
use Rattle.wm_engine.proofs.Steps.{IsUntouched-as}
use Rattle.wm_engine.specs.Calls.{IsClaimAnswer}
use Rattle.wm_engine.specs.Engine.{beside}
use Rattle.wm_engine.specs.EngineState.{EngineState}
use Rattle.wm_engine.specs.Images.{IsNoLine}
use Rattle.wm_engine.specs.Rolls.{roll_after}
use Rattle.wm_machine.specs.declared.state.State.{State}
use Rattle.wm_runs.specs.Builds.{IsClaiming}
use Rattle.wm_engine.proofs.engine.Engine.claim.Goals as goal

pub claim_of-requires-clause-claimed : goal.claim_of-requires-clause-claimed
claim_of-requires-clause-claimed g c =
    let claiming = c.in-Some.claiming in
    let is = rw c.in-Some.is at c.in_ok-claiming.ensures in
    let state_is = ap (λ (e : EngineState g.row.K.Denot). e.state) c.self.view_is in
    let claims : IsClaiming c.args.self.now.state claiming = subst (λ (s : State). IsClaiming s claiming) state_is is in
    has-claimed c.args.self.now.state c.make_start.new.self.state claiming claims (c.in-Ok.ensures.ok c.args.self.now.state).state

pub claim_of-requires-clause-new : goal.claim_of-requires-clause-new
claim_of-requires-clause-new g c =
    let i = c.self.inside in
    let claiming = c.in-Some.claiming in
    let is = rw c.in-Some.is at c.in_ok-claiming.ensures in
    let new = new-claim i.view i.roll.parts claiming c.self.invariant.valid c.self.invariant.out is in
    rw (c.make_start.ensures.roll, sym (ap (λ (e : EngineState g.row.K.Denot). e.roll) c.self.view_is)) new

pub returns-in-Ok-clause-ok : goal.returns-in-Ok-clause-ok
returns-in-Ok-clause-ok g c =
    let store = g.K.Keeper.store in
    let claiming = c.in-Some.claiming in
    let old = c.args.self.now in
    let made = c.make_start.new.self in
    let answer = c.claim_of.result in
    let before = c.args.events.now.items in
    let events = c.make_start.new.events.items in
    let is = rw c.in-Some.is at c.in_ok-claiming.ensures in
    let state_is = ap (λ (e : EngineState g.row.K.Denot). e.state) c.self.view_is in
    let claims : IsClaiming old.state claiming = subst (λ (s : State). IsClaiming s claiming) state_is is in
    λ first. subst (λ (e : EngineState g.row.K.Denot). IsClaimAnswer store (Some answer) (beside first old before) (beside first e events)) (sym c.claim_of.ensures.engine)
    (IsClaimAnswer-made store (beside first old before) (beside first made events) (roll_after made.roll answer) claiming answer claims
    (c.in-Ok.ensures.ok first) c.claim_of.ensures.claim)

pub returns-in-Err-clause-err : goal.returns-in-Err-clause-err
returns-in-Err-clause-err g c =
    let claiming = c.in-Some.claiming in
    let silent = silent_claim c.self.inside.view claiming (rw c.in-Some.is at c.in_ok-claiming.ensures) in
    λ first. IsUntouched-as g.K.Keeper.store (λ e. e ≡ claiming.change.event) IsNoLine (beside first c.args.self.now c.args.events.now.items)
    (beside first c.make_start.new.self c.make_start.new.events.items)
    (λ e same. subst IsNoLine (sym same) silent) (c.in-Err.ensures.err first)
