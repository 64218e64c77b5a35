-- After a hearing that isn't the last nothing waits.
use Rattle.std.proofs.Common.{◌≡◌, ℕ, ◌+◌, ◌<◌, ◌≤◌, Bool, true, false, not, cond, List, [], ◌∷◌, filter, refl, sym, ◌∙◌, ap, subst, arith, Option, Some, None, inl, inr, nat_le, IfSome}
use Rattle.std.proofs.Math.Nat.{min-le_left, min-le_right}
use Rattle.std.proofs.lemmas.Bool.{cond-true, cond_both, eqb-false, false_from_ne_true, lt-leb, not-true}
use Rattle.std.specs.List.{AllByRecursion}
use Rattle.wm_asks.specs.Clocks.{last_moment}
use Rattle.wm_collections.proofs.Lists.{All-filter, All-map, All-push, All-stored, All-weaker, HasOne-filter, HasOne-map}
use Rattle.wm_collections.specs.Lists.{HasOne}
use Rattle.wm_hearings.proofs.Determined.{starts-after}
use Rattle.wm_hearings.proofs.Reported.{hear-line}
use Rattle.wm_hearings.proofs.Wakes.{wake-computed}
use Rattle.wm_hearings.specs.Hears.{date, hear_up_to_starts, hear_with, is_last, Hears, HearsBy}
use Rattle.wm_hearings.specs.Leases.{expire, expire_each, expire_over, is_to_tell, tell_each, tell_stop, tell_stops}
use Rattle.wm_hearings.specs.Lines.{hear}
use Rattle.wm_hearings.specs.Moments.{end_after, until_of, wake_in, wake_of}
use Rattle.wm_hearings.specs.Parts.{Part}
use Rattle.wm_hearings.specs.Session.{Session}
use Rattle.wm_hearings.specs.Starts.{end, end_for, new_lease, start, start_each, AreAllStarts, AreStartsIn}
use Rattle.wm_hearings.specs.Waits.{NoneOver, NothingWaits}
use Rattle.wm_hearings.specs.declared.hearing.Hearing.{Hearing}
use Rattle.wm_hearings.specs.declared.hearing.Stage.{Stage}
use Rattle.wm_hearings.specs.declared.hearing.Stage.TheVariants as stage
use Rattle.wm_hearings.specs.declared.hearing.Terms.{Terms}
use Rattle.wm_leases.specs.Leases.{has_come, is_of, is_over, least_end, lesser, made_told, over_at, runs_of}
use Rattle.wm_leases.specs.declared.leases.Lease.{Lease}
use Rattle.wm_machine.specs.First.{first_of}
use Rattle.wm_machine.specs.declared.event.Event.{Event}
use Rattle.wm_machine.specs.declared.event.Event.TheVariants as event
use Rattle.wm_steps.proofs.Wakings.{wakes-at}

-- ---- what points after the line leave as it is

-- the clock, how far it is, and that something was heard
abbrev Keeps : Session → Session → Type 0
Keeps old new = (new.clock ≡ old.clock) × (new.stage ≡ old.stage) × (new.heard ≡ old.heard)

-- no lease is over after a point, which leaves these
abbrev Rests : Session → Session → Type 0
Rests old new = NoneOver new.clock new.out × Keeps old new

rests-then : (one two three : Session) → Keeps one two → Rests two three → Rests one three
rests-then one two three first next =
    (next.0, (next.1.0 ∙ first.0, next.1.1 ∙ first.1, next.1.2 ∙ first.2))

-- ---- expiries

-- each lease that is over is that of one of these runs
abbrev OverAmong : List ℕ → Session → Type 0
OverAmong runs session =
    AllByRecursion (λ lease. is_over session.clock lease ≡ true → HasOne (λ number. number ≡ lease.run) runs) session.out

expire_each-rests : (terms : Terms) (runs : List ℕ) (session : Session) → OverAmong runs session → Rests session (expire_each terms runs session).session
expire_each-rests terms [] session among =
    (All-weaker session.out (λ lease none. false_from_ne_true (is_over session.clock lease) none) among, (refl, refl, refl))
expire_each-rests terms (run ∷ runs) session among =
    expire_each-rests terms runs (expire terms run session).session
    (All-filter (λ lease. not (is_of run lease)) session.out (λ lease apart is over. elim (is over) [
      | inl same ↦ absurd (eqb-false lease.run run (not-true (is_of run lease) apart) (sym same))
      | inr there ↦ there
    ]) among)

expire_over-rests : (terms : Terms) (session : Session) → Rests session (expire_over terms session).session
expire_over-rests terms session =
    let test = is_over session.clock in
    expire_each-rests terms (runs_of (over_at session.clock session.out)) session
    (All-weaker session.out (λ lease stored over.
    HasOne-map (λ number. number ≡ lease.run) (λ (other : Lease). other.run) (over_at session.clock session.out) (λ other same. ap (λ (l : Lease). l.run) same)
    (HasOne-filter test session.out (λ other one same. ap test same ∙ over) (All-stored session.out) stored)) (All-stored session.out))

-- ---- stops

tell_each-rests : (terms : Terms) (runs : List ℕ) (session : Session) → NoneOver session.clock session.out
    → Rests session (tell_each terms runs session).session
tell_each-rests terms [] session none = (none, (refl, refl, refl))
tell_each-rests terms (run ∷ runs) session none =
    tell_each-rests terms runs (tell_stop terms run session).session
    (All-map (λ lease. is_over session.clock lease ≡ false) (λ lease. cond (is_of run lease) (made_told lease) lease) session.out (λ lease not_over.
    cond_both (is_of run lease) (made_told lease) lease (λ other. is_over session.clock other ≡ false) (λ _. not_over) (λ _. not_over)) none)

-- ---- starts

-- a lease that begins now isn't over
not-yet : (clock lease : ℕ) → 1 ≤ lease → has_come clock (end_after clock lease) ≡ false
not-yet clock lease long =
    cond_both (nat_le (clock + lease) last_moment) (Some (clock + lease)) None (λ found. has_come clock found ≡ false)
    (λ _. lt-leb (clock + lease) clock (omega (arith, long))) (λ _. refl)

start-rests : (terms : Terms) (e : Event) (session : Session) → 1 ≤ terms.lease → NoneOver session.clock session.out
    → Rests session (start terms e session).session
start-rests terms (event.Start run seq instance input) session long none = (
  All-push (λ lease. is_over session.clock lease ≡ false) session.out (new_lease terms run session) none (not-yet session.clock terms.lease long),
  (refl, refl, refl),
)
start-rests terms _ session long none = (none, (refl, refl, refl))

start_each-rests : (terms : Terms) (starts : List Event) (session : Session) → 1 ≤ terms.lease → NoneOver session.clock session.out
    → Rests session (start_each terms starts session).session
start_each-rests terms [] session long none = (none, (refl, refl, refl))
start_each-rests terms (e ∷ starts) session long none =
    let now = (start terms e session).session in
    let one = start-rests terms e session long none in
    rests-then session now (start_each terms starts now).session one.1 (start_each-rests terms starts now long one.0)

-- ---- until when nothing comes up

lesser-before : (one other : Option ℕ) (moment : ℕ) → IfSome (lesser one other) (λ until. moment < until)
    → IfSome one (λ at. moment < at) × IfSome other (λ at. moment < at)
lesser-before None other moment before = (tt, before)
lesser-before (Some one) None moment before = (before, tt)
lesser-before (Some one) (Some other) moment before =
    let left = min-le_left one other in
    let right = min-le_right one other in
    (omega (arith, before, left), omega (arith, before, right))

come-not : (end : Option ℕ) (moment : ℕ) → IfSome end (λ at. moment < at) → has_come moment end ≡ false
come-not None moment before = refl
come-not (Some end) moment before = lt-leb end moment before

none-over : (leases : List Lease) (moment : ℕ) → IfSome (least_end leases) (λ at. moment < at) → NoneOver moment leases
none-over [] moment before = tt
none-over (lease ∷ leases) moment before =
    let both = lesser-before lease.end (least_end leases) moment before in (come-not lease.end moment both.0, none-over leases moment both.1)

until-is : (session : Session) → session.heard ≡ true → session.stage ≡ stage.Open
    → until_of session ≡ lesser (least_end session.out) (wake_of session.state)
until-is session heard at =
    cond-true session.heard (lesser (least_end session.out) (wake_in session.stage session.state)) (Some 0) heard
    ∙ ap (λ at. lesser (least_end session.out) (wake_in at session.state)) at

waits-not : (session : Session) → session.heard ≡ true → session.stage ≡ stage.Open → first_of session.state ≡ None
    → NoneOver session.clock session.out → NothingWaits session
waits-not session heard at nothing none = record {
  startable = nothing;
  over = none;
  startable_until = λ moment before.
      (wakes-at session.state nothing (wake_of session.state) (wake-computed session.state)).asleep moment
      (lesser-before (least_end session.out) (wake_of session.state) moment
      (subst (λ until. IfSome until (λ until. moment < until)) (until-is session heard at) before)).1;
  over_until = λ moment before.
      none-over session.out moment
      (lesser-before (least_end session.out) (wake_of session.state) moment
      (subst (λ until. IfSome until (λ until. moment < until)) (until-is session heard at) before)).0;
}

-- ---- a hearing

-- a session that is open after the last point is as it was before it
end-open : (at : Stage) (out : List Lease) (session : Session) → (end_for at out session).session.stage ≡ stage.Open
    → (end_for at out session).session ≡ session
end-open (stage.Closing n) [] session is = absurd (cc)
end-open _ out session is = refl

waits-after : (terms : Terms) (n : ℕ) (hearing : Hearing) (starts : List Event) (old : Session) → 1 ≤ terms.lease
    → AreStartsIn (hear_up_to_starts terms n hearing old).session.stage (hear_up_to_starts terms n hearing old).session.state starts
    → (hear_with terms n hearing starts old).session.stage ≡ stage.Open → NothingWaits (hear_with terms n hearing starts old).session
waits-after terms n hearing starts old long are at =
    let dated = (date terms hearing.at old).session in
    let lined = (hear terms n hearing.heard dated).session in
    let expired = (expire_over terms lined).session in
    let told = (tell_stops terms expired).session in
    let started = (start_each terms starts told).session in
    let same : (end started).session ≡ started = end-open started.stage started.out started at in
    let expiries = expire_over-rests terms lined in
    let stops = tell_each-rests terms (runs_of (filter (is_to_tell expired.state) expired.out)) expired expiries.0 in
    let rests = start_each-rests terms starts told long stops.0 in
    let open_then : started.stage ≡ stage.Open = ap (λ (s : Session). s.stage) (sym same) ∙ at in
    let open_before : told.stage ≡ stage.Open = sym rests.1.1 ∙ open_then in
    let begun : AreAllStarts told.state starts = subst (λ at. AreStartsIn at told.state starts) open_before are in
    let heard : started.heard ≡ true = rests.1.2 ∙ stops.1.2 ∙ expiries.1.2 ∙ (hear-line terms n hearing.heard dated).heard in
    subst NothingWaits (sym same) (waits-not started heard open_then (starts-after terms starts told begun) rests.0)

waits-by : (ends : Bool) (terms : Terms) (n : ℕ) (hearing : Hearing) (old : Session) (part : Part) → 1 ≤ terms.lease
    → HearsBy ends terms n hearing old part → ends ≡ false → part.session.stage ≡ stage.Open → NothingWaits part.session
waits-by true terms n hearing old part long hears goes_on at = absurd (cc)
waits-by false terms n hearing old part long hears goes_on at =
    let after : part.session ≡ (hear_with terms n hearing hears.starts old).session = ap (λ (p : Part). p.session) hears.part_is in
    subst NothingWaits (sym after)
    (waits-after terms n hearing hears.starts old long hears.are_starts (ap (λ (s : Session). s.stage) (sym after) ∙ at))

pub nothing-waits : (terms : Terms) (n : ℕ) (hearing : Hearing) (old : Session) (part : Part) → 1 ≤ terms.lease → Hears terms n hearing old part
    → is_last hearing.heard ≡ false → part.session.stage ≡ stage.Open → NothingWaits part.session
nothing-waits terms n hearing old part long hears goes_on at = waits-by (is_last hearing.heard) terms n hearing old part long hears goes_on at
