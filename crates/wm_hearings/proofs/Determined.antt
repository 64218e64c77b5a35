-- What a hearing comes to is determined by the session before it and by what is heard.
use Rattle.std.proofs.Common.{◌≡◌, ℕ, Bool, true, false, cond, List, [], ◌∷◌, refl, sym, ◌∙◌, ap, ap₂, subst, Some, None}
use Rattle.wm_data.specs.declared.data.DataEntry.{DataEntry}
use Rattle.wm_hearings.specs.Hears.{hear_up_to_starts, hear_with, is_last, Hears, HearsBy}
use Rattle.wm_hearings.specs.Parts.{Part}
use Rattle.wm_hearings.specs.Session.{Session}
use Rattle.wm_hearings.specs.Sessions.{AreHeard}
use Rattle.wm_hearings.specs.Starts.{start, start_each, AreAllStarts, AreStartsIn, IsStartOfFirst}
use Rattle.wm_hearings.specs.declared.hearing.Hearing.{Hearing}
use Rattle.wm_hearings.specs.declared.hearing.Stage.{Stage}
use Rattle.wm_hearings.specs.declared.hearing.Stage.TheVariants as stage
use Rattle.wm_hearings.specs.declared.hearing.Terms.{Terms}
use Rattle.wm_machine.proofs.Firsts.{idle_instance-live}
use Rattle.wm_machine.specs.First.{first_of}
use Rattle.wm_machine.specs.Input.{cause_in, input_of}
use Rattle.wm_machine.specs.Runs.{start_refusal}
use Rattle.wm_machine.specs.Step.{after, IsStart, IsStartFailure}
use Rattle.wm_machine.specs.declared.event.Cause.{Cause}
use Rattle.wm_machine.specs.declared.event.Event.{Event}
use Rattle.wm_machine.specs.declared.state.State.{State}
use Rattle.wm_machine.specs.declared.event.Cause.TheVariants.{NoWorker}
use Rattle.wm_machine.specs.declared.event.Event.TheVariants as event

-- ---- the start of the work that is first

-- a work that starts isn't refused its start
not-refused : (s : State) (run seq instance : ℕ) (input : List DataEntry) (start : IsStart s run seq instance input) → start_refusal s start.work ≡ None
not-refused s run seq instance input start =
    let live = idle_instance-live s.instances start.work.request.class start.idle start.is_idle in
    ap (λ live. cond live (cause_in (input_of s start.work)) (Some NoWorker)) live ∙ ap cause_in start.input_is

-- so it doesn't both start and fail to
one-or-other : (s : State) (run seq instance number : ℕ) (input : List DataEntry) (cause : Cause) → IsStart s run seq instance input
    → IsStartFailure s number cause → ⊥
one-or-other s run seq instance number input cause start failure =
    let same : start.work ≡ failure.work = cc in
    let refused = subst (λ work. start_refusal s work ≡ Some cause) (sym same) failure.refused in
    let none = not-refused s run seq instance input start in
    absurd (cc)

start-same : (s : State) (run seq instance : ℕ) (input : List DataEntry) → IsStart s run seq instance input → (other : Event) → IsStartOfFirst s other
    → event.Start run seq instance input ≡ other
start-same s run seq instance input start (event.Start r q i d) also = cc
start-same s run seq instance input start (event.StartFailed q cause) also = absurd (one-or-other s run seq instance q input cause start also)
start-same s run seq instance input start _ also = absurd also

failure-same : (s : State) (seq : ℕ) (cause : Cause) → IsStartFailure s seq cause → (other : Event) → IsStartOfFirst s other
    → event.StartFailed seq cause ≡ other
failure-same s seq cause failure (event.Start r q i d) also = absurd (one-or-other s r q i seq d cause also failure)
failure-same s seq cause failure (event.StartFailed q c) also = cc
failure-same s seq cause failure _ also = absurd also

one-start : (s : State) (one other : Event) → IsStartOfFirst s one → IsStartOfFirst s other → one ≡ other
one-start s (event.Start run seq instance input) other is also = start-same s run seq instance input is other also
one-start s (event.StartFailed seq cause) other is also = failure-same s seq cause is other also
one-start s _ other is also = absurd is

-- where one starts, or fails to, something is startable
something-first : (s : State) (e : Event) → IsStartOfFirst s e → first_of s ≡ None → ⊥
something-first s (event.Start run seq instance input) is none = absurd (cc)
something-first s (event.StartFailed seq cause) is none = absurd (cc)
something-first s _ is none = absurd is

-- ---- all starts of a hearing

one-starts : (s : State) (one other : List Event) → AreAllStarts s one → AreAllStarts s other → one ≡ other
one-starts s [] [] is also = refl
one-starts s [] (e ∷ other) is also = absurd (something-first s e also.0 is)
one-starts s (e ∷ one) [] is also = absurd (something-first s e is.0 also)
one-starts s (e ∷ one) (d ∷ other) is also =
    let same = one-start s e d is.0 also.0 in
    ap₂ (λ first rest. first ∷ rest) same (one-starts (after s e) one other is.1 (subst (λ d. AreAllStarts (after s d) other) (sym same) also.1))

one-starts_in : (at : Stage) (s : State) (one other : List Event) → AreStartsIn at s one → AreStartsIn at s other → one ≡ other
one-starts_in stage.Open s one other is also = one-starts s one other is also
one-starts_in _ s one other is also = is ∙ sym also

-- after them nothing is startable
start-after : (terms : Terms) (e : Event) (session : Session) → IsStartOfFirst session.state e
    → (start terms e session).session.state ≡ after session.state e
start-after terms (event.Start run seq instance input) session is = refl
start-after terms (event.StartFailed seq cause) session is = refl
start-after terms _ session is = absurd is

pub starts-after : (terms : Terms) (starts : List Event) (session : Session) → AreAllStarts session.state starts
    → first_of (start_each terms starts session).session.state ≡ None
starts-after terms [] session are = are
starts-after terms (e ∷ starts) session are =
    starts-after terms starts (start terms e session).session
    (subst (λ s. AreAllStarts s starts) (sym (start-after terms e session are.0)) are.1)

-- ---- a hearing, and hearings one after another

one-part_by : (ends : Bool) (terms : Terms) (n : ℕ) (hearing : Hearing) (old : Session) (one other : Part) → HearsBy ends terms n hearing old one
    → HearsBy ends terms n hearing old other → one ≡ other
one-part_by true terms n hearing old one other is also = is ∙ sym also
one-part_by false terms n hearing old one other is also =
    let before = hear_up_to_starts terms n hearing old in
    let same = one-starts_in before.session.stage before.session.state is.starts also.starts is.are_starts also.are_starts in
    is.part_is ∙ ap (λ starts. hear_with terms n hearing starts old) same ∙ sym also.part_is

pub one-part : (terms : Terms) (n : ℕ) (hearing : Hearing) (old : Session) (one other : Part) → Hears terms n hearing old one
    → Hears terms n hearing old other → one ≡ other
one-part terms n hearing old one other is also = one-part_by (is_last hearing.heard) terms n hearing old one other is also

pub one-end : (terms : Terms) (first last other_last : Session) (hearings : List (ℕ × Hearing)) (parts others : List Part)
    → AreHeard terms first hearings parts last → AreHeard terms first hearings others other_last → (parts ≡ others) × (last ≡ other_last)
one-end terms first last other_last [] [] [] is also = (refl, is ∙ sym also)
one-end terms first last other_last ((n, hearing) ∷ hearings) (part ∷ parts) (other ∷ others) is also =
    let same = one-part terms n hearing first part other is.0.hears also.0.hears in
    let rest =
    one-end terms part.session last other_last hearings parts others is.1
    (subst (λ (p : Part). AreHeard terms p.session hearings others other_last) (sym same) also.1) in
    (ap₂ (λ one more. one ∷ more) same rest.0, rest.1)
one-end terms first last other_last [] [] (other ∷ others) is also = absurd also
one-end terms first last other_last [] (part ∷ parts) others is also = absurd is
one-end terms first last other_last (h ∷ hearings) [] others is also = absurd is
one-end terms first last other_last (h ∷ hearings) (part ∷ parts) [] is also = absurd also
