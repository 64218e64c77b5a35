-- What a record that is sound after others has with them.
use Rattle.std.proofs.Common.{◌≡◌, ◌≢◌, ℕ, ◌<◌, ◌==◌, Bool, true, false, ◌&&◌, not, List, [], ◌∷◌, length, nat_lt, Option, Some, None, is_some, refl, sym, ap, ◌∙◌, subst}
use Rattle.std.proofs.lemmas.Bool.{and_parts, eq-eqb, ltb-true, not-true, true≢false}
use Rattle.std.specs.List.{AllByRecursion, list_all}
use Rattle.std.specs.Str.{bytes_eq}
use Rattle.wm_collections.proofs.Lists.{All-weaker, All-with3, all_pass, none_pass}
use Rattle.wm_collections.specs.Lists.{AllLater, is_among}
use Rattle.wm_machine.proofs.Placings.{bytes_eq-refl}
use Rattle.wm_machine.specs.Group.{is_name}
use Rattle.wm_machine.specs.Input.{work_numbered}
use Rattle.wm_machine.specs.Valid.{IsBefore}
use Rattle.wm_machine.specs.declared.record.Record.{Record}
use Rattle.wm_rows.specs.Sound.{are_different, has_id, has_name, has_periodic_name, is_above, is_name_free, is_periodic, is_prior_sound, is_sound_after, serves}
use Rattle.wm_schedule.specs.declared.schedule.Period.{Period}

-- ---- what the tests say

differ : (one other : List ℕ) → bytes_eq one other ≡ false → one ≢ other
differ one other is same = true≢false (sym (subst (λ text. bytes_eq one text ≡ true) same (bytes_eq-refl one)) ∙ is)

-- a work's name, and whether another has it with work of its kind
abbrev pub OfOneKindAs : Option Period → Option (List ℕ) → Record → Type 0
OfOneKindAs period own other = (name : List ℕ) → other.name ≡ Some name → own ≡ Some name → (other.request.period ≡ None) × (period ≡ None)

one_name : (name own : List ℕ) (other : Option (List ℕ)) → is_name own other ≡ false → other ≡ Some name → Some own ≡ Some name → ⊥
one_name name own other is here same =
    let text : name ≡ own = cc in
    true≢false (sym (bytes_eq-refl own) ∙ ap (λ text. bytes_eq text own) (sym text) ∙ ap (is_name own) (sym here) ∙ is)

not_periodic : (period : Option Period) (named : Bool) → (is_some period && named) ≡ false → named ≡ true → period ≡ None
not_periodic None named is here = refl
not_periodic (Some period) named is here = absurd (true≢false (sym here ∙ is))

of_one_kind : (before : List Record) (period : Option Period) (own : Option (List ℕ)) → is_name_free before (is_some period) own ≡ true
    → AllByRecursion (OfOneKindAs period own) before
of_one_kind [] period own free = tt
of_one_kind (other ∷ before) period None free = (λ name here same. absurd (cc), of_one_kind before period None refl)
of_one_kind before (Some period) (Some own) free =
    All-weaker before (λ other is. λ name here same. absurd (one_name name own other.name is here same))
    (none_pass (λ other. is_name own other.name) before (not-true (has_name before own) free))
of_one_kind before None (Some own) free =
    All-weaker before (λ other is. λ name here same. (
      not_periodic other.request.period (is_name own other.name) is
          (let text : name ≡ own = cc in ap (is_name own) here ∙ ap (λ t. bytes_eq t own) text ∙ bytes_eq-refl own),
      refl,
    ))
    (none_pass (λ other. is_periodic other && is_name own other.name) before (not-true (has_periodic_name before own) free))

not_among : (numbers : List ℕ) (number : ℕ) → is_among numbers number ≡ false → AllByRecursion (λ later. number ≢ later) numbers
not_among numbers number none =
    All-weaker numbers (λ later is. λ same. true≢false (sym (eq-eqb later number (sym same)) ∙ is)) (none_pass (λ one. one == number) numbers none)

all_different : (numbers : List ℕ) → are_different numbers ≡ true → AllLater (λ number later. number ≢ later) numbers
all_different [] are = tt
all_different (number ∷ numbers) are =
    let parts = and_parts (not (is_among numbers number)) (are_different numbers) are in
    (not_among numbers number (not-true (is_among numbers number) parts.0), all_different numbers parts.1)

-- ---- what a sound record has

pub record IsSound (before : List Record) (work : Record) : Type 0 where
  pub few : length before < 100000
  pub after : AllByRecursion (λ other. IsBefore other work) before
  pub different : AllLater (λ number later. number ≢ later) work.prior
  pub earlier : AllByRecursion (λ number. number < work.seq) work.prior
  pub serve : AllByRecursion (λ number. serves work.phase (work_numbered number before) ≡ true) work.prior

pub sound-facts : (before : List Record) (work : Record) → is_sound_after before work ≡ true → IsSound before work
unfolding is_sound_after
sound-facts before work is =
    let few = and_parts (nat_lt (length before) 100000) _ is in
    let above = and_parts (is_above before work) _ few.1 in
    let ids = and_parts (not (has_id before work.request.id)) _ above.1 in
    let names = and_parts (is_name_free before (is_periodic work) work.name) (is_prior_sound before work) ids.1 in
    let prior = and_parts (are_different work.prior) _ names.1 in
    let each = and_parts (list_all (λ number. nat_lt number work.seq) work.prior) _ prior.1 in
    record {
      few = ltb-true (length before) 100000 few.0;
      after = All-with3 before (λ other number id name. record {
        number = ltb-true other.seq work.seq number;
        id = differ other.request.id work.request.id id;
        name = name;
      })
          (all_pass (λ other. nat_lt other.seq work.seq) before above.0)
          (none_pass (λ other. bytes_eq other.request.id work.request.id) before (not-true (has_id before work.request.id) ids.0))
          (of_one_kind before work.request.period work.name names.0);
      different = all_different work.prior prior.0;
      earlier = All-weaker work.prior (λ number is. ltb-true number work.seq is) (all_pass (λ number. nat_lt number work.seq) work.prior each.0);
      serve = all_pass (λ number. serves work.phase (work_numbered number before)) work.prior each.1;
    }
