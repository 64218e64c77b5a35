-- The name of a run of another session is that of no run that is out.
use Rattle.std.proofs.Common.{◌≡◌, ◌≢◌, ℕ, ◌^◌, ◌<◌, List, [], ◌∷◌, ◌++◌, decimal, refl, sym, ap₂, subst, arith, None}
use Rattle.std.proofs.lemmas.Bool.{false_from_ne_true}
use Rattle.std.proofs.lemmas.Fmt.{decimal_injective, decimal_is_IsNumeral}
use Rattle.std.proofs.lemmas.Slice.Eq.{bytes_eq-Decides}
use Rattle.std.proofs.lemmas.Str.Parse.{digit_from_value}
use Rattle.std.specs.Char.{digit_value}
use Rattle.std.specs.Str.Parse.{AllDigits}
use Rattle.wm_collections.proofs.Lists.{All-any, find-fails}
use Rattle.wm_hearings.specs.Runs.{has_name, named}
use Rattle.wm_hearings.specs.Session.{Session}
use Rattle.wm_hearings.specs.declared.hearing.Terms.{Terms}
use Rattle.wm_serve_text.specs.Names.{run_name}

-- 45 is `-`
no-digit : digit_value 45 < 10 → ⊥
no-digit is = let within = digit_from_value 45 is in absurd (omega (arith, within))

-- the digits before the first `-` of a text
same-front : (one more other rest : List ℕ) → AllDigits 10 one → AllDigits 10 other → one ++ 45 ∷ more ≡ other ++ 45 ∷ rest → one ≡ other
same-front [] more [] rest digits also same = refl
same-front [] more (d ∷ other) rest digits also same =
    let is : d ≡ 45 = cc in absurd (no-digit (subst (λ d. digit_value d < 10) is also.0))
same-front (d ∷ one) more [] rest digits also same =
    let is : d ≡ 45 = cc in absurd (no-digit (subst (λ d. digit_value d < 10) is digits.0))
same-front (d ∷ one) more (e ∷ other) rest digits also same =
    let first : d ≡ e = cc in
    let behind : one ++ 45 ∷ more ≡ other ++ 45 ∷ rest = cc in
    ap₂ (λ d ds. d ∷ ds) first (same-front one more other rest digits.1 also.1 behind)

-- the name of a run tells its session
same-session : (one other run number : ℕ) → one < 2 ^ 64 → other < 2 ^ 64 → run_name one run ≡ run_name other number → one ≡ other
same-session one other run number fits also same =
    decimal_injective one other fits also
    (same-front (decimal one) (decimal run) (decimal other) (decimal number) (decimal_is_IsNumeral one fits).0.1 (decimal_is_IsNumeral other also).0.1 same)

pub none-named : (terms : Terms) (other run : ℕ) (session : Session) → terms.number < 2 ^ 64 → other < 2 ^ 64 → other ≢ terms.number
    → named terms (run_name other run) session ≡ None
none-named terms other run session fits also differs =
    find-fails (has_name terms (run_name other run)) session.out
    (All-any session.out (λ lease. false_from_ne_true (has_name terms (run_name other run) lease) (λ has.
    differs (sym (same-session terms.number other lease.run run fits also
    ((bytes_eq-Decides (run_name terms.number lease.run) (run_name other run)).0 has))))))
