-- What a name of a run is made of is read from it again.
use Rattle.std.proofs.Common.{◌≡◌, ℕ, ◌^◌, ◌<◌, List, ◌++◌, Some, Result, Ok, refl, sym, ap, ◌∙◌, drop, length}
use Rattle.std.specs.Prelude.{codes}
use Rattle.std.specs.Fmt.{decimal}
use Rattle.std.specs.Result.{result_ok}
use Rattle.std.specs.Str.Parse.{ParsesUnsigned}
use Rattle.std.specs.Str.Pattern.{FindsTextPrefix, LacksTextAt, StripsPrefix}
use Rattle.std.proofs.lemmas.Fmt.{parse-decimal}
use Rattle.std.proofs.lemmas.List.{append_assoc}
use Rattle.std.proofs.Math.Seq.{drop-append_seam}
use Rattle.wm_serve_text.specs.Names.{run_name}

module _ (session run : ℕ) (front name : List ℕ) (small : run < 2 ^ 64) (is : front ≡ decimal session ++ codes "-")
    (named : name ≡ run_name session run) where
  whole : name ≡ front ++ decimal run
  whole = rw (is, append_assoc) named

  digits_left : (digits : List ℕ) → StripsPrefix (FindsTextPrefix front) name digits → digits ≡ decimal run
  digits_left digits strips =
      let many : strips.0 ≡ length front = strips.1.0 in
      let rest : digits ≡ drop strips.0 name = strips.2 in
      cc (whole, drop-append_seam front (decimal run))

  -- what stands behind the number of the session is read as that of the run
  pub number_read : {E : Type 0} (digits : List ℕ) (read : Result ℕ E) → StripsPrefix (FindsTextPrefix front) name digits
      → ParsesUnsigned 64 10 digits read → result_ok read ≡ Some run
  number_read digits read strips parses = ap result_ok (parse-decimal 64 run digits read small small (digits_left digits strips) parses)

  -- and the number of the session stands there
  pub has_front : LacksTextAt front name 0 → ⊥
  has_front lacks = lacks (decimal run) whole
