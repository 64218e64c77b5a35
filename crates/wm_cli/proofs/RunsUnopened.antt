-- A run whose store wasn't opened is one of the lines of whatever script.
use Rattle.std.proofs.Common.{◌≡◌, ℕ, false, List, Vec, Global, sym, ◌∙◌, ap}
use Rattle.wm_bench.specs.declared.hand.Hand.{Hand}
use Rattle.wm_cli.proofs.Opening.{IsSerialRun-unopened, HasCommands-nothing}
use Rattle.wm_cli.proofs.OriginLines.{AreAskable-lines_of}
use Rattle.wm_cli.proofs.RunImages.{crash-unopened}
use Rattle.wm_words.proofs.WordsLemmas.{origin-fits}
use Rattle.wm_cli.specs.Ended.{IsRunOf}
use Rattle.wm_cli.specs.Lines.{lines_of}
use Rattle.wm_words.specs.Run.{origin_of}
use Rattle.wm_ended.specs.Ended.{IsUnbegun}
use Rattle.wm_ended.specs.Tells.{Tells}
use Rattle.wm_ended.specs.declared.ended.Ended.{Ended}
use Rattle.wm_ended.specs.declared.status.Status.{Status}
use Rattle.wm_ended.specs.declared.status.Status.TheVariants as status

pub IsRunOf-unopened : {K W B : Type 0} (tells : Tells K W B) (words : List (List ℕ)) (hands : List (Hand B)) (given : Vec (Hand B) Global) (keeper : K)
    (sink : W) (bytes : List ℕ) (why : Status) (ended : Ended K W B)
    → IsUnbegun why false keeper sink given ended → (why ≡ status.Done → ⊥) → IsRunOf tells words hands keeper (lines_of (origin_of words) bytes) ended
IsRunOf-unopened tells words hands given keeper sink bytes why ended unbegun early =
    let lines = lines_of (origin_of words) bytes in
    let not_done : (ended.status ≡ status.Done → ⊥) = λ done. early (sym unbegun.status_is ∙ done) in
    record {
      commands = HasCommands-nothing lines ended.status ended.log unbegun.log (λ done. absurd (not_done done));
      serial = λ alone. IsSerialRun-unopened lines ended.status ended.first ended.log ended.last (AreAskable-lines_of (origin_of words) bytes (origin-fits words)) not_done
          unbegun.first unbegun.log;
      crash = λ settled. crash-unopened lines ended.began ended.at_opening ended.status _ ended.last ended.log (tells.store keeper) (tells.store ended.keeper)
          unbegun.began unbegun.opening (ap tells.store unbegun.keeper_is) settled;
    }
