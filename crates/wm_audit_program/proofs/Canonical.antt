-- The commands of a run are canonical: those of a script are read from its lines, and the ids in those of a seed are read again.
use Rattle.std.proofs.Common.{◌≡◌, ℕ, zero, suc, ◌+◌, ◌*◌, ◌/◌, ◌%◌, ◌^◌, ◌<◌, ◌≤◌, List, [], ◌∷◌, length, refl, sym, subst, inl, arith, add-one}
use Rattle.std.specs.Int.{byte_at, bytes_high_first, to_be_bytes, w128}
use Rattle.std.specs.List.{AllByRecursion}
use Rattle.std.proofs.lemmas.List.Elements.{All-from_recursion}
use Rattle.uuid.proofs.RoundTrips.{parses_hyphenated}
use Rattle.uuid.specs.Text.{lower}
use Rattle.wm_audit_text.specs.Lines.{HasCanonical}
use Rattle.wm_cli.specs.Lines.{generated_groups, lines_of}
use Rattle.wm_collections.proofs.Lists.{All-append, All-with2}
use Rattle.wm_generator.proofs.GeneratedWorks.{faultless, AreAskable-generated}
use Rattle.wm_generator.specs.Generated.{after_groups, drawn_on, generated, group_of, groups_of, id_of, works_of}
use Rattle.wm_machine.specs.Log.{commands_of}
use Rattle.wm_machine.specs.declared.event.Event.{Event}
use Rattle.wm_machine.specs.declared.event.Event.TheVariants as event
use Rattle.wm_spelling.proofs.Canonical.{AreCanonical-script, IsCanonical-own}
use Rattle.wm_spelling.proofs.OwnBatches.{IsOwnNode, IsOwnRequest}
use Rattle.wm_spelling.proofs.OwnCommands.{IsOwn, IsOwnTarget}
use Rattle.wm_spelling.proofs.OwnIds.{IsOwnId}
use Rattle.wm_spelling.specs.Commands.{IsCanonical}
use Rattle.wm_words.proofs.WordsLemmas.{origin-fits}
use Rattle.wm_words.specs.Run.{origin_of}
use Rattle.wm_words.specs.declared.run.Origin.{Origin}
use Rattle.wm_words.specs.declared.run.Origin.TheVariants as origin

-- ---- the ids that a seed gives

rest_small : (n : ℕ) → n % 256 < 256
rest_small n = omega arith

byte_small : (place n : ℕ) → byte_at place n < 256
byte_small zero n = rest_small n
byte_small (suc place) n = rest_small (n / 256 ^ suc place)

are_bytes : (count n : ℕ) → AllByRecursion (λ b. b < 256) (bytes_high_first count n)
are_bytes zero n = tt
are_bytes (suc count) n = (byte_small count n, are_bytes count n)

IsOwnId-id_of : (seed group place : ℕ) → IsOwnId (id_of seed group place)
unfolding id_of IsOwnId
IsOwnId-id_of seed group place =
    let id = to_be_bytes w128 (seed * 2 ^ 64 + (5 * group + place)) in
    sym (parses_hyphenated lower id (inl refl) refl (All-from_recursion (λ b. b < 256) id (are_bytes 16 (seed * 2 ^ 64 + (5 * group + place)))))

-- ---- the commands that it gives

AreOwn-works_of : (seed group number : ℕ) → AllByRecursion IsOwnNode (works_of seed group number)
unfolding works_of IsOwnRequest
AreOwn-works_of seed group number =
    let one = IsOwnId-id_of seed group 1 in
    let two = IsOwnId-id_of seed group 2 in
    let three = IsOwnId-id_of seed group 3 in
    let four = IsOwnId-id_of seed group 4 in
    let five = IsOwnId-id_of seed group 5 in (
      record { id = one; after = tt },
      (
        record { id = two; after = tt },
        (
          record { id = three; after = tt },
          (record { id = four; after = (one, (two, (three, tt))) }, (record { id = five; after = (four, tt) }, tt)),
        ),
      ),
    )

few-works_of : (seed group number : ℕ) → length (works_of seed group number) ≤ 1000
unfolding works_of
few-works_of seed group number = omega arith

AreOwn-groups_of : (seed groups : ℕ) → seed < 2 ^ 64 → groups ≤ 2 ^ 32 → AllByRecursion IsOwn (groups_of seed groups)
unfolding IsOwn
AreOwn-groups_of seed zero fits within = tt
AreOwn-groups_of seed (suc group) fits within =
    let number = drawn_on seed (6 * group) in
    All-append IsOwn (groups_of seed group) (group_of seed group number ∷ []) (AreOwn-groups_of seed group fits (omega (arith, add-one group))) (
      record {
        nodes = AreOwn-works_of seed group number;
        few = few-works_of seed group number;
        faultless = faultless seed group number fits (omega (arith, add-one group));
      },
      tt,
    )

AreOwn-generated : (seed groups : ℕ) → seed < 2 ^ 64 → groups ≤ 2 ^ 32 → AllByRecursion IsOwn (generated seed groups)
unfolding generated IsOwn IsOwnTarget
AreOwn-generated seed groups fits within = (
  tt,
  (
    tt,
    All-append IsOwn (groups_of seed groups) after_groups (AreOwn-groups_of seed groups fits within)
        (tt, (tt, (tt, (record { not_empty = omega arith; short = omega arith }, (tt, (tt, (tt, (tt, tt)))))))),
  ),
)

AreCanonical-generated : (seed groups : ℕ) → seed < 2 ^ 64 → groups ≤ 2 ^ 32 → AllByRecursion IsCanonical (generated seed groups)
AreCanonical-generated seed groups fits within =
    All-with2 (generated seed groups) IsCanonical-own (AreAskable-generated seed groups fits within) (AreOwn-generated seed groups fits within)

-- ---- the lines of a run, and the log that they are the commands of

AreCanonical-from : (from : Origin) (bytes : List ℕ) → ((seed : ℕ) → from ≡ origin.Seed seed → seed < 2 ^ 64) → AllByRecursion IsCanonical (lines_of from bytes)
AreCanonical-from origin.Script bytes fits = AreCanonical-script bytes
AreCanonical-from (origin.Seed seed) bytes fits = AreCanonical-generated seed generated_groups (fits seed refl) (omega arith)

AreCanonical-lines_of : (words : List (List ℕ)) (bytes : List ℕ) → AllByRecursion IsCanonical (lines_of (origin_of words) bytes)
AreCanonical-lines_of words bytes = AreCanonical-from (origin_of words) bytes (origin-fits words)

have_canonical : (log : List Event) → AllByRecursion IsCanonical (commands_of log) → AllByRecursion HasCanonical log
have_canonical [] all = tt
have_canonical (event.Command line asked reply ∷ log) all = (all.0, have_canonical log all.1)
have_canonical (event.Start run seq instance input ∷ log) all = (tt, have_canonical log all)
have_canonical (event.StartFailed seq cause ∷ log) all = (tt, have_canonical log all)
have_canonical (event.Turn run progress ∷ log) all = (tt, have_canonical log all)
have_canonical (event.Finish run end ∷ log) all = (tt, have_canonical log all)
have_canonical (event.TimedOut run ∷ log) all = (tt, have_canonical log all)
have_canonical (event.Late run ∷ log) all = (tt, have_canonical log all)

pub HaveCanonical-lines : (words : List (List ℕ)) (bytes : List ℕ) (log : List Event) → commands_of log ≡ lines_of (origin_of words) bytes
    → AllByRecursion HasCanonical log
HaveCanonical-lines words bytes log are =
    have_canonical log (subst (λ commands. AllByRecursion IsCanonical commands) (sym are) (AreCanonical-lines_of words bytes))
