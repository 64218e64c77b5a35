use Rattle.std.proofs.Common.{◌≡◌, false, map, sym, ◌∙◌, ap, subst, rules}
use Rattle.std.specs.List.{AllByRecursion}
use Rattle.wm_bench.specs.Places.{idle_hands, place_of}
use Rattle.wm_cli.proofs.RunEnds.{IsEnd-at_once}
use Rattle.wm_cli.specs.Ended.{IsEndedAtOnce}
use Rattle.wm_ended.specs.Tells.{tells_of}
use Rattle.wm_machine.proofs.Openings.{reached-opened, rest-opened}
use Rattle.wm_machine.specs.Outcome.{IsAskable}
use Rattle.wm_machine.specs.Valid.{Valid}
use Rattle.wm_machine.specs.declared.state.Instance.{Instance}
use Rattle.wm_machine.specs.declared.state.State.{State}
use Rattle.wm_seating.proofs.Hands.{all_in, idle_hands-places, traits-places, NoneAway-hands}
use Rattle.wm_seating.specs.Bench.{instance_traits, place_traits, NoneAway}
use Rattle.wm_cli.proofs.beginning.open_book.Goals as goal

pub new-requires-clause-no_run : goal.new-requires-clause-no_run
new-requires-clause-no_run g c =
    let begun = c.requires.set_up.begun in
    ap (λ (s : State). s.runs) begun.state ∙ rest-opened begun.opened

pub new-requires-clause-workers : goal.new-requires-clause-workers
new-requires-clause-workers g c =
    let benched = c.requires.set_up.benched in
    let begun = c.requires.set_up.begun in
    let kind_of = g.B.Worker.kind_of in
    ap (map (place_traits kind_of)) benched.at_places
    ∙ traits-places kind_of 0 benched.hands
    ∙ sym (ap (λ (s : State). map instance_traits s.instances) (begun.state ∙ begun.opened.state) ∙ ap (map instance_traits) benched.are)

pub new-requires-clause-none_away : goal.new-requires-clause-none_away
new-requires-clause-none_away g c = subst NoneAway (sym c.requires.set_up.benched.at_places) (NoneAway-hands c.requires.set_up.benched.hands)

pub new-requires-clause-valid : goal.new-requires-clause-valid
new-requires-clause-valid g c =
    let begun = c.requires.set_up.begun in
    let run = g.M.Mark.inputs in
    subst Valid (sym begun.state) (reached-opened run.rows run.instances c.args.begun.table.first begun.opened)

pub new-requires-clause-all_in : goal.new-requires-clause-all_in
new-requires-clause-all_in g c =
    let begun = c.requires.set_up.begun in
    let benched = c.requires.set_up.benched in
    subst (AllByRecursion (λ (instance : Instance). instance.out ≡ false))
    (sym (ap (λ (s : State). s.instances) (begun.state ∙ begun.opened.state) ∙ benched.are)) (all_in g.B.Worker.kind_of 0 benched.hands)

pub new-requires-clause-images : goal.new-requires-clause-images
new-requires-clause-images g c =
    let begun = c.requires.set_up.begun in
    λ only. rw begun.state (begun.images only)

pub returns-in-Ok-clause-begins : goal.returns-in-Ok-clause-begins
returns-in-Ok-clause-begins g c =
    let benched = c.requires.set_up.benched in
    let begun = c.requires.set_up.begun in
    let places = c.in-Ok.ensures.places ∙ benched.at_places in
    let table = c.in-Ok.ensures.table in
    record {
      log = search rules;
      no_run = rw table (ap (λ (s : State). s.runs) begun.state ∙ rest-opened begun.opened);
      none_out = rw table begun.roll;
      all_idle = places ∙ ap (map place_of) (sym (ap idle_hands places ∙ idle_hands-places benched.hands));
      begun = search rules;
      lines_are = search rules;
    }

pub returns-in-Ok-clause-workers : goal.returns-in-Ok-clause-workers
returns-in-Ok-clause-workers g c = ap idle_hands c.in-Ok.ensures.places

pub end_at_once-requires : goal.end_at_once-requires
end_at_once-requires g c = record { none_out = rw (ap (λ parts. parts.0) c.in-Err.ensures.kept) c.requires.set_up.begun.roll }

pub returns-in-Err-clause-ended : goal.returns-in-Err-clause-ended
returns-in-Err-clause-ended g c =
    let tells = tells_of g.K.Keeper.store g.W.Sink.given g.W.Sink.faults g.B.Worker.kind_of g.B.Worker.diary_of in
    let benched = c.requires.set_up.benched in
    let are : idle_hands c.args.begun.bench ≡ benched.hands = ap idle_hands benched.at_places ∙ idle_hands-places benched.hands in
    let ended = c.end_at_once.result in
    let kept = c.in-Err.ensures.kept in
    let at : IsEndedAtOnce c.args.begun.table c.args.begun.sink c.back.result ended =
    subst (λ parts. IsEndedAtOnce parts.0 parts.2 c.back.result ended) kept c.end_at_once.ensures in
    let over =
    IsEnd-at_once tells g.M.Mark.inputs benched.hands c.args.begun.table c.args.begun.sink c.back.result ended at c.requires.set_up.begun
    (subst (AllByRecursion IsAskable) c.requires.set_up.lines c.requires.set_up.askable) benched.are c.requires.set_up.written
    (c.back.ensures ∙ ap (λ parts. idle_hands parts.1) kept ∙ are) in
    record { end = over.0; serial = rw are over.1 }
