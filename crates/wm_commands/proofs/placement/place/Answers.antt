use Rattle.std.proofs.Common.{◌≡◌, rules}
use Rattle.wm_commands.proofs.Enqueueing.{placement-executed}
use Rattle.wm_commands.specs.Placed.{name_in, placement_of}
use Rattle.wm_machine.specs.declared.command.Command.TheVariants as command
use Rattle.wm_machine.specs.declared.event.Event.TheVariants as event
use Rattle.wm_machine.specs.declared.reply.Reply.TheVariants as reply
use Rattle.wm_steps.proofs.Views.{reached-view}
use Rattle.wm_changes.specs.StepChanges.{placing, seqs_of}
use Rattle.wm_changes.specs.declared.change.RunChange.TheVariants.{Stop}
use Rattle.wm_unique.specs.Plans.{placing_by}
use Rattle.wm_commands.proofs.placement.place.Goals as goal

pub returns : goal.returns
returns c =
    let s = c.args.view.now in
    let reached = reached-view _ s _ c.view.view_is c.view.invariant in
    let by = placing_by c.args.plan in
    let made = placement_of s (name_in c.args.named) by c.args.batch.works in
    let placement : c.in_ok-placement.placement ≡ made = search rules in
    let numbers : c.in_ok-named-2.numbers ≡ seqs_of c.in_ok-named-2.placement.placed = search rules in
    let named : c.in_ok-named-2.named ≡ c.args.named = search rules in
    let batch : c.in_ok-named-2.batch ≡ c.args.batch = search rules in
    let change : c.placing.result
    ≡ placing c.in_ok-placement.placement.replaced c.in_ok-placement.placement.removed c.in_ok-placement.placement.placed
    (Stop c.in_ok-placement.placement.stopped)
    (event.Command c.args.line (command.Enqueue c.args.named c.args.batch) (reply.Enqueued (seqs_of c.in_ok-placement.placement.placed))) =
    search (rules, numbers, named, batch) in
    rw (change, placement)
    (placement-executed s c.args.line c.args.named c.args.batch by reached c.requires.asked c.requires.places c.requires.after)
