use Rattle.std.proofs.Common.{subst, sym, OnOk}
use Rattle.wm_machine.specs.declared.state.State.{State}
use Rattle.wm_steps.proofs.Marks.{covered-set}
use Rattle.wm_steps.specs.Covers.{IsMark, IsMarked}
use Rattle.wm_steps.proofs.view.View.cover.Goals as goal

pub invariant_of-self : goal.invariant_of-self
invariant_of-self c =
    let s = c.self.inside.state in
    let is = subst (λ (t : State). IsMark t c.args.name.now c.in-Some.number) (sym c.self.view_is) c.in-Some.ensures in
    record {
      valid = c.self.invariant.valid;
      graph_is = c.self.invariant.graph_is;
      entries_are = c.self.invariant.entries_are;
      startable_are = c.self.invariant.startable_are;
      covered = covered-set s c.args.name.now c.in-Some.number c.set-refused.result c.self.inside.covers c.set-refused.new.self
          (subst (λ text. OnOk c.set-refused.result (IsMarked text c.in-Some.number c.self.inside.covers c.set-refused.new.self)) c.as_str.ensures c.set-refused.ensures.ok)
          c.set-refused.ensures.err is c.self.invariant.covered;
    }
