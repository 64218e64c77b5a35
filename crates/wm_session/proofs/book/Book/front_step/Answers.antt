use Rattle.std.proofs.Common.{◌≡◌, ◌≢◌, ◌+◌, [], ◌∷◌, rules, sym, subst, refl, ◌∙◌, length, inl, ap}
use Rattle.wm_session.proofs.Words.{AllByRecursion, AreNumberedFrom-push, IsAskable, IsLine, IsNextLine, IsUntouched-as, MayCome, SettlesNext, add_comm, commands_of}
use Rattle.wm_machine.proofs.Commands.{legal_line-asked}
use Rattle.wm_session.proofs.BookSteps.{BookInvariant-made, HasCause-trouble}
use Rattle.wm_session.proofs.BookStops.{BookInvariant-line_refused, IsFronted-told, stays_going}
use Rattle.wm_machine.specs.declared.event.Event.TheVariants as event
use Rattle.wm_session.proofs.book.Book.front_step.Goals as goal

-- the next line is legal: where it settles there is nothing left to do
pub execute-requires : goal.execute-requires
execute-requires g c =
    let s = c.self.inside.table.state in
    let left = c.self.inside.left.items in
    let items : left ≡ c.in-Some.command ∷ c.pop_front.new.self.items = c.in-Some.ensures.items in
    let askable = subst (AllByRecursion IsAskable) items c.self.invariant.askable in
    let may : left ≢ [] → MayCome left s = search rules in
    let comes = may (λ none. absurd cc) in
    legal_line-asked s c.in-Some.command askable.0 (record { settled = λ settles. comes (subst SettlesNext (sym items) settles) })

pub invariant_of-self-2 : goal.invariant_of-self-2
invariant_of-self-2 g c =
    let done = c.in_default-execute.ensures in
    let i = c.self.inside in
    let kept = c.self.invariant in
    BookInvariant-made (event.Command (i.line + 1) c.in-Some.command done.ok.0) kept (record {
      going = search rules;
      step = done.ok.1;
      left = c.in-Some.ensures.items;
      line = refl;
      numbered = AreNumberedFrom-push 1 i.table.log (i.line + 1) c.in-Some.command done.ok.0 kept.numbered (ap (λ n. n + 1) kept.line ∙ add_comm (length (commands_of i.table.log)) 1);
      placed = done.places;
      rolled = done.roll;
      no_fault = done.cause;
    })
    c.tell_last-self-inside.ensures

pub returns : goal.returns
returns g c =
    let done = c.in_default-execute.ensures in
    let left = c.self.inside.left.items in
    let may : left ≢ [] → MayCome left c.self.inside.table.state = search rules in
    let items : left ≡ c.in-Some.command ∷ c.pop_front.new.self.items = c.in-Some.ensures.items in
    rw (← c.self.view_is, c.front_told.ensures)
    (IsFronted-told c.tell_last-self-inside.result refl (may (λ none. absurd cc)) (record {
      before = search rules;
      command = c.in-Some.command;
      reply = done.ok.0;
      next = c.in-Some.ensures.items;
      step = done.ok.1;
      places = done.places;
      roll = done.roll;
    })
    c.tell_last-self-inside.ensures.all)

-- ---- the table had trouble

pub invariant_of-self-in-Err : goal.invariant_of-self-in-Err
invariant_of-self-in-Err g c =
    let refused = c.in-Err.ensures in
    rw refused.places_err
    (BookInvariant-line_refused c.execute.new.table c.pop_front.new.self.items c.in-Some.command c.in-Err.trouble c.from.result c.self.invariant
    (search rules) c.in-Some.ensures.items refused.err
    (HasCause-trouble (Unit {0}) c.in-Err.trouble (g.K.Keeper.store c.self.inside.table.keeper).faults (g.K.Keeper.store c.execute.new.table.keeper).faults
    refused.cause) c.from.ensures refused.roll)

pub returns-in-Err : goal.returns-in-Err
returns-in-Err g c =
    let i = c.self.inside in
    let refused = c.in-Err.ensures in
    rw (← c.self.view_is) (record {
      status = refl;
      stays = stays_going _ _ (search rules);
      how = inl (record {
        table = IsUntouched-as g.K.Keeper.store (IsLine (i.line + 1) c.in-Some.command) (IsNextLine i.line i.left.items) i.table c.execute.new.table
            (λ e is. subst (λ lines. IsNextLine i.line lines e) (sym c.in-Some.ensures.items) is) refused.err;
        places = refused.places_err;
        roll = refused.roll;
      });
    })
