use Rattle.std.proofs.Common.{◌≡◌, ◌≢◌, [], ◌∷◌, ◌++◌, sym, ◌∙◌, ap, subst}
use Rattle.std.proofs.lemmas.Bool.{false≢true}
use Rattle.wm_keeper.specs.declared.row.Change.TheVariants.{Put}
use Rattle.wm_machine.specs.Opened.{reopened}
use Rattle.wm_machine.specs.Rows.{row_of}
use Rattle.wm_opening.proofs.Reopened.{reopenings-kept, reopenings-put}
use Rattle.wm_opening.specs.Reopenings.{AreReopenings}
use Rattle.wm_opening.proofs.running.reopen.Goals as goal

pub returns-then-stays-clause-changes : goal.returns-then-stays-clause-changes
returns-then-stays-clause-changes c = λ rows works are.
    let work = c.args.work.now in
    let its : c.in_ok-now.now ≡ row_of (reopened work) = c.in_ok-now.ensures ∙ ap row_of c.wait_again.ensures in
    reopenings-kept c.args.row.now work rows works c.args.changes.now.items (c.is_same-stays.ensures.0 c.if-stays.true ∙ its) are

pub returns-clause-changes : goal.returns-clause-changes
returns-clause-changes c = λ rows works are.
    let row = c.args.row.now in
    let work = c.args.work.now in
    let old = c.args.changes.now.items in
    let its : c.in_ok-now.now ≡ row_of (reopened work) = c.in_ok-now.ensures ∙ ap row_of c.wait_again.ensures in
    let put : c.push.new.self.items ≡ old ++ Put c.in_ok-now.now ∷ [] = c.in_ok-push.ensures.items in
    let differs : row ≢ row_of (reopened work) =
    λ same. absurd (false≢true (sym c.if-stays.false ∙ c.is_same-stays.ensures.1 (same ∙ sym its))) in
    subst (AreReopenings (rows ++ row ∷ []) (works ++ work ∷ [])) (sym (put ∙ ap (λ r. old ++ Put r ∷ []) its))
    (reopenings-put row work rows works old differs are)
