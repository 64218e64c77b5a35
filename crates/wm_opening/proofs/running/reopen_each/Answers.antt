use Rattle.std.proofs.Common.{◌≡◌, ℕ, ◌+◌, ◌-◌, ◌<◌, List, [], ◌∷◌, ◌++◌, drop, get_or, length, length-take, map, set, take, sym, ap, subst, ◌∙◌, arith}
use Rattle.std.proofs.lemmas.List.{get_or-append_right, get_or-drop, length-map, take_all, take_more}
use Rattle.std.proofs.lemmas.List.Edits.{map_over_more}
use Rattle.wm_keeper.specs.declared.row.Row.{Row}
use Rattle.wm_machine.proofs.Rows.{rows-as_many}
use Rattle.wm_machine.specs.Opened.{reopened}
use Rattle.wm_machine.specs.declared.record.Record.{Record}
use Rattle.wm_opening.specs.Reopenings.{AreReopenings}
use Rattle.wm_opening.proofs.running.reopen_each.Goals as goal

-- a record whose turn comes when those before it are changed is as it was
get_or-unchanged : {T : Type 0} (change : T → T) (xs now : List T) (i : ℕ) (default : T) → i < length xs → now ≡ map change (take i xs) ++ drop i xs
    → get_or now i default ≡ get_or xs i default
get_or-unchanged change xs now i default within so_far =
    let changed : length (map change (take i xs)) ≡ i = simp (length-map, length-take) (omega arith) in
    ap (λ list. get_or list i default) so_far ∙ get_or-append_right (map change (take i xs)) (drop i xs) i i default changed (omega arith)
    ∙ get_or-drop i xs (i - i) default ∙ ap (λ n. get_or xs n default) (omega arith)

pub bounds-rows-index : goal.bounds-rows-index
bounds-rows-index c =
    let at = c.loop-work.invariant.index in
    let within = c.loop-work-test.true in
    let many = rows-as_many c.args.rows.now c.args.works.now c.requires.rows in
    omega (arith, at, within, many)

pub returns-clause-changes : goal.returns-clause-changes
returns-clause-changes c =
    let rows = c.args.rows.now in
    let works = c.args.works.now in
    let i = c.loop-work.work-index in
    let changes = c.loop-work.changes.items in
    let over = c.loop-work-test.false in
    let many = rows-as_many rows works c.requires.rows in
    subst (λ (l : List Row). AreReopenings l works changes) (take_all i rows (omega (arith, over, many)))
    (subst (λ (l : List Record). AreReopenings (take i rows) l changes) (take_all i works over) c.loop-work.invariant.changes)

pub loop-work-preserved : goal.loop-work-preserved
loop-work-preserved c =
    let rows = c.args.rows.now in
    let works = c.args.works.now in
    let now = c.loop-work.works in
    let i = c.loop-work.work-index in
    let row = c.index-rows-index.result in
    let work = c.work-item.result in
    let within = c.loop-work-test.true in
    let so_far = c.loop-work.invariant in
    let many = rows-as_many rows works c.requires.rows in
    let its : row ≡ get_or rows i row = c.index-rows-index.is ∙ ap (λ n. get_or rows n row) so_far.index in
    let read : get_or now i work ≡ get_or works i work = get_or-unchanged reopened works now i work within so_far.works in
    let rows_are : take i rows ++ row ∷ [] ≡ take (i + 1) rows =
    ap (λ r. take i rows ++ r ∷ []) its ∙ sym (take_more rows i row (omega (arith, within, many))) in
    let works_are : take i works ++ get_or now i work ∷ [] ≡ take (i + 1) works =
    ap (λ w. take i works ++ w ∷ []) read ∙ sym (take_more works i work within) in
    record {
      works = ap (set now i) (c.in_ok-reopen.ensures.work ∙ ap reopened (sym c.work-item.is))
          ∙ map_over_more reopened works now i work within so_far.works c.work-item.is;
      index = ap (λ n. n + 1) so_far.index;
      changes = subst (λ (l : List Row). AreReopenings l (take (i + 1) works) c.reopen.new.changes.items) rows_are
          (subst (λ (l : List Record). AreReopenings (take i rows ++ row ∷ []) l c.reopen.new.changes.items) works_are
          (c.in_ok-reopen.ensures.changes (take i rows) (take i works) so_far.changes));
    }
