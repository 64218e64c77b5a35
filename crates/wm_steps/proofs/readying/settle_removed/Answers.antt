use Rattle.std.proofs.Common.{ℕ, ◌+◌, ◌<◌, Bool, List, get_or, length, take, None, Option, subst}
use Rattle.std.specs.List.{list_all}
use Rattle.std.proofs.lemmas.List.{get_or_default}
use Rattle.wm_machine.specs.Input.{work_numbered}
use Rattle.wm_machine.specs.declared.record.Record.{Record}
use Rattle.wm_ready.specs.Entries.{Entry}
use Rattle.wm_steps.proofs.Pointwise.{left-more}
use Rattle.wm_steps.proofs.ReadyWorks.{numbered-record}
use Rattle.wm_steps.specs.Readied.{is_settled, AreLeft}
use Rattle.wm_steps.proofs.readying.settle_removed.Goals as goal

pub settle-requires-clause-old : goal.settle-requires-clause-old
settle-requires-clause-old c = numbered-record c.args.works.now _ _ c.work_numbered-old.ensures c.requires.records

-- one removed record more
removed-more : (test : Entry → ℕ → Bool) (numbers : List ℕ) (i d : ℕ) (old now new : List Entry) → i < length numbers
    → AreLeft (λ entry. list_all (test entry) (take i numbers)) old now → AreLeft (λ entry. test entry (get_or numbers i d)) now new
    → AreLeft (λ entry. list_all (test entry) (take (i + 1) numbers)) old new
removed-more test numbers i d old now new within before one =
    left-more test numbers i (get_or numbers i d) old now new within (get_or_default numbers i d (get_or numbers i d) within) before one

pub loop-number-preserved : goal.loop-number-preserved
loop-number-preserved c =
    removed-more (λ entry number. is_settled c.args.classes.now c.args.graph.now (work_numbered number c.args.works.now) None entry)
    c.args.numbers.now c.loop-number.number-index _ c.args.ready.now c.loop-number.ready c.settle.new.ready c.loop-number-test.true c.loop-number.invariant
    (subst (λ (o : Option Record). AreLeft (is_settled c.args.classes.now c.args.graph.now o None) c.loop-number.ready c.settle.new.ready)
    c.work_numbered-old.ensures c.settle.ensures)
