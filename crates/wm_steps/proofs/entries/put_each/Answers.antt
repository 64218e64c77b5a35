use Rattle.std.proofs.Common.{◌≡◌, List, ◌++◌, length, map, take, Result, Ok, Err, OnErr, refl, sym, ap, subst, ◌∙◌, arith}
use Rattle.std.proofs.lemmas.List.{take_all}
use Rattle.wm_collections.specs.Lists.{NumbersAscend}
use Rattle.wm_index.specs.Entries.{numbers_of, Entry}
use Rattle.wm_machine.specs.declared.record.Record.{Record}
use Rattle.wm_steps.proofs.EntryLists.{numbers-with_changed}
use Rattle.wm_steps.specs.Entries.{new_entry, tagging, with_changed, IsBegunIn}
use Rattle.wm_changes.specs.StepChanges.{seqs_of}
use Rattle.wm_changes.specs.declared.change.Replacement.{Replacement}
use Rattle.wm_steps.proofs.entries.put_each.Goals as goal

on_err : {A E : Type 0} (r : Result A E) (P Q : Type 0) → (P → Q) → OnErr r P → OnErr r Q
on_err (Ok x) P Q gives given = tt
on_err (Err e) P Q gives given = gives given

pub add_each-requires : goal.add_each-requires
add_each-requires c =
    let tagged = c.in_ok-tag_each.ensures.ok ∙ ap (λ (replaced : List Replacement). with_changed tagging replaced c.args.index.now) c.as_slice.ensures in
    let numbers = ap numbers_of tagged ∙ numbers-with_changed tagging c.args.change.now.replaced c.args.index.now (λ work entry. refl) in
    subst (λ (placed : List Record). NumbersAscend (numbers_of c.tag_each.new.index ++ seqs_of placed)) (sym c.as_slice-2.ensures)
    (subst (λ ns. NumbersAscend (ns ++ seqs_of c.args.change.now.placed)) (sym numbers) c.requires.ascending)

pub returns-clause-err : goal.returns-clause-err
returns-clause-err c =
    let replaced = c.args.change.now.replaced in
    let before = c.args.index.now in
    let all : replaced ≡ take (length replaced) replaced = sym (take_all (length replaced) replaced (omega arith)) in
    let tagged = c.in_ok-tag_each.ensures.ok ∙ ap (λ (some : List Replacement). with_changed tagging some before) (c.as_slice.ensures ∙ all) in
    on_err c.add_each.result _ (IsBegunIn before c.args.change.now c.add_each.new.index) (λ begun. record {
      tags = length replaced;
      records = begun.0;
      are = begun.1 ∙ ap (λ (entries : List Entry). entries ++ map new_entry (take begun.0 c.as_slice-2.result.now)) tagged
          ∙ ap (λ (placed : List Record). with_changed tagging (take (length replaced) replaced) before ++ map new_entry (take begun.0 placed)) c.as_slice-2.ensures;
    }) c.add_each.ensures.err
