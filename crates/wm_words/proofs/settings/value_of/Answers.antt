-- What is left of the words tells what all of them do.
use Rattle.std.proofs.Common.{option_map, ap, sym, ◌∙◌}
use Rattle.wm_words.specs.Settings.{set, value_of}
use Rattle.wm_words.proofs.WordsLemmas.{IfSome-unread, none_read, value_of-first}
use Rattle.wm_words.proofs.settings.value_of.Goals as goal

pub returns-in_err-setting : goal.returns-in_err-setting
returns-in_err-setting c =
    let none = none_read _ _ c.loop-option-test.ensures c.in_err-setting.ensures in
    IfSome-unread _ c.args.option.now _ (sym c.loop-option.invariant ∙ ap (option_map (value_of c.args.option.now)) none)

pub returns-then-eq : goal.returns-then-eq
returns-then-eq c =
    value_of-first c.args.option.now (set c.in_ok-setting.setting) _ _ (sym c.if-eq.ensures)
    (rw c.in_ok-setting.ensures.settings at c.loop-option.invariant)
