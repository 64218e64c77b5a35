use Rattle.std.proofs.Common.{◌≡◌, drop}
use Rattle.std.specs.List.{list_all}
use Rattle.wm_machine.specs.Input.{work_numbered}
use Rattle.wm_rows.specs.Sound.{serves}
use Rattle.wm_rows.proofs.sound.all_serve.Given as goal

-- each serves where each from here on does
abbrev pub invariant-loop-number : goal.invariant-loop-number
invariant-loop-number l =
    list_all (λ number. serves l.phase (work_numbered number l.before)) (drop l.number-index l.numbers)
    ≡ list_all (λ number. serves l.phase (work_numbered number l.before)) l.numbers
