use Rattle.std.proofs.Common.{◌≡◌, ◌∙◌, ap, sym, sum}
use Rattle.wm_cli.proofs.pool.drive_counted.Goals as goal

-- all portions are together again: they are as many as were cut, and each is as it was
pub close-requires-clause-whole : goal.close-requires-clause-whole
close-requires-clause-whole g c =
    c.gather.ensures.whole
    ∙ ap sum c.drive-parts.ensures.portions
    ∙ c.in-Ok.ensures.whole
    ∙ sym c.requires.one_each
    ∙ c.requires.parts
