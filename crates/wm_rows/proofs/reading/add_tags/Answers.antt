use Rattle.std.proofs.Common.{◌≡◌, string_bytes, rules}
use Rattle.wm_rows.proofs.Tags.{tag_added}
use Rattle.wm_rows.proofs.reading.add_tags.Goals as goal

pub loop-tag-preserved : goal.loop-tag-preserved
loop-tag-preserved c =
    let tag = c.tag-item.result in
    let same : string_bytes c.into_string.result ≡ tag = search rules in
    tag_added c.args.tags.now c.loop-tag.tag-index tag c.loop-tag-test.true c.tag-item.is c.requires.tags c.args.builder.now c.loop-tag.builder c.tag.new.self
    (string_bytes c.into_string.result) c.loop-tag.invariant same c.in_ok-tag.ensures.ok
