use Rattle.std.proofs.Common.{◌≡◌, string_bytes, rules}
use Rattle.wm_rows.proofs.Names.{noted}
use Rattle.wm_rows.proofs.sound.note.Goals as goal

pub returns-in_ok-insert-in-Some : goal.returns-in_ok-insert-in-Some
returns-in_ok-insert-in-Some c =
    let text : string_bytes c.in_ok-from_str-in-Some.field-0 ≡ c.in-Some.name = search rules in
    λ other. noted c.args.names.now c.insert.new.self c.in_ok-from_str-in-Some.field-0 c.in_ok-insert-in-Some.ensures.updates
    c.args.is_noted c.if-is_noted.true c.args.name.now c.in-Some.name c.in-Some.is text other
