-- What a JSON value is read as.
use Rattle.std.proofs.Common.{sym, ap, ◌∙◌}
use Rattle.std.proofs.lemmas.Result.{err_from_is_err_and}
use Rattle.serde_json.specs.View.{members_view, view}
use Rattle.wm_data.specs.DataRead.{and_built, entries_of, member_list, read_data}
use Rattle.wm_data.proofs.MemberLists.{named_members, read_data-empty_key, read_data-members, same_fault}
use Rattle.wm_data.proofs.data.Data.from_json.Goals as goal

pub returns-then-contains_key-clause-err : goal.returns-then-contains_key-clause-err
returns-then-contains_key-clause-err c =
    read_data-empty_key _ c.in-Some.members.now.entries (sym c.in-Some.ensures) (sym c.contains_key.ensures ∙ c.if-contains_key.true)

pub read_members-requires : goal.read_members-requires
read_members-requires c = named_members c.in-Some.members.now.entries (sym c.contains_key.ensures ∙ c.if-contains_key.false)

pub returns-in_err-read_members-clause-err : goal.returns-in_err-read_members-clause-err
returns-in_err-read_members-clause-err c =
    let ms = member_list (members_view c.in-Some.members.now.entries) in
    let named = sym c.contains_key.ensures ∙ c.if-contains_key.false in
    let read = read_data-members (view c.args.json.now) c.in-Some.members.now.entries (sym c.in-Some.ensures) named in
    let returned = err_from_is_err_and c.from_residual-in_err-read_members.result c.from_residual-in_err-read_members.ensures.1 in
    rw (returned.1, returned.2)
    (same_fault (entries_of ms) (read_data (view c.args.json.now)) _ (λ x e. read ∙ ap and_built e) c.in_err-read_members.ensures.err)

pub returns-clause-ok : goal.returns-clause-ok
returns-clause-ok c =
    let named = sym c.contains_key.ensures ∙ c.if-contains_key.false in
    let read = read_data-members (view c.args.json.now) c.in-Some.members.now.entries (sym c.in-Some.ensures) named in
    rw (read, c.in_ok-read_members.ensures.ok) c.build.ensures.ok

pub returns-clause-err : goal.returns-clause-err
returns-clause-err c =
    let named = sym c.contains_key.ensures ∙ c.if-contains_key.false in
    let read = read_data-members (view c.args.json.now) c.in-Some.members.now.entries (sym c.in-Some.ensures) named in
    rw (read, c.in_ok-read_members.ensures.ok) c.build.ensures.err
