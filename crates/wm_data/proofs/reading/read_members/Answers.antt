-- Members put one by one.
use Rattle.std.proofs.Common.{◌≡◌, [], ◌∷◌, ◌++◌, append_assoc, append-nil, map, Global, String, List, ◌∙◌}
use Rattle.std.proofs.lemmas.List.{map-append}
use Rattle.std.proofs.lemmas.Result.{err_from_is_err_and}
use Rattle.std.specs.Map.Iter.{deref_pair}
use Rattle.serde_json.specs.declared.value.Value.{Value}
use Rattle.wm_data.proofs.MemberLists.{entries_of-fault, entries_of-put, key_not_empty, member_list-members_view}
use Rattle.wm_data.proofs.reading.read_members.Goals as goal

-- what is at hand stands between what was put and what is left
around : {X : Type 0} (done left now all : List X) (x : X) → left ≡ x ∷ now → done ++ left ≡ all → done ++ x ∷ now ≡ all
around done left now all x e whole = rw (← e) whole

pub put_member-requires : goal.put_member-requires
put_member-requires c =
    let member : String Global × Value = (c.in-Some.key.now, c.in-Some.json.now) in
    let done = map deref_pair c.loop-key.yielded in
    let whole = around done c.loop-key.key-iterator c.next.new.self c.args.members.now.entries member c.in-Some.ensures.steps c.loop-key.invariant.1 in
    let named = rw (member_list-members_view c.args.members.now.entries, ← whole) at c.requires in
    rw c.as_str.ensures.value (key_not_empty done c.next.new.self member named)

pub loop-key-preserved : goal.loop-key-preserved
loop-key-preserved c =
    let done = map deref_pair c.loop-key.yielded in
    let member : String Global × Value = (c.in-Some.key.now, c.in-Some.json.now) in
    let whole = around done c.loop-key.key-iterator c.next.new.self c.args.members.now.entries member c.in-Some.ensures.steps c.loop-key.invariant.1 in
    let put = rw c.as_str.ensures.value at c.in_ok-put_member.ensures.ok in
    rw (map-append deref_pair c.loop-key.yielded ((c.in-Some.key, c.in-Some.json) ∷ [])) (
      entries_of-put done member c.loop-key.builder c.put_member.new.builder c.loop-key.invariant.0 put,
      append_assoc done (member ∷ []) c.next.new.self ∙ whole,
    )

pub returns-in_err-put_member-clause-err : goal.returns-in_err-put_member-clause-err
returns-in_err-put_member-clause-err c =
    let returned = err_from_is_err_and c.from_residual.result c.from_residual.ensures.1 in
    let done = map deref_pair c.loop-key.yielded in
    let member : String Global × Value = (c.in-Some.key.now, c.in-Some.json.now) in
    let whole = around done c.loop-key.key-iterator c.next.new.self c.args.members.now.entries member c.in-Some.ensures.steps c.loop-key.invariant.1 in
    let refused = rw c.as_str.ensures.value at c.in_err-put_member.ensures.err in
    rw (returned.1, member_list-members_view c.args.members.now.entries, ← whole) (entries_of-fault done c.next.new.self member c.loop-key.builder _
    c.loop-key.invariant.0 (rw returned.2 refused))

pub returns-clause-ok : goal.returns-clause-ok
returns-clause-ok c =
    let all = rw (c.in-None.ensures.steps.0, append-nil (map deref_pair c.loop-key.yielded)) at c.loop-key.invariant.1 in
    rw (member_list-members_view c.args.members.now.entries, ← all) c.loop-key.invariant.0
