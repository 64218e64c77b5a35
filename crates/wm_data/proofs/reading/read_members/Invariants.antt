use Rattle.std.proofs.Common.{◌≡◌, ◌++◌, map, Ok}
use Rattle.std.specs.Map.Iter.{deref_pair}
use Rattle.wm_data.specs.DataRead.{entries_of}
use Rattle.wm_data.proofs.MemberLists.{members_in}
use Rattle.wm_data.proofs.reading.read_members.Given as goal

-- the entries so far, and the members that are left
abbrev pub invariant-loop-key : goal.invariant-loop-key
invariant-loop-key l = (entries_of (members_in (map deref_pair l.yielded)) ≡ Ok l.builder) × (map deref_pair l.yielded ++ l.key-iterator ≡ l.members.entries)
