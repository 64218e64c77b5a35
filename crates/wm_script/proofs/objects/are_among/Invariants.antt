use Rattle.std.proofs.Common.{◌≡◌, map}
use Rattle.serde_json.specs.View.{members_view}
use Rattle.wm_script.specs.Objects.{are_among}
use Rattle.wm_script.proofs.objects.are_among.Given as goal

-- the members that are left decide
abbrev pub invariant-loop-key : goal.invariant-loop-key
invariant-loop-key l =
    are_among (map (λ key. key.now) l.keys) (members_view l.key-iterator) ≡ are_among (map (λ key. key.now) l.keys) (members_view l.members.entries)
