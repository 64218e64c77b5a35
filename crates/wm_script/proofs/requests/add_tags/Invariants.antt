-- The tags that are left, put after those so far, give what all of them give.
use Rattle.std.proofs.Common.{◌≡◌}
use Rattle.std.specs.List.{AllByRecursion}
use Rattle.std.specs.Vec.Iter.{into_iter_items}
use Rattle.wm_request.specs.Requests.{IsShortText}
use Rattle.wm_script.specs.Requests.{with_tags}
use Rattle.wm_script.proofs.requests.add_tags.Given as goal

abbrev pub invariant-loop-tag : goal.invariant-loop-tag
invariant-loop-tag l = record {
  short : AllByRecursion IsShortText (into_iter_items l.tag-iterator);
  left : record l.builder { tags = with_tags (into_iter_items l.tag-iterator) l.builder.tags }
      ≡ record l.initial.builder { tags = with_tags l.fn.tags l.initial.builder.tags };
}
