use Rattle.std.proofs.Common.{◌≡◌, ℕ, List, Result, Ok, Err, OnOk, OnErr, sym, subst}
use Rattle.wm_request.proofs.Tags.{AreSortedTags-with_tag}
use Rattle.wm_request.specs.Building.{with_tag}
use Rattle.wm_request.specs.Requests.{AreSortedTags, IsShortText}
use Rattle.wm_request.proofs.builder.Builder.tag.Goals as goal

-- the tags are sorted whether or not one was put among them
sorted_after : {T E : Type 0} (result : Result T E) (tag : List ℕ) (tags new : List (List ℕ)) → OnOk result (new ≡ with_tag tag tags)
    → OnErr result (new ≡ tags) → IsShortText tag → AreSortedTags tags → AreSortedTags new
sorted_after (Ok done) tag tags new put kept short sorted = subst AreSortedTags (sym put) (AreSortedTags-with_tag tag tags short sorted)
sorted_after (Err refused) tag tags new put kept short sorted = subst AreSortedTags (sym kept) sorted

pub invariant_of-self : goal.invariant_of-self
invariant_of-self c = record {
  tags_are =
      sorted_after c.insert_tag.result c.from_string.result c.self.inside.tags.items c.insert_tag.new.tags.items c.insert_tag.ensures.ok
      c.insert_tag.ensures.err (subst IsShortText (sym c.from_string.ensures) c.requires) c.self.invariant.tags_are;
  backoff_is = c.self.invariant.backoff_is;
  period_is = c.self.invariant.period_is;
  next_is = c.self.invariant.next_is;
}
