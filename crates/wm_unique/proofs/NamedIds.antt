-- The records that a batch names are those of the ids that it names.
use Rattle.std.proofs.Common.{◌≡◌, ◌||◌, ℕ, List, [], ◌∷◌, filter, refl, ◌∙◌, ap}
use Rattle.std.proofs.lemmas.List.Folds.{list_any-append}
use Rattle.std.specs.Str.{bytes_eq}
use Rattle.wm_collections.proofs.Lists.{All-any, filter-same}
use Rattle.wm_machine.specs.Group.{numbers_in}
use Rattle.wm_machine.specs.declared.record.Record.{Record}
use Rattle.wm_request.specs.Batches.{has_id}
use Rattle.wm_request.specs.declared.request.Node.{Node}
use Rattle.wm_unique.specs.Plans.{ids_named, is_named_by, names_id}

-- an id that a batch names is one of those
names-has : (nodes : List Node) (id : List ℕ) → has_id (ids_named nodes) id ≡ names_id nodes id
names-has [] id = refl
names-has (node ∷ nodes) id =
    let own = node.request.id ∷ node.after in
    list_any-append (λ one. bytes_eq one id) own (ids_named nodes) ∙ ap (λ b. has_id own id || b) (names-has nodes id)

-- and so are the records
pub named-same : (nodes : List Node) (works : List Record)
    → numbers_in (filter (λ work. has_id (ids_named nodes) work.request.id) works) ≡ numbers_in (filter (is_named_by nodes) works)
named-same nodes works =
    ap numbers_in (filter-same (λ work. has_id (ids_named nodes) work.request.id) (is_named_by nodes) works
    (All-any works (λ work. names-has nodes work.request.id)))
