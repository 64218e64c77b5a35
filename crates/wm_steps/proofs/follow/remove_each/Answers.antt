use Rattle.std.proofs.Common.{◌≡◌, ℕ, ◌+◌, ◌<◌, not, List, ◌∷◌, drop, get_or, length, sym, ap, subst, ◌∙◌}
use Rattle.std.proofs.lemmas.Bool.{ne_eqb}
use Rattle.std.proofs.lemmas.List.{drop_more}
use Rattle.wm_graph.proofs.Graphs.{HasNode-without}
use Rattle.wm_graph.specs.Nodes.{NamesNodes, NodeFields, without}
use Rattle.wm_collections.proofs.Lists.{All-with2}
use Rattle.wm_steps.specs.Following.{without_all}
use Rattle.wm_steps.proofs.follow.remove_each.Goals as goal

-- the others stay there
names-left : (nodes : List NodeFields) (number : ℕ) (later : List ℕ) → NamesNodes nodes (number ∷ later) → NamesNodes (without number nodes) later
names-left nodes number later names = record {
  different = names.different.1;
  there =
      All-with2 later (λ n has differs. HasNode-without number nodes n (ap not (ne_eqb n number (λ e. differs (sym e)))) has) names.there.1 names.different.0;
}

-- one node is taken away
removed-on : (nodes now : List NodeFields) (numbers : List ℕ) (i d : ℕ) → i < length numbers → now ≡ without (get_or numbers i d) nodes
    → NamesNodes nodes (drop i numbers) → (without_all (drop (i + 1) numbers) now ≡ without_all (drop i numbers) nodes) × NamesNodes now (drop (i + 1) numbers)
removed-on nodes now numbers i d within is names =
    let number = get_or numbers i d in
    let later = drop (i + 1) numbers in
    let here : drop i numbers ≡ number ∷ later = drop_more numbers i d within in (
      ap (without_all later) is ∙ ap (λ left. without_all left nodes) (sym here),
      subst (λ (now : List NodeFields). NamesNodes now later) (sym is) (names-left nodes number later (subst (NamesNodes nodes) here names)),
    )

pub loop-number-preserved : goal.loop-number-preserved
loop-number-preserved c =
    let on =
    removed-on c.loop-number.graph c.remove.new.self c.args.numbers.now c.loop-number.number-index _ c.loop-number-test.true c.remove.ensures
    c.loop-number.invariant.left in
    record { nodes = on.0 ∙ c.loop-number.invariant.nodes; left = on.1 }
