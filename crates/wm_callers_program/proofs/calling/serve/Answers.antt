use Rattle.std.proofs.Common.{◌≡◌, None}
use Rattle.std.proofs.lemmas.List.Elements.{All-from_recursion, All-same}
use Rattle.wm_callers_program.proofs.Servings.{fresh-may}
use Rattle.wm_callers_program.specs.Serving.{HasOwnPlaces}
use Rattle.wm_callers_program.specs.declared.caller.Caller.{Caller}
use Rattle.wm_callers_program.proofs.calling.serve.Goals as goal

pub serve_all-requires-clause-ready : goal.serve_all-requires-clause-ready
serve_all-requires-clause-ready g c κs within =
    let may : Caller g.row.J.Denot → Type 0 = λ caller. (caller.refused ≡ None) × HasOwnPlaces caller.pass in
    All-same may c.as_mut_slice.result.now c.args.callers.items c.as_mut_slice.ensures.value
    (All-from_recursion may c.args.callers.items (fresh-may c.args.callers.items c.requires))
