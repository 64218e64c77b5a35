-- What is told of one work more.
use Rattle.std.proofs.Common.{◌≡◌, ℕ, ◌+◌, ◌<◌, Bool, List, [], ◌∷◌, ◌++◌, filter, get_or, length, map, take, sym, ◌∙◌, ap}
use Rattle.std.proofs.lemmas.List.{map-append, take_more}
use Rattle.std.proofs.lemmas.List.Elements.{filter-append}
use Rattle.wm_machine.specs.declared.record.Record.{Record}
use Rattle.wm_machine.specs.declared.reply.WorkInfo.{WorkInfo}

pub told-more : (test : WorkInfo → Bool) (tell : Record → WorkInfo) (works : List Record) (i : ℕ) (work : Record) (old new : List WorkInfo)
    → i < length works → work ≡ get_or works i work → new ≡ old ++ filter test (tell work ∷ []) → old ≡ filter test (map tell (take i works))
    → new ≡ filter test (map tell (take (i + 1) works))
told-more test tell works i work old new within is added so_far =
    added ∙ ap (λ told. told ++ filter test (tell work ∷ [])) so_far
    ∙ sym (filter-append test (map tell (take i works)) (tell work ∷ []))
    ∙ ap (filter test) (sym (map-append tell (take i works) (work ∷ [])))
    ∙ ap (λ seen. filter test (map tell seen)) (ap (λ one. take i works ++ one ∷ []) is ∙ sym (take_more works i work within))
