use Rattle.std.proofs.Common.{◌≡◌, ◌-◌, ◌<◌, get_or, length, refl, sym, arith}
use Rattle.std.proofs.lemmas.Option.{slice_get_read}
use Rattle.wm_query.proofs.ScanLemmas.{first_from-startable, first_of-at}
use Rattle.wm_query.proofs.scan.first_index.Goals as goal

pub works-preserved-then-is_startable : goal.works-preserved-then-is_startable
works-preserved-then-is_startable c =
    let s = c.args.state.now in
    let works = c.as_slice-works.result.now in
    let stored : works ≡ s.works = c.as_slice-works.ensures in
    let index = c.works.index - 1 in
    let work = c.index-works-index.result in
    let inside : index < length s.works = omega arith in
    let here : work ≡ get_or s.works index work = rw stored at c.index-works-index.is in
    let found = first_from-startable s index c.works.index work (omega arith) inside here (sym c.if-is_startable.ensures) in
    let earlier = c.earlier.ensures.earlier work (slice_get_read works (length works) index work refl (rw stored inside) c.index-works-index.is) in
    record {
      index = omega arith;
      within = rw stored at c.earlier.ensures.in_range;
      first = cc;
    }

pub returns : goal.returns
returns c = first_of-at c.args.state.now c.works.index c.works.first c.works-test.false c.works.invariant.first c.works.invariant.within
