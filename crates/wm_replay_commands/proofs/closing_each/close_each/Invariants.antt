use Rattle.std.proofs.Common.{◌≡◌, drop}
use Rattle.wm_collections.specs.Lists.{AllLater}
use Rattle.wm_machine.specs.Closed.{with_works_closed}
use Rattle.wm_machine.specs.Valid.{IsBefore}
use Rattle.wm_replay_commands.proofs.closing_each.close_each.Given as goal

-- the works that are left are still to be closed
abbrev pub invariant-loop-seq : goal.invariant-loop-seq
invariant-loop-seq l = record {
  left : with_works_closed l.how (drop l.seq-index l.seqs) l.state ≡ with_works_closed l.how l.seqs l.fn.state;
  in_order : AllLater IsBefore l.state.works;
}
