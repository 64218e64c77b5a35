-- Counting the works in each shown state.
use Rattle.std.proofs.Common.{◌≡◌, ℕ, ◌≤◌, List, length, take, ap}
use Rattle.std.proofs.lemmas.List.{take_all}
use Rattle.wm_machine.specs.Summarized.{counts_among, counts_of}
use Rattle.wm_machine.specs.declared.record.Record.{Record}
use Rattle.wm_machine.specs.declared.reply.Counts.{Counts}
use Rattle.wm_machine.specs.declared.state.State.{State}

-- counts that agree in each
pub same_counts : (one other : Counts) → one.enqueued ≡ other.enqueued → one.running ≡ other.running → one.succeeded ≡ other.succeeded
    → one.failed ≡ other.failed → one.blocked ≡ other.blocked → one.cancelled ≡ other.cancelled → one.attempts ≡ other.attempts → one ≡ other
same_counts one other enqueued running succeeded failed blocked cancelled attempts =
    let same : record one { attempts = one.attempts } ≡ record other { attempts = other.attempts } = cc in same

-- the first works are all
pub counts-whole : (all works : List Record) (index : ℕ) → length works ≤ index → counts_among all (take index works) ≡ counts_among all works
counts-whole all works index whole = ap (counts_among all) (take_all index works whole)

-- and all works are those of the state
pub counts-all : (s : State) (works : List Record) → works ≡ s.works → counts_among s.works works ≡ counts_of s
unfolding counts_of
counts-all s works same = ap (counts_among s.works) same
