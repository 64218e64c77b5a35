use Rattle.wm_chain.proofs.continuation.Continuation.batch.Goals as goal

pub returns-clause-err : goal.returns-clause-err
returns-clause-err c = rw (← c.self.view_is, ← c.from_vec.ensures) c.batch_of.ensures.err
