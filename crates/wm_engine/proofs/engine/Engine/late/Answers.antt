use Rattle.wm_engine.proofs.engine.Engine.late.Goals as goal

pub returns-clause-answer : goal.returns-clause-answer
returns-clause-answer g c = λ first. record {
  returned = c.return_stopped.ensures.returned first;
  out = c.return_stopped.ensures.out;
  roll = c.return_stopped.ensures.roll;
}
