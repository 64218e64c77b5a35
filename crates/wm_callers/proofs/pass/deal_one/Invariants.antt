use Rattle.wm_callers.proofs.pass.deal_one.Given as goal

abbrev pub ghosts-admit : goal.ghosts-admit
ghosts-admit g a = record { number = a.number }
