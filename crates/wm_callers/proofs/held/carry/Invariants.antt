use Rattle.wm_callers.proofs.held.carry.Given as goal

-- the entry is that of the call
abbrev pub ghosts-sign : goal.ghosts-sign
ghosts-sign g a = record { entry = record { caller = a.number; line = a.line; command = a.asked.now.value; reply = a.reply.now } }
