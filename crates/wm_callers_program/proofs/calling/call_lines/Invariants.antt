use Rattle.wm_callers.specs.Openings.{inputs_of}
use Rattle.wm_callers_program.proofs.calling.call_lines.Given as goal

-- the desk is the one that is opened
abbrev pub ghosts-call_lots : goal.ghosts-call_lots
ghosts-call_lots g a = record { desk = inputs_of a.opening (g.K.Keeper.store a.table.keeper).faults }
