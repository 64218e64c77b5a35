use Rattle.wm_roll.proofs.roll.Roll.give.Given as goal

-- the part of the token is the one that is given
abbrev pub ghosts-give_seat : goal.ghosts-give_seat
ghosts-give_seat a = record { part = a.part }
