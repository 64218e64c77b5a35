use Rattle.wm_cli.proofs.pool.run_pool.Given as goal

-- the ledger has a part for each thread
abbrev pub ghosts-drive_counted : goal.ghosts-drive_counted
ghosts-drive_counted g a = record { name = a.blank.name; parts = a.blank.parts }
