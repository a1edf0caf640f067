use Rattle.workers.proofs.worker.RunContext.add.Given as goal

abbrev pub ghosts-evaluate : goal.ghosts-evaluate
ghosts-evaluate g a = record { seat = a.seat.now }
