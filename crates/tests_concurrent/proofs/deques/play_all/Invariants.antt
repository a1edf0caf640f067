use Rattle.tests_concurrent.proofs.deques.play_all.Given as goal

abbrev pub ghosts-open : goal.ghosts-open
ghosts-open g a = record { named = a.blank }
