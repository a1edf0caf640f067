use Rattle.tests_concurrent.proofs.pair.play_pair.Given as goal

abbrev pub ghosts-run : goal.ghosts-run
ghosts-run g a = record { named = a.blank }
