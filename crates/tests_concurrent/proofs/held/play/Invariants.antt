use Rattle.tests_concurrent.proofs.held.play.Given as goal

abbrev pub ghosts-run : goal.ghosts-run
ghosts-run g a = record { named = a.blank }
