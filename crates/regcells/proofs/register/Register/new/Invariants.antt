use Rattle.std.proofs.Common.{◌∷◌, []}
use Rattle.regcells.proofs.register.Register.new.Given as goal

abbrev pub ghosts-put : goal.ghosts-put
ghosts-put g a = record { given = a.value ∷ [] }
