use Rattle.std.proofs.Common.{drop}
use Rattle.certificates.specs.Actors.{has}
use Rattle.certificates.proofs.Walking.{HasWalked}
use Rattle.certificates.proofs.certificate.comes_or_is_apart.Given as goal

-- the walk has come through the notes from this place on
abbrev pub invariant-loop-place : goal.invariant-loop-place
invariant-loop-place l = HasWalked (has l.leading) (drop l.place l.notes) l.last
