-- Those that were found settle.
use Rattle.std.proofs.Common.{◌≡◌, ℕ, true}
use Rattle.model.specs.Turns.{contains}
use Rattle.settling.specs.Settled.{HasSettledSince}
use Rattle.settling.proofs.between.members_settling.Given as goal

abbrev pub invariant-loop-process : goal.invariant-loop-process
invariant-loop-process l = (p : ℕ) → contains l.settled.items p ≡ true → HasSettledSince l.begin l.machine l.network p
