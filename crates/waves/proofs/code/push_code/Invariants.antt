-- What is still to be put behind the text is the code of what is left.
use Rattle.std.proofs.Common.{◌≡◌, ◌++◌}
use Rattle.waves.specs.IdentifierCodes.{code}
use Rattle.waves.proofs.code.push_code.Given as goal

abbrev pub invariant-loop-rest : goal.invariant-loop-rest
invariant-loop-rest l = l.text.items ++ code l.rest ≡ l.fn.text.items ++ code l.fn.register

abbrev pub decreases-loop-rest : goal.decreases-loop-rest
decreases-loop-rest l = l.rest
