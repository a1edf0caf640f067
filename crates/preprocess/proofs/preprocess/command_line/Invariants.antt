-- The lines of the definitions so far.
use Rattle.std.proofs.Common.{◌≡◌, take}
use Rattle.preprocess.specs.Sources.{definition_lines}
use Rattle.preprocess.proofs.preprocess.command_line.Given as goal

abbrev pub invariant-loop-definition : goal.invariant-loop-definition
invariant-loop-definition l = l.text.items ≡ definition_lines (take l.definition-index l.definitions)
