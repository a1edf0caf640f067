-- The macros so far.
use Rattle.std.proofs.Common.{◌≡◌, map, take}
use Rattle.arguments.specs.VerilogWords.{plain_named}
use Rattle.program.specs.Subjects.{definition_named}
use Rattle.program.proofs.subject.definitions_of.Given as goal

abbrev pub invariant-loop-word : goal.invariant-loop-word
invariant-loop-word l = map definition_named l.found.items ≡ map plain_named (take l.word-index l.words)
