-- What is added so far, with what is left, is the declaration's.
use Rattle.std.proofs.Common.{◌≡◌, ◌++◌, map, drop}
use Rattle.routine_texts.specs.Routines.{arguments_declared, argument_named}
use Rattle.routine_texts.specs.Tables.{argument_plain}
use Rattle.routine_texts.proofs.table.add_arguments.Given as goal

abbrev pub invariant-loop-declarator : goal.invariant-loop-declarator
invariant-loop-declarator l =
    map argument_plain l.found.items ++ map (argument_named l.fn.source.direction) (drop l.declarator-index l.fn.source.declarators.items) ≡ map argument_plain l.fn.found.items ++ arguments_declared l.fn.source
