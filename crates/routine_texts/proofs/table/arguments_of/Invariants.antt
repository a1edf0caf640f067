-- What is found so far, with what is left, is all.
use Rattle.std.proofs.Common.{◌≡◌, ◌++◌, map, drop}
use Rattle.std.specs.List.{flat_map}
use Rattle.routine_texts.specs.Routines.{arguments_declared}
use Rattle.routine_texts.specs.Tables.{argument_plain}
use Rattle.routine_texts.proofs.table.arguments_of.Given as goal

abbrev pub invariant-loop-source : goal.invariant-loop-source
invariant-loop-source l = map argument_plain l.found.items ++ flat_map arguments_declared (drop l.source-index l.declarations) ≡ flat_map arguments_declared l.declarations
