-- Each call from an expression back to an expression inside it has less room.
use Rattle.std.proofs.Common.{◌+◌, ◌*◌, ◌++◌, List, take}
use Rattle.sizing.specs.Meanings.{Meaning}
use Rattle.sizing.specs.Parts.{Joins}
use Rattle.sizing.proofs.Loops.{meant}
use Rattle.sizing.proofs.reading.+reading.Given as goal

abbrev pub decreases-typed_at : goal.decreases-typed_at
decreases-typed_at g l = 5 * l.room

abbrev pub decreases-scope_at : goal.decreases-scope_at
decreases-scope_at g l = 5 * l.room

abbrev pub decreases-object_at : goal.decreases-object_at
decreases-object_at g l = 5 * l.room + 1

abbrev pub decreases-part_at : goal.decreases-part_at
decreases-part_at g l = 5 * l.room + 1

abbrev pub decreases-constant_at : goal.decreases-constant_at
decreases-constant_at g l = 5 * l.room + 1

abbrev pub decreases-integer_at : goal.decreases-integer_at
decreases-integer_at g l = 5 * l.room + 2

abbrev pub decreases-parts_behind : goal.decreases-parts_behind
decreases-parts_behind g l = 5 * l.room + 2

abbrev pub decreases-parts_at : goal.decreases-parts_at
decreases-parts_at g l = 5 * l.room + 3

abbrev pub decreases-operation_at : goal.decreases-operation_at
decreases-operation_at g l = 5 * l.room + 4

-- what is made joins what stands before and the parts so far
abbrev pub invariant-parts_behind-loop-part : goal.invariant-parts_behind-loop-part
invariant-parts_behind-loop-part g l = (ms : List Meaning) → Joins (g.E.Environment.means l.environment) ms l.initial.made → Joins (g.E.Environment.means l.environment) (ms ++ meant (g.E.Environment.means l.environment) (take l.part-index l.others)) l.made
