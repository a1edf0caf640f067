-- The scopes so far.
use Rattle.std.proofs.Common.{◌≡◌, map, take}
use Rattle.waves.specs.ScopedDump.{plain_scope}
use Rattle.program.specs.Subjects.{plain_design_scope}
use Rattle.program.proofs.waving.dump_scopes.Given as goal

abbrev pub invariant-loop-scope : goal.invariant-loop-scope
invariant-loop-scope l = map plain_scope l.shown.items ≡ map plain_design_scope (take l.scope-index l.scopes)
