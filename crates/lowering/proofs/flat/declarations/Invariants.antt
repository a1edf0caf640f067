-- What the objects and the hidden variables so far declare is declared.
use Rattle.std.proofs.Common.{◌≡◌, ◌++◌, map, take}
use Rattle.std.specs.List.{flat_map}
use Rattle.model.specs.SourceTrees.{declaration_of}
use Rattle.lowering.specs.Flat.{object_declared, hidden_declared}
use Rattle.lowering.proofs.flat.declarations.Given as goal

abbrev pub invariant-loop-number : goal.invariant-loop-number
invariant-loop-number l = map declaration_of l.regs.items ≡ flat_map object_declared (take l.number l.design.objects.items)

abbrev pub invariant-loop-variable : goal.invariant-loop-variable
invariant-loop-variable l =
    map declaration_of l.regs.items ≡ flat_map object_declared l.design.objects.items ++ map hidden_declared (take l.variable-index l.hidden)
