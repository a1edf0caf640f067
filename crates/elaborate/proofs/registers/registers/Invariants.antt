use Rattle.std.proofs.Common.{◌≡◌, ◌++◌, [], map, drop}
use Rattle.model.specs.SourceTrees.{declaration_of}
use Rattle.elaborate.specs.Registers.{all_declared}
use Rattle.elaborate.specs.FirstFindings.{found_names}
use Rattle.elaborate.proofs.registers.registers.Given as goal

abbrev pub invariant-loop-declaration : goal.invariant-loop-declaration
invariant-loop-declaration l = record {
  registers : l.names ++ all_declared (map declaration_of (drop l.declaration-index l.declarations)) ≡ all_declared (map declaration_of l.declarations);
  found : found_names l.limits [] (all_declared (map declaration_of l.declarations)) ≡ found_names l.limits l.names (all_declared (map declaration_of (drop l.declaration-index l.declarations)));
}
