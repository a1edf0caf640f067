use Rattle.std.proofs.Common.{◌≡◌, ◌++◌, map, drop, string_bytes}
use Rattle.elaborate.specs.Registers.{of_range}
use Rattle.elaborate.specs.FirstFindings.{found_names}
use Rattle.elaborate.proofs.registers.with_all.Given as goal

abbrev pub invariant-loop-name : goal.invariant-loop-name
invariant-loop-name l = record {
  registers : l.names ++ of_range l.range (map string_bytes (drop l.name-index l.more)) ≡ l.initial.names ++ of_range l.range (map string_bytes l.more);
  found : found_names l.limits l.initial.names (of_range l.range (map string_bytes l.more)) ≡ found_names l.limits l.names (of_range l.range (map string_bytes (drop l.name-index l.more)));
}
