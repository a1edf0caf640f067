-- The name is among all where it is among those that are left.
use Rattle.std.proofs.Common.{◌≡◌, map, drop, string_bytes}
use Rattle.std.specs.List.{list_any}
use Rattle.std.specs.Str.{bytes_eq}
use Rattle.statement_parts.proofs.reads.is_among.Given as goal

abbrev pub invariant-loop-other : goal.invariant-loop-other
invariant-loop-other l = list_any (bytes_eq l.name) (map string_bytes (drop l.other-index l.names)) ≡ list_any (bytes_eq l.name) (map string_bytes l.names)
