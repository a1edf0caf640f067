-- What is still to be gathered are the names that are left.
use Rattle.std.proofs.Common.{◌≡◌, [], map, string_bytes}
use Rattle.std.specs.Vec.Iter.{into_iter_items}
use Rattle.statement_parts.specs.Reads.{added_once}
use Rattle.statement_parts.proofs.reads.each_once.Given as goal

abbrev pub invariant-loop-name : goal.invariant-loop-name
invariant-loop-name l = added_once (map string_bytes l.made.items) (map string_bytes (into_iter_items l.name-iterator)) ≡ added_once [] (map string_bytes l.fn.names.items)
