-- What is still to be added are the others of the names that are left.
use Rattle.std.proofs.Common.{◌≡◌, ◌++◌, map, string_bytes}
use Rattle.std.specs.Vec.Iter.{into_iter_items}
use Rattle.statement_parts.specs.Reads.{without_front}
use Rattle.statement_parts.proofs.reads.add_others.Given as goal

abbrev pub invariant-loop-name : goal.invariant-loop-name
invariant-loop-name l =
    map string_bytes l.found.items ++ without_front l.front (map string_bytes (into_iter_items l.name-iterator))
    ≡ map string_bytes l.initial.found.items ++ without_front l.front (map string_bytes l.fn.names.items)
