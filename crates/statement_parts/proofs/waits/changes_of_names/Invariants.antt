-- What is still to be made are the changes of the names that are left.
use Rattle.std.proofs.Common.{◌≡◌, ◌++◌, map, string_bytes}
use Rattle.std.specs.Vec.Iter.{into_iter_items}
use Rattle.statement_forms.specs.Views.{core_triggers}
use Rattle.statement_parts.specs.Parts.{whole_change}
use Rattle.statement_parts.proofs.waits.changes_of_names.Given as goal

abbrev pub invariant-loop-name : goal.invariant-loop-name
invariant-loop-name l =
    core_triggers l.made ++ map whole_change (map string_bytes (into_iter_items l.name-iterator)) ≡ map whole_change (map string_bytes l.fn.names.items)
