-- What is read from here with the turns that are left is what is read in all.
use Rattle.std.proofs.Common.{◌≡◌, ◌-◌}
use Rattle.grammar.specs.Cursor.{left_of}
use Rattle.model.specs.SourceTrees.{module_of}
use Rattle.grammar.specs.Reading as spec
use Rattle.grammar.proofs.module.parse_items.Given as goal

abbrev pub invariant-loop-turn : goal.invariant-loop-turn
invariant-loop-turn l =
    spec.parse_items l.budget l.budget (module_of l.fn.found) (left_of l.fn.tokens)
    ≡ spec.parse_items l.budget (l.budget - l._turn) (module_of l.found) (left_of l.tokens)
