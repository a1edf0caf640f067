-- What is read from here with the turns that are left is what is read in all.
use Rattle.std.proofs.Common.{◌≡◌, ◌-◌, []}
use Rattle.grammar.specs.Cursor.{left_of}
use Rattle.grammar.specs.Nodes.{names_view}
use Rattle.grammar.specs.Reading as spec
use Rattle.grammar.proofs.module.parse_names.Given as goal

abbrev pub invariant-loop-turn : goal.invariant-loop-turn
invariant-loop-turn l =
    spec.parse_names l.budget [] (left_of l.fn.tokens)
    ≡ spec.parse_names (l.budget - l._turn) (names_view l.found) (left_of l.tokens)
