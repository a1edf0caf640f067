-- What is read from here with the turns that are left is what is read in all.
use Rattle.std.proofs.Common.{◌≡◌, ◌-◌, []}
use Rattle.grammar.specs.Cursor.{left_of}
use Rattle.grammar.specs.Nodes.{triggers_view}
use Rattle.grammar.specs.Reading as spec
use Rattle.grammar.proofs.statement.parse_events.Given as goal

abbrev pub invariant-loop-turn : goal.invariant-loop-turn
invariant-loop-turn l =
    spec.parse_events l.budget [] (left_of l.fn.tokens)
    ≡ spec.parse_events (l.budget - l._turn) (triggers_view l.found) (left_of l.tokens)
