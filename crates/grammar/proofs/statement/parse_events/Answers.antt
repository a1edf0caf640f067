-- One turn of the loop is one step of the recursion that the loop stands for.
use Rattle.std.proofs.Common.{rules, arith}
use Rattle.std.proofs.lemmas.Grind.{common_steps}
use Rattle.grammar.specs.Cursor.{left_of}
use Rattle.grammar.specs.Nodes.{triggers_view}
use Rattle.grammar.specs.Reading.{parse_events}
use Rattle.grammar.proofs.Turns.{one_more}
use Rattle.grammar.proofs.statement.parse_events.Goals as goal

pub returns-then-not-separates : goal.returns-then-not-separates
unfolding parse_events
returns-then-not-separates c =
    let e = one_more (λ n. parse_events n (triggers_view c.loop-turn.found) (left_of c.loop-turn.tokens)) c.args.budget c.loop-turn._turn c.loop-turn-test.true c.loop-turn.invariant in
    grind (arith, common_steps)

pub returns-in_err-one : goal.returns-in_err-one
unfolding parse_events
returns-in_err-one c =
    let e = one_more (λ n. parse_events n (triggers_view c.loop-turn.found) (left_of c.loop-turn.tokens)) c.args.budget c.loop-turn._turn c.loop-turn-test.true c.loop-turn.invariant in
    grind (arith, common_steps)

pub returns-in_err-expect : goal.returns-in_err-expect
unfolding parse_events
returns-in_err-expect c =
    let e = one_more (λ n. parse_events n (triggers_view c.loop-turn.found) (left_of c.loop-turn.tokens)) c.args.budget c.loop-turn._turn c.loop-turn-test.true c.loop-turn.invariant in
    grind (arith, common_steps)

pub returns-in_err-take : goal.returns-in_err-take
unfolding parse_events
returns-in_err-take c =
    let e = one_more (λ n. parse_events n (triggers_view c.loop-turn.found) (left_of c.loop-turn.tokens)) c.args.budget c.loop-turn._turn c.loop-turn-test.true c.loop-turn.invariant in
    grind (arith, common_steps)

pub loop-turn-preserved : goal.loop-turn-preserved
unfolding parse_events
loop-turn-preserved c =
    let e = one_more (λ n. parse_events n (triggers_view c.loop-turn.found) (left_of c.loop-turn.tokens)) c.args.budget c.loop-turn._turn c.loop-turn-test.true c.loop-turn.invariant in
    grind (arith, common_steps)
