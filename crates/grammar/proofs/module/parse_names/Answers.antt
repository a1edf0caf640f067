-- One turn of the loop is one step of the recursion that the loop stands for.
use Rattle.std.proofs.Common.{rules, arith}
use Rattle.std.proofs.lemmas.Grind.{common_steps}
use Rattle.grammar.specs.Cursor.{left_of}
use Rattle.grammar.specs.Nodes.{names_view}
use Rattle.grammar.specs.Reading.{parse_names}
use Rattle.grammar.proofs.Turns.{one_more}
use Rattle.grammar.proofs.module.parse_names.Goals as goal

pub returns-then-not-sees : goal.returns-then-not-sees
unfolding parse_names
returns-then-not-sees c =
    let e = one_more (λ n. parse_names n (names_view c.loop-turn.found) (left_of c.loop-turn.tokens)) c.args.budget c.loop-turn._turn c.loop-turn-test.true c.loop-turn.invariant in
    grind (arith, common_steps)

pub returns-in_err-take : goal.returns-in_err-take
unfolding parse_names
returns-in_err-take c =
    let e = one_more (λ n. parse_names n (names_view c.loop-turn.found) (left_of c.loop-turn.tokens)) c.args.budget c.loop-turn._turn c.loop-turn-test.true c.loop-turn.invariant in
    grind (arith, common_steps)

pub loop-turn-preserved : goal.loop-turn-preserved
unfolding parse_names
loop-turn-preserved c =
    let e = one_more (λ n. parse_names n (names_view c.loop-turn.found) (left_of c.loop-turn.tokens)) c.args.budget c.loop-turn._turn c.loop-turn-test.true c.loop-turn.invariant in
    grind (arith, common_steps)

pub returns-in_err-expect : goal.returns-in_err-expect
unfolding parse_names
returns-in_err-expect c =
    let e = one_more (λ n. parse_names n (names_view c.loop-turn.found) (left_of c.loop-turn.tokens)) c.args.budget c.loop-turn._turn c.loop-turn-test.true c.loop-turn.invariant in
    grind (arith, common_steps)
