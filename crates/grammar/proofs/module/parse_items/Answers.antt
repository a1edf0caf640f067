-- One turn of the loop is one step of the recursion that the loop stands for.
use Rattle.std.proofs.Common.{rules, arith}
use Rattle.std.proofs.lemmas.Grind.{common_steps}
use Rattle.grammar.specs.Cursor.{left_of}
use Rattle.model.specs.SourceTrees.{module_of}
use Rattle.grammar.specs.Reading.{parse_items}
use Rattle.grammar.proofs.Turns.{one_more}
use Rattle.grammar.proofs.module.parse_items.Goals as goal

pub loop-turn-preserved : goal.loop-turn-preserved
unfolding parse_items
loop-turn-preserved c =
    let e = one_more (λ n. parse_items c.args.budget n (module_of c.loop-turn.found) (left_of c.loop-turn.tokens)) c.args.budget c.loop-turn._turn c.loop-turn-test.true c.loop-turn.invariant in
    grind (arith, common_steps)
