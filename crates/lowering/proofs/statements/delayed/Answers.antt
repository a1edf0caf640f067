use Rattle.std.proofs.Common.{subst}
use Rattle.syntax_tree.specs.Expressions.{plain_expression_of}
use Rattle.sizing.specs.Names.{Names}
use Rattle.statement_parts.specs.Parts.{IsDelayNumber}
use Rattle.lowering.proofs.statements.delayed.Goals as goal

pub returns : goal.returns
returns c =
    let delay = c.in_ok-delay.delay in
    (delay, subst (λ (n : Names). IsDelayNumber n (plain_expression_of c.args.delay.now) delay) c.place-place.ensures c.in_ok-delay.ensures, c.delay_of.ensures)
