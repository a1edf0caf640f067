-- One token more, until none is left.
use Rattle.std.proofs.Common.{◌∙◌, arith, option_map}
use Rattle.statements.specs.StatementLines.{is_sought}
use Rattle.statements.proofs.Found.{last_more}
use Rattle.statements.proofs.lines.last_byte.Goals as goal

pub loop-left-preserved : goal.loop-left-preserved
loop-left-preserved c =
    let sought = c.args.sought.now in
    last_more (is_sought sought.part sought.process (option_map (λ name. name.now) sought.name)) c.loop-left.left.now _ c.loop-left.last c.byte_if_sought-last.result (omega (arith, c.in-len1-up.len_at_least)) c.byte_if_sought-last.ensures
    ∙ c.loop-left.invariant
