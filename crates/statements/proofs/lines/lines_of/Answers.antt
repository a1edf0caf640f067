-- The token at the front, or one behind it.
use Rattle.std.proofs.Common.{◌∙◌, sym, arith, option_map}
use Rattle.statements.specs.StatementLines.{is_sought}
use Rattle.statements.proofs.Found.{others_more, range_found}
use Rattle.statements.proofs.lines.lines_of.Goals as goal

pub loop-left-preserved : goal.loop-left-preserved
loop-left-preserved c =
    let sought = c.args.sought.now in
    others_more (is_sought sought.part sought.process (option_map (λ name. name.now) sought.name)) c.loop-left.left.now _ _ (omega (arith, c.in-len1-up.len_at_least)) (sym c.is_sought.ensures ∙ c.if-is_sought.false)
    c.loop-left.invariant

pub returns-then-is_sought : goal.returns-then-is_sought
returns-then-is_sought c =
    let sought = c.args.sought.now in
    range_found c.args.source.now (is_sought sought.part sought.process (option_map (λ name. name.now) sought.name)) c.loop-left.left.now _ _ c.line_of_byte.result c.line_of_byte-then-is_sought.result c.last_byte-last.result
    (omega (arith, c.in-len1-up.len_at_least)) (sym c.is_sought.ensures ∙ c.if-is_sought.true) c.loop-left.invariant c.line_of_byte.ensures c.last_byte-last.ensures c.line_of_byte-then-is_sought.ensures
