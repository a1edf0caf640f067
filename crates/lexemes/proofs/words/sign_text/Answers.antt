-- The row that is looked at isn't the one that is sought.
use Rattle.lexemes.proofs.Tables.{sign_turn}
use Rattle.lexemes.proofs.words.sign_text.Goals as goal

pub loop-left-preserved : goal.loop-left-preserved
loop-left-preserved c = sign_turn c.loop-left.left.now _ c.args.found _ _ c.in-len1-up.len_at_least c.is_sign.ensures c.if-is_sign.false c.loop-left.invariant
