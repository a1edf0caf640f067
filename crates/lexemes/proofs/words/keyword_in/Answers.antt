-- The row that is looked at isn't the one that is sought.
use Rattle.lexemes.proofs.Tables.{keyword_turn}
use Rattle.lexemes.proofs.words.keyword_in.Goals as goal

pub loop-left-preserved : goal.loop-left-preserved
loop-left-preserved c = keyword_turn c.loop-left.left.now _ c.args.found c.args.other.now _ _ c.in-len1-up.len_at_least c.is_keyword.ensures c.if-is_keyword.false c.loop-left.invariant
