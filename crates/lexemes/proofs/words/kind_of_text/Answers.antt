-- The row that is looked at isn't the one that is sought.
use Rattle.std.proofs.Common.{sym, ◌∙◌}
use Rattle.lexemes.proofs.Tables.{kind_turn}
use Rattle.lexemes.proofs.words.kind_of_text.Goals as goal

pub loop-left-preserved : goal.loop-left-preserved
loop-left-preserved c = kind_turn c.loop-left.left.now _ c.args.text.now c.as_bytes.result.now _ c.in-len1-up.len_at_least c.as_bytes.ensures.value (sym c.eq.ensures ∙ c.if-eq.false) c.loop-left.invariant
