-- The line of words that can't be read was told.
use Rattle.std.proofs.Common.{inl, refl, subst}
use Rattle.telling.specs.FaultLines.{Tells}
use Rattle.program.proofs.program.without_words.Goals as goal

pub returns-in_default : goal.returns-in_default
returns-in_default g c = record {
  status = inl refl;
  unread = λ two. subst (Tells g.E.Write.contents c.args.err.now c.tell.new.err) c.plain.ensures c.tell.ensures;
  memory = λ six. cc;
}
