-- A name is what is left.
use Rattle.std.proofs.Common.{sym, ◌∙◌}
use Rattle.tokens.proofs.Firsts.{name_is}
use Rattle.tokens.proofs.kinds.word_kind.Goals as goal

pub returns : goal.returns
returns c = name_is c.args.text.now c.requires (sym c.word.ensures ∙ c.in_default.is)
