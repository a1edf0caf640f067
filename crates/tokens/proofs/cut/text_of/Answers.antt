-- ASCII is UTF-8.
use Rattle.std.proofs.lemmas.Str.{IsUtf8-from_ascii}
use Rattle.tokens.proofs.cut.text_of.Goals as goal

pub unreachable-requires : goal.unreachable-requires
unreachable-requires c = c.in-Err.ensures.cases.0 (IsUtf8-from_ascii c.args.piece.now c.requires)
