use Rattle.std.proofs.Common.{ap, ◌∙◌}
use Rattle.std.specs.List.{list_all}
use Rattle.preprocess.specs.Places.{piece_stands}
use Rattle.preprocess.proofs.Standing.{body_piece, argument_all}
use Rattle.preprocess.proofs.preprocessor.Preprocessor.put_piece.Goals as goal

pub push-requires : goal.push-requires
push-requires c =
    ap (piece_stands c.args.self.now.work.files.items) c.from_text.ensures ∙ body_piece c.args.self.now.work.files.items c.args.piece.lexeme _ c.args.origin c.requires.piece c.requires.place

pub put_argument-requires-clause-stand : goal.put_argument-requires-clause-stand
put_argument-requires-clause-stand c =
    ap (list_all (piece_stands c.args.self.now.work.files.items)) c.argument.ensures
    ∙ argument_all c.args.self.now.work.files.items c.args.arguments.now.pieces.items c.args.arguments.now.spans.items _ c.requires.stand
