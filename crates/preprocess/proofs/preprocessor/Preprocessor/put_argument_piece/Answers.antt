use Rattle.std.proofs.Common.{ap, ◌∙◌}
use Rattle.preprocess.specs.Places.{piece_stands}
use Rattle.preprocess.proofs.Standing.{argument_stands}
use Rattle.preprocess.proofs.preprocessor.Preprocessor.put_argument_piece.Goals as goal

pub push-requires : goal.push-requires
push-requires c =
    ap (piece_stands c.args.self.now.work.files.items) c.from_argument.ensures ∙ argument_stands c.args.self.now.work.files.items c.args.origin c.args.piece c.requires.stand c.requires.place
