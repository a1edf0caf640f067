-- The text of a macro comes from where the outermost macro was used.
use Rattle.std.proofs.Common.{ap, ◌∙◌}
use Rattle.std.specs.List.{list_all}
use Rattle.preprocess.specs.Places.{stands, piece_stands}
use Rattle.preprocess.proofs.Standing.{piece_span, outermost_stands}
use Rattle.preprocess.proofs.preprocessor.Preprocessor.put_macro.Goals as goal

pub read_arguments-requires : goal.read_arguments-requires
read_arguments-requires c = record {
  place = piece_span c.args.self.now.work.files.items c.args.piece c.requires.piece;
  stand = ap (list_all (piece_stands c.args.self.now.work.files.items)) c.requires.none;
}

pub put_text-put-requires-clause-place : goal.put_text-put-requires-clause-place
put_text-put-requires-clause-place c =
    ap (λ files. stands files c.outermost.result) c.in_ok-read_arguments.ensures.files ∙ ap (stands c.args.self.now.work.files.items) c.outermost.ensures
    ∙ outermost_stands c.args.self.now.work.files.items c.args.piece c.requires.piece
