-- The last piece of what is left is put.
use Rattle.std.proofs.Common.{◌≡◌, ◌<◌, ◌-◌, List, length, get_or, true, refl, ap, ◌∙◌, arith}
use Rattle.std.specs.List.{list_all}
use Rattle.lexemes.specs.declared.token.SourceFile.{SourceFile}
use Rattle.preprocess.specs.declared.work.PendingPiece.{PendingPiece}
use Rattle.preprocess.specs.Places.{piece_stands}
use Rattle.preprocess.proofs.Standing.{all_at}
use Rattle.preprocess.proofs.Substitution.{argument_turn, argument_start, argument_end}
use Rattle.preprocess.proofs.preprocessor.Preprocessor.put_argument.Goals as goal

pub loop-left-init : goal.loop-left-init
loop-left-init c = record {
  files = refl;
  within = omega arith;
  pieces = argument_start c.args.origin c.args.argument.now c.args.self.now.work.pieces.items;
}

pub put_argument_piece-requires-clause-stand : goal.put_argument_piece-requires-clause-stand
put_argument_piece-requires-clause-stand c =
    let all = ap (λ (files : List SourceFile). list_all (piece_stands files) c.args.argument.now) c.loop-left.invariant.files ∙ c.requires.stand in
    let within : c.loop-left.left - 1 < length c.args.argument.now = omega (arith, c.loop-left-test.true, c.loop-left.invariant.within) in
    let each : (d : PendingPiece) → piece_stands c.loop-left.self.work.files.items (get_or c.args.argument.now (c.loop-left.left - 1) d) ≡ true = λ d. all_at (piece_stands c.loop-left.self.work.files.items) c.args.argument.now (c.loop-left.left - 1) d within all in
    each _

pub loop-left-preserved : goal.loop-left-preserved
loop-left-preserved c = record {
  files = c.in_ok-put_argument_piece.ensures.files ∙ c.loop-left.invariant.files;
  within = omega (arith, c.loop-left.invariant.within);
  pieces = argument_turn c.args.origin c.args.argument.now c.loop-left.left _ _ _ _ c.loop-left-test.true c.loop-left.invariant.within c.in_ok-put_argument_piece.ensures.pieces
      c.loop-left.invariant.pieces;
}

pub returns-clause-pieces : goal.returns-clause-pieces
returns-clause-pieces c = argument_end c.args.origin c.args.argument.now c.loop-left.left _ _ c.loop-left-test.false c.loop-left.invariant.pieces
