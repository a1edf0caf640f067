-- The last piece of what is left is put.
use Rattle.std.proofs.Common.{◌≡◌, ◌<◌, ◌-◌, List, length, get_or, true, refl, ap, ◌∙◌, arith}
use Rattle.std.specs.List.{list_all}
use Rattle.lexemes.specs.declared.token.SourceFile.{SourceFile}
use Rattle.preprocess.specs.declared.work.BodyPiece.{BodyPiece}
use Rattle.preprocess.specs.Places.{body_stands}
use Rattle.preprocess.proofs.Standing.{all_at}
use Rattle.preprocess.proofs.Substitution.{text_turn, text_start, text_end}
use Rattle.preprocess.proofs.preprocessor.Preprocessor.put_text.Goals as goal

pub loop-left-init : goal.loop-left-init
loop-left-init c = record {
  files = refl;
  within = omega arith;
  pieces = text_start c.args.arguments.now.pieces.items c.args.arguments.now.spans.items c.args.origin c.args.text.now c.args.self.now.work.pieces.items;
}

pub put_piece-requires-clause-piece : goal.put_piece-requires-clause-piece
put_piece-requires-clause-piece c =
    let all = ap (λ (files : List SourceFile). list_all (body_stands files) c.args.text.now) c.loop-left.invariant.files ∙ c.requires.text in
    let within : c.loop-left.left - 1 < length c.args.text.now = omega (arith, c.loop-left-test.true, c.loop-left.invariant.within) in
    let each : (d : BodyPiece) → body_stands c.loop-left.self.work.files.items (get_or c.args.text.now (c.loop-left.left - 1) d) ≡ true = λ d. all_at (body_stands c.loop-left.self.work.files.items) c.args.text.now (c.loop-left.left - 1) d within all in
    each _

pub loop-left-preserved : goal.loop-left-preserved
loop-left-preserved c = record {
  files = c.in_ok-put_piece.ensures.files ∙ c.loop-left.invariant.files;
  within = omega (arith, c.loop-left.invariant.within);
  pieces = text_turn c.args.arguments.now.pieces.items c.args.arguments.now.spans.items c.args.origin c.args.text.now c.loop-left.left _ _ _ _ c.loop-left-test.true c.loop-left.invariant.within
      c.in_ok-put_piece.ensures.pieces c.loop-left.invariant.pieces;
}

pub returns-clause-pieces : goal.returns-clause-pieces
returns-clause-pieces c =
    text_end c.args.arguments.now.pieces.items c.args.arguments.now.spans.items c.args.origin c.args.text.now c.loop-left.left _ _ c.loop-left-test.false c.loop-left.invariant.pieces
