use Rattle.std.proofs.Common.{◌≡◌, Some, sym, ap, ◌∙◌, subst}
use Rattle.model.specs.SourceTrees.{source_expression_of}
use Rattle.shaped_trees.specs.declared.shape.Shape.{Shape}
use Rattle.syntax_tree.specs.Expressions.{plain_expression_of}
use Rattle.sizing.specs.Meanings.{meaning, own_shape}
use Rattle.sizing.specs.Typing.{IsLowered, joined_shape}
use Rattle.design_scopes.specs.Places.{means}
use Rattle.lowering.specs.Prints.{letter_conversion}
use Rattle.lowering.proofs.Formats.{value_added}
use Rattle.lowering.proofs.Shapes.{typed_shape, own_lowered}
use Rattle.lowering.proofs.prints.PrintParts.add_converted.Goals as goal

pub returns : goal.returns
returns c =
    let n = means c.args.at.place in
    let e = plain_expression_of c.args.e.now in
    let m = meaning n e in
    let found = c.in_ok-found.found in
    let letter = c.args.letter in
    let made = source_expression_of c.in_ok-made.made in
    let own : found.shape ≡ own_shape m = typed_shape n m found.shape (source_expression_of found.tree) c.in_ok-found.ensures in
    let chosen : letter_conversion letter.is_short letter.letter m.signed ≡ Some c.in-Some.conversion =
    ap (λ (s : Shape). letter_conversion letter.is_short letter.letter s.signed) (sym (c.shape-shape.ensures ∙ own)) ∙ sym c.in-Some.ensures in
    let lowered : IsLowered n m (joined_shape found.shape found.shape) made = subst (λ (s : Shape). IsLowered n m (joined_shape found.shape s) made) c.shape-shape.ensures (c.in_ok-made.ensures n m c.in_ok-found.ensures) in
    value_added n letter.is_short letter.letter e c.in-Some.conversion c.in_ok-made.made c.args.self.now.pieces.items c.push.new.self.items c.args.self.now.arguments.items c.push-2.new.self.items c.in_ok-push.ensures.items c.in_ok-push-2.ensures.items chosen
    (own_lowered n m found.shape made own lowered)
