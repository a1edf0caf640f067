use Rattle.std.proofs.Common.{◌++◌, [], ◌∷◌, map, ℕ, ap, ◌∙◌}
use Rattle.model.specs.SourceTrees.{source_expression_of}
use Rattle.model.specs.declared.tree.Piece.TheVariants.{Byte}
use Rattle.lowering.proofs.Formats.{byte_pushed, is_low}
use Rattle.lowering.proofs.prints.PrintParts.add_byte.Goals as goal

pub returns : goal.returns
returns c =
    let old = c.args.self.now.pieces.items in (
      is_low c.in-Some.ascii c.args.byte c.in-Some.ensures.none.1,
      byte_pushed old c.push.new.self.items c.args.byte (map source_expression_of c.args.self.now.arguments.items) (c.in_ok-push.ensures.items ∙ ap (λ (b : ℕ). old ++ Byte b ∷ []) c.in-Some.ensures.some),
    )
