use Rattle.std.proofs.Common.{Some, map, sym, ap, ◌∙◌}
use Rattle.model.specs.SourceTrees.{piece_of}
use Rattle.elaborate.specs.FirstFindings.{found_pieces}
use Rattle.elaborate.proofs.Sizes.{count_is}
use Rattle.elaborate.proofs.check.line_of.Goals as goal

pub returns : goal.returns
returns c = c.show_all.ensures ∙ ap (found_pieces (Some (map piece_of c.args.pieces.now))) (sym (count_is c.args.arguments.now))
