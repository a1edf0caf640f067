-- What the program has of what a print shows.
use Rattle.std.specs.Prelude.{map}
use Rattle.model.specs.SourceTrees.{piece_of, source_expression_of}
use Rattle.lowering.specs.declared.prints.PrintParts.{PrintParts}
use Rattle.lowering.specs.Prints.{Shown}

-- the pieces, and the arguments as plain trees
abbrev pub shown_in : PrintParts → Shown
shown_in p = (map piece_of p.pieces.items, map source_expression_of p.arguments.items)
