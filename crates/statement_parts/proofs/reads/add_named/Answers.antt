-- The variable that the name stands for is added.
use Rattle.std.proofs.Common.{map, string_bytes}
use Rattle.syntax_tree.specs.Expressions.{plain_expression_of}
use Rattle.statement_parts.specs.Places.{names_around}
use Rattle.statement_parts.proofs.Meant.{named_added}
use Rattle.statement_parts.proofs.reads.add_named.Goals as goal

pub returns : goal.returns
returns c =
    named_added (map string_bytes c.args.found.now.items) (map string_bytes c.add_object.new.found.items) _ (names_around c.args.around) (plain_expression_of c.args.e.now) _ c.in_ok-add_object.ensures c.in_ok-object.ensures c.place-here.ensures
