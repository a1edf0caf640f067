use Rattle.std.proofs.Common.{map, take, drop, length, ◌-◌}
use Rattle.syntax_tree.specs.Expressions.{plain_expression_of}
use Rattle.design_scopes.specs.Places.{means}
use Rattle.statement_parts.specs.Statements.{plain_argument}
use Rattle.lowering.specs.Shown.{shown_in}
use Rattle.lowering.proofs.Formats.{percent_letter, name_letter, converted_letter, arguments_front}
use Rattle.lowering.proofs.prints.PrintParts.add_letter.Goals as goal

pub returns-then-is_percent-clause-shows : goal.returns-then-is_percent-clause-shows
returns-then-is_percent-clause-shows c =
    percent_letter (means c.args.at.place) c.args.at.path.now c.args.letter.is_short c.args.letter.letter (map plain_argument c.args.arguments.now) (shown_in c.args.self.now) (shown_in c.add_byte.new.self) (c.is_percent.ensures.0 c.if-is_percent.true) c.in_ok-add_byte.ensures.1

pub returns-then-is_name_letter-clause-shows : goal.returns-then-is_name_letter-clause-shows
returns-then-is_name_letter-clause-shows c =
    name_letter (means c.args.at.place) c.args.at.path.now c.as_bytes.result.now c.args.letter.is_short c.args.letter.letter (map plain_argument c.args.arguments.now) (shown_in c.args.self.now) (shown_in c.add_bytes.new.self)
    (c.is_name_letter.ensures.0 c.if-is_name_letter.true) c.as_bytes.ensures.value c.in_ok-add_bytes.ensures

pub returns-clause-shows : goal.returns-clause-shows
returns-clause-shows c =
    let xs = c.args.arguments.now in
    converted_letter (means c.args.at.place) c.args.at.path.now c.args.letter.is_short c.args.letter.letter (plain_expression_of c.in-Some.e) (map plain_argument xs) (map plain_argument (take (length xs - 1) (drop 1 xs))) (shown_in c.args.self.now) (shown_in c.add_converted.new.self)
    (arguments_front xs c.first-item.result c.in-Some.e c.in-len1-up.len_at_least c.first-item.is c.in-Some.is) c.in_ok-add_converted.ensures
