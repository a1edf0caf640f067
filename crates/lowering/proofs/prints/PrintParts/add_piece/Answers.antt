use Rattle.std.proofs.Common.{map}
use Rattle.design_scopes.specs.Places.{means}
use Rattle.statement_parts.specs.Statements.{plain_argument}
use Rattle.lowering.specs.Shown.{shown_in}
use Rattle.lowering.proofs.Formats.{byte_part, letter_part}
use Rattle.lowering.proofs.prints.PrintParts.add_piece.Goals as goal

pub returns-then-byte-ne37-clause-shows : goal.returns-then-byte-ne37-clause-shows
returns-then-byte-ne37-clause-shows c =
    byte_part (means c.args.at.place) c.args.at.path.now c.args.byte c.args.rest.now (map plain_argument c.args.arguments.now) (shown_in c.args.self.now) (shown_in c.add_byte.new.self) c.if-byte-ne37.true c.in_ok-add_byte.ensures.0 c.in_ok-add_byte.ensures.1

pub returns-clause-shows : goal.returns-clause-shows
returns-clause-shows c =
    letter_part (means c.args.at.place) c.args.at.path.now c.args.byte c.args.rest.now c.in-Some.letter.is_short c.in-Some.letter.letter c.in-Some.behind.now (map plain_argument c.args.arguments.now) (map plain_argument c.in_ok-left.left.now) (shown_in c.args.self.now)
    (shown_in c.add_letter.new.self) c.if-byte-ne37.false c.in-Some.ensures c.in_ok-left.ensures.shows
