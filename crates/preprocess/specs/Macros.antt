-- What stands in the place of the use of a macro: its text, with the arguments put in (IEEE 1364-2005, 19.3.1).
use Rattle.std.specs.Prelude.{ℕ, List, [], ◌∷◌, ◌++◌, map, take, drop, Option, Some, None, get_or}
use Rattle.preprocess.specs.declared.work.Origin.{Origin}
use Rattle.preprocess.specs.declared.work.PendingPiece.{PendingPiece}
use Rattle.preprocess.specs.declared.work.BodyPiece.{BodyPiece}
use Rattle.preprocess.specs.declared.uses.ArgumentSpan.{ArgumentSpan}

-- Where no argument stands.
abbrev pub nowhere : ArgumentSpan
nowhere = record { begin = 0; end = 0 }

-- Where an argument stands among the pieces of all arguments, by its number.
abbrev pub span_at : List ArgumentSpan → ℕ → ArgumentSpan
span_at spans number = get_or spans number nowhere

-- The pieces of an argument, by its number.
abbrev pub argument : List PendingPiece → List ArgumentSpan → ℕ → List PendingPiece
argument pieces spans number = drop (span_at spans number).begin (take (span_at spans number).end pieces)

-- The use in whose macro's text a piece stands, if it stands in one.
abbrev pub within_of : Option Origin → Option ℕ
within_of None = None
within_of (Some origin) = origin.within

-- A piece of an argument, in the place of a use: it stays in the text of the macro in which it stands.
abbrev pub from_argument : Origin → PendingPiece → PendingPiece
from_argument origin piece =
    record { lexeme = piece.lexeme; begins_line = piece.begins_line; origin = Some (record { place = origin.place; within = within_of piece.origin }) }

-- A piece of the text of a macro, in the place of a use.
abbrev pub from_text : Origin → BodyPiece → PendingPiece
from_text origin piece = record { lexeme = piece.lexeme; begins_line = piece.begins_line; origin = Some origin }

-- What stands in the place of a piece of the text: the argument, where it is a formal one, and else the piece.
abbrev pub placed_by : List PendingPiece → List ArgumentSpan → Origin → BodyPiece → Option ℕ → List PendingPiece
placed_by pieces spans origin piece None = from_text origin piece ∷ []
placed_by pieces spans origin piece (Some number) = map (from_argument origin) (argument pieces spans number)

abbrev pub substituted_piece : List PendingPiece → List ArgumentSpan → Origin → BodyPiece → List PendingPiece
substituted_piece pieces spans origin piece = placed_by pieces spans origin piece piece.formal

-- The text of a macro with the arguments put in.
abbrev pub substituted : List PendingPiece → List ArgumentSpan → Origin → List BodyPiece → List PendingPiece
substituted pieces spans origin [] = []
substituted pieces spans origin (piece ∷ text) = substituted_piece pieces spans origin piece ++ substituted pieces spans origin text
