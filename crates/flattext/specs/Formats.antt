-- Formats by their pieces, and the arguments that they show (IEEE 1364-2005, 17.1.1).
use Rattle.std.specs.Prelude.{Bool, true, false, ◌==◌, if◌then◌else◌, List, [], ◌∷◌, ◌++◌, codes}
use Rattle.logic4.specs.declared.conversion.Conversion.{Conversion}
use Rattle.logic4.specs.declared.conversion.Conversion.TheVariants.{Binary, ShortBinary, Octal, ShortOctal, Hex, ShortHex, Decimal, PaddedDecimal, SignedDecimal, PaddedSignedDecimal, Character, Characters, ShortCharacters, Time}
use Rattle.model.specs.Syntax.{Text, Piece, Byte, Argument, Expression, Expressions, Nothing, Also}
use Rattle.flattext.specs.Phrases.{escaped_byte}
use Rattle.flattext.specs.Operators.{conditional_level}
use Rattle.flattext.specs.Expressions.{closing, sign_opening, expression_text, arguments_text}

-- a conversion as a format spells it (17.1.1.2, 17.1.1.3)
abbrev pub conversion_text : Conversion → Text
conversion_text Binary = codes "%b"
conversion_text ShortBinary = codes "%0b"
conversion_text Octal = codes "%o"
conversion_text ShortOctal = codes "%0o"
conversion_text Hex = codes "%h"
conversion_text ShortHex = codes "%0h"
conversion_text Decimal = codes "%0d"
conversion_text PaddedDecimal = codes "%d"
conversion_text SignedDecimal = codes "%0d"
conversion_text PaddedSignedDecimal = codes "%d"
conversion_text Character = codes "%c"
conversion_text Characters = codes "%s"
conversion_text ShortCharacters = codes "%0s"
conversion_text Time = codes "%t"

-- whether a conversion shows an argument with its sign
abbrev pub shows_sign : Conversion → Bool
shows_sign SignedDecimal = true
shows_sign PaddedSignedDecimal = true
shows_sign _ = false

-- a piece of a format: a % is spelled twice (17.1.1)
abbrev pub piece_text : Piece → Text
piece_text (Byte byte) = if byte == 37 then codes "%%" else escaped_byte byte
piece_text (Argument conversion) = conversion_text conversion

-- the pieces of a format, one behind another
abbrev pub pieces_text : List Piece → Text
pieces_text [] = []
pieces_text (piece ∷ pieces) = piece_text piece ++ pieces_text pieces

-- a format between its quotation marks
unfoldable pub quoted_format : List Piece → Text
quoted_format pieces = codes "\"" ++ (pieces_text pieces ++ codes "\"")

-- an argument behind a comma, taken with its sign where it is shown so
unfoldable pub argument_text : Bool → Expression Text → Text
argument_text signed e = codes ", " ++ (sign_opening signed ++ (expression_text conditional_level e ++ closing signed))

-- the arguments of a format, each as its conversion shows it, and any that are left over as they are
abbrev pub shown_arguments : List Piece → Expressions Text → Text
shown_arguments [] es = arguments_text es
shown_arguments (Byte byte ∷ pieces) es = shown_arguments pieces es
shown_arguments (Argument conversion ∷ pieces) Nothing = []
shown_arguments (Argument conversion ∷ pieces) (Also e es) = argument_text (shows_sign conversion) e ++ shown_arguments pieces es
