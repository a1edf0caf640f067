-- How names stand in a text (IEEE 1364-2005, 3.7).
use Rattle.std.specs.Prelude.{ℕ, Bool, false, not, ◌&&◌, ◌==◌, nat_lt, nat_le, if◌then◌else◌, [], ◌∷◌, ◌++◌, codes}
use Rattle.std.specs.Option.{is_some}
use Rattle.lexemes.specs.ByteClasses.{begins_name, in_identifier, all_bytes}
use Rattle.lexemes.specs.Kinds.{keywords, kind_of_text}
use Rattle.model.specs.Syntax.{Text}
use Rattle.flattext.specs.Phrases.{octal_escape}

-- a reserved word (3.7.2, annex B)
unfoldable pub is_reserved : Text → Bool
is_reserved name = is_some (kind_of_text keywords name)

-- a simple name: a letter or _, then letters, digits, _ and $, and no reserved word
unfoldable pub is_simple : Text → Bool
is_simple [] = false
is_simple (b ∷ bs) = begins_name b && all_bytes in_identifier bs && not (is_reserved (b ∷ bs))

-- whether a byte may stand in an escaped name as it is: printed, and neither a space, which would end the name, nor a \
abbrev pub may_stand_escaped : ℕ → Bool
may_stand_escaped byte = nat_lt 32 byte && nat_le byte 126 && not (byte == 92)

-- a byte of an escaped name, by its octal digits where it may not stand there as it is (own)
abbrev pub graphic_text : ℕ → Text
graphic_text byte = if may_stand_escaped byte then byte ∷ [] else octal_escape byte

-- so all bytes of a name
abbrev pub graphic_texts : Text → Text
graphic_texts [] = []
graphic_texts (byte ∷ bytes) = graphic_text byte ++ graphic_texts bytes

-- a name: as it is where it is simple, else escaped, behind a \ and up to a space (3.7.1)
unfoldable pub name_text : Text → Text
name_text name = if is_simple name then name else codes "\\" ++ (graphic_texts name ++ codes " ")
