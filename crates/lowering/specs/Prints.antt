-- The calls of `$display`, `$write` and `$strobe` as a format by its pieces and the arguments that it shows (IEEE 1364-2005, 17.1).
use Rattle.std.specs.Prelude.{◌≡◌, ◌≢◌, ℕ, ◌+◌, ◌<◌, Bool, true, false, ◌&&◌, ◌==◌, nat_le, if◌then◌else◌, List, [], ◌∷◌, ◌++◌, map, Option, Some, None, codes}
use Rattle.std.specs.Str.{bytes_eq}
use Rattle.logic4.specs.declared.conversion.Conversion.{Conversion}
use Rattle.logic4.specs.declared.conversion.Conversion.TheVariants as conversion
use Rattle.model.specs.declared.tree.Task.{Task}
use Rattle.model.specs.declared.tree.Task.TheVariants.{Display, Strobe, Write}
use Rattle.model.specs.Syntax as core
use Rattle.model.specs.Syntax.{Piece, Byte, Argument}
use Rattle.syntax_tree.specs.Expressions as source
use Rattle.syntax_tree.specs.Expressions.{Expression}
use Rattle.sizing.specs.Names.{Names}
use Rattle.sizing.specs.Meanings.{meaning, own_shape}
use Rattle.sizing.specs.Typing.{IsLowered}
use Rattle.statement_parts.specs.Statements.{SourceText}

-- the task that prints, by its name, and how it shows an argument without a format (17.1)
abbrev pub task_of : SourceText → Option Task
task_of name =
    if bytes_eq name (codes "$display") then Some Display
    else (if bytes_eq name (codes "$strobe") then Some Strobe
    else (if bytes_eq name (codes "$write") then Some Write else None))

-- a decimal, by the sign of what is shown (17.1.1.3)
abbrev pub padded_decimal_of : Bool → Conversion
padded_decimal_of true = conversion.PaddedSignedDecimal
padded_decimal_of false = conversion.PaddedDecimal

abbrev pub short_decimal_of : Bool → Conversion
short_decimal_of true = conversion.SignedDecimal
short_decimal_of false = conversion.Decimal

-- the conversion of a letter behind a %, by the sign of what is shown (17.1.1.2)
abbrev pub conversion_of_letter : ℕ → Bool → Option Conversion
conversion_of_letter letter signed =
    if letter == 98 then Some conversion.Binary
    else (if letter == 111 then Some conversion.Octal
    else (if letter == 104 then Some conversion.Hex
    else (if letter == 120 then Some conversion.Hex
    else (if letter == 100 then Some (padded_decimal_of signed)
    else (if letter == 99 then Some conversion.Character
    else (if letter == 115 then Some conversion.Characters
    else (if letter == 116 then Some conversion.Time else None)))))))

-- and of one behind a % and a 0 (17.1.1.3)
abbrev pub short_conversion_of_letter : ℕ → Bool → Option Conversion
short_conversion_of_letter letter signed =
    if letter == 98 then Some conversion.ShortBinary
    else (if letter == 111 then Some conversion.ShortOctal
    else (if letter == 104 then Some conversion.ShortHex
    else (if letter == 120 then Some conversion.ShortHex
    else (if letter == 100 then Some (short_decimal_of signed)
    else (if letter == 115 then Some conversion.ShortCharacters
    else (if letter == 116 then Some conversion.Decimal else None))))))

-- a letter as a small one
abbrev pub small_letter : ℕ → ℕ
small_letter letter = if nat_le 65 letter && nat_le letter 90 then letter + 32 else letter

-- what a print shows: pieces, with the arguments that they show in their order
abbrev pub Shown : Type 0
Shown = List Piece × List (core.Expression SourceText)

-- what is shown behind something else
abbrev pub shown_behind : Shown → Shown → Shown
shown_behind front back = (front.0 ++ back.0, front.1 ++ back.1)

-- bytes as they are
abbrev pub bytes_shown : SourceText → Shown
bytes_shown bytes = (map Byte bytes, [])

-- an argument by a conversion
abbrev pub value_shown : Conversion → core.Expression SourceText → Shown
value_shown c e = (Argument c ∷ [], e ∷ [])

-- an argument stands for a tree at its own size and sign
abbrev pub IsArgument : Names → Expression → core.Expression SourceText → Type 0
IsArgument n e made = IsLowered n (meaning n e) (own_shape (meaning n e)) made

-- the conversion of a letter, behind a 0 or not
abbrev pub letter_conversion : Bool → ℕ → Bool → Option Conversion
letter_conversion true letter signed = short_conversion_of_letter (small_letter letter) signed
letter_conversion false letter signed = conversion_of_letter (small_letter letter) signed

-- An argument is shown by the conversion of a letter.
pub record IsShownBy (n : Names) (short : Bool) (letter : ℕ) (e : Expression) (shown : Shown) : Type 0 where
  pub by : Conversion
  pub made : core.Expression SourceText
  pub chosen : letter_conversion short letter (meaning n e).signed ≡ Some by
  pub argument : IsArgument n e made
  pub shows : shown ≡ value_shown by made

-- something is shown behind the rest
abbrev pub Adds : (Shown → Type 0) → Shown → Shown → Type 0
Adds P old new = (more : Shown) × (new ≡ shown_behind old more) × P more

-- nothing is shown
abbrev pub nothing_shown : Shown
nothing_shown = ([], [])

-- the arguments of a call, of which one may be left out
abbrev pub Arguments : Type 0
Arguments = List (Option Expression)

-- A format shows its bytes, and the arguments behind it at its conversions, as many as it has; `%%` is a %, and `%m` the full name of the
-- scope (17.1.1).
pub data IsFormatted (n : Names) (path : SourceText) : SourceText → Arguments → Arguments → Shown → Type 0 where
  no_more : (arguments : Arguments) → IsFormatted n path [] arguments arguments ([], [])
  plain_byte : (b : ℕ) (bs : SourceText) (arguments left : Arguments) (shown : Shown) → b ≢ 37 → b < 128 → IsFormatted n path bs arguments left shown
      → IsFormatted n path (b ∷ bs) arguments left (shown_behind (bytes_shown (b ∷ [])) shown)
  percent : (bs : SourceText) (arguments left : Arguments) (shown : Shown) → IsFormatted n path bs arguments left shown
      → IsFormatted n path (37 ∷ 37 ∷ bs) arguments left (shown_behind (bytes_shown (37 ∷ [])) shown)
  full_name : (letter : ℕ) (bs : SourceText) (arguments left : Arguments) (shown : Shown) → small_letter letter ≡ 109 → IsFormatted n path bs arguments left shown
      → IsFormatted n path (37 ∷ letter ∷ bs) arguments left (shown_behind (bytes_shown path) shown)
  converted : (letter : ℕ) (bs : SourceText) (e : Expression) (arguments left : Arguments) (front back : Shown) → IsShownBy n false letter e front → IsFormatted n path bs arguments left back
      → IsFormatted n path (37 ∷ letter ∷ bs) (Some e ∷ arguments) left (shown_behind front back)
  converted_shortly : (letter : ℕ) (bs : SourceText) (e : Expression) (arguments left : Arguments) (front back : Shown) → IsShownBy n true letter e front → IsFormatted n path bs arguments left back
      → IsFormatted n path (37 ∷ 48 ∷ letter ∷ bs) (Some e ∷ arguments) left (shown_behind front back)

-- an argument that is no string
abbrev pub IsValue : Expression → Type 0
IsValue (source.Text at bytes) = ⊥
IsValue e = Unit {0}

-- an argument that is a string
abbrev pub IsString : Expression → SourceText → Type 0
IsString e bytes = (at : ℕ) × (e ≡ source.Text at bytes)

-- A print shows its arguments in their order: a string is a format for those behind it, and another one that no format takes is a
-- decimal (17.1). None may be left out.
pub data IsPrint (n : Names) (path : SourceText) : Arguments → Shown → Type 0 where
  nothing_more : IsPrint n path [] ([], [])
  by_format : (at : ℕ) (bytes : SourceText) (arguments left : Arguments) (front back : Shown) → IsFormatted n path bytes arguments left front → IsPrint n path left back
      → IsPrint n path (Some (source.Text at bytes) ∷ arguments) (shown_behind front back)
  by_value : (e : Expression) (arguments : Arguments) (front back : Shown) → IsValue e → IsShownBy n false 100 e front → IsPrint n path arguments back
      → IsPrint n path (Some e ∷ arguments) (shown_behind front back)

-- a text begins with the letter of a conversion, behind a 0 or not
abbrev pub IsLetter : SourceText → Bool → ℕ → SourceText → Type 0
IsLetter text true letter rest = text ≡ 48 ∷ letter ∷ rest
IsLetter text false letter rest = text ≡ letter ∷ rest

-- what stands behind a % before a letter
abbrev pub letter_text : Bool → ℕ → SourceText
letter_text true letter = 37 ∷ 48 ∷ letter ∷ []
letter_text false letter = 37 ∷ letter ∷ []

-- what one conversion shows
abbrev pub IsLetterShown : Names → SourceText → Bool → ℕ → Arguments → Arguments → Shown → Type 0
IsLetterShown n path short letter arguments left shown = IsFormatted n path (letter_text short letter) arguments left shown

-- what one argument shows, with those behind it that it takes where it is a format
abbrev pub IsArgumentShown : Names → SourceText → Expression → Arguments → Arguments → Shown → Type 0
IsArgumentShown n path (source.Text at bytes) arguments left shown = IsFormatted n path bytes arguments left shown
IsArgumentShown n path e arguments left shown = (left ≡ arguments) × IsShownBy n false 100 e shown

-- a first part of a text is shown behind something else, and what stands behind that part is left
abbrev pub ShowsPart : Names → SourceText → SourceText → SourceText → Arguments → Arguments → Shown → Shown → Type 0
ShowsPart n path text behind arguments left old new = (part : SourceText) × (text ≡ part ++ behind) × Adds (IsFormatted n path part arguments left) old new

-- `%%`, and `%m`
abbrev pub IsPercent : Bool → ℕ → Type 0
IsPercent short letter = (letter ≡ 37) × (short ≡ false)

abbrev pub IsNameLetter : Bool → ℕ → Type 0
IsNameLetter short letter = (small_letter letter ≡ 109) × (short ≡ false)
