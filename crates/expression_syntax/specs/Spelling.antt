-- The text that a string spells (IEEE 1364-2005, 3.6).
use Rattle.std.specs.Prelude.{ℕ, ◌+◌, ◌*◌, ◌-◌, ◌%◌, List, [], ◌∷◌, ◌++◌, Bool, ◌&&◌, ◌==◌, nat_lt, nat_le, if◌then◌else◌}
use Rattle.expression_syntax.specs.declared.spelling.Escape.{Escape}
use Rattle.expression_syntax.specs.declared.spelling.Escape.TheVariants.{Plain, Begun, Octal}

-- An octal digit.
abbrev pub is_octal : ℕ → Bool
is_octal b = nat_le 48 b && nat_le b 55

-- The byte that one behind a `\` stands for: a newline, a tab, or itself (3.6.3).
abbrev pub unescaped_byte : ℕ → ℕ
unescaped_byte b = if b == 110 then 10 else (if b == 116 then 9 else b)

-- A byte that no `\` stands before: a quote ends or begins the string, and each other one is itself.
abbrev pub plain_step : ℕ → Escape × List ℕ
plain_step b = if b == 92 then (Begun, []) else (if b == 34 then (Plain, []) else (Plain, b ∷ []))

-- A byte behind a `\`: the first of one to three octal digits of a byte's number, or what it stands for.
abbrev pub begun_step : ℕ → Escape × List ℕ
begun_step b = if is_octal b then (Octal (b - 48) 1, []) else (Plain, unescaped_byte b ∷ [])

-- A byte behind octal digits.
abbrev pub octal_step : ℕ → ℕ → ℕ → Escape × List ℕ
octal_step value count b =
    if is_octal b && nat_lt count 3 then (Octal ((value * 8 + (b - 48)) % 256) (count + 1), []) else ((plain_step b).0, value ∷ (plain_step b).1)

-- What a byte of a string adds to its text, by what stands before it.
abbrev pub string_step : Escape → ℕ → Escape × List ℕ
string_step Plain b = plain_step b
string_step Begun b = begun_step b
string_step (Octal value count) b = octal_step value count b

-- What the bytes of a string add to its text.
abbrev pub text_from : Escape → List ℕ → List ℕ
text_from before [] = []
text_from before (b ∷ bs) = (string_step before b).1 ++ text_from (string_step before b).0 bs

-- The text of a string with its quotes.
abbrev pub unquoted_text : List ℕ → List ℕ
unquoted_text bs = text_from Plain bs
