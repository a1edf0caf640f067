-- Formats in which the name of a scope stands in the place of `%m` (IEEE 1364-2005, 17.1.1.6).
use Rattle.std.specs.Prelude.{ℕ, Bool, true, false, ◌||◌, nat_eq, if◌then◌else◌, List, [], ◌∷◌, ◌++◌}
use Rattle.std.specs.List.{flat_map}
use Rattle.statement_parts.specs.Statements.{SourceText}

-- the byte `%`
abbrev pub is_percent_sign : ℕ → Bool
is_percent_sign b = nat_eq b 37

-- the letter `m`, or `M`
abbrev pub is_path_letter : ℕ → Bool
is_path_letter b = nat_eq b 109 || nat_eq b 77

-- a byte as a format shows it: `%%` for `%`
abbrev pub byte_as_format : ℕ → SourceText
byte_as_format b = if is_percent_sign b then 37 ∷ 37 ∷ [] else b ∷ []

-- a name as a format shows it
abbrev pub as_format : SourceText → SourceText
as_format path = flat_map byte_as_format path

-- what a byte stands for, by whether a `%` stands before it that begins something
abbrev pub byte_shown : SourceText → Bool → ℕ → SourceText
byte_shown path false b = if is_percent_sign b then [] else b ∷ []
byte_shown path true b = if is_path_letter b then as_format path else 37 ∷ b ∷ []

-- whether a byte begins something
abbrev pub begins_letter : Bool → ℕ → Bool
begins_letter false b = is_percent_sign b
begins_letter true b = false

-- what is left of a format, by whether a `%` stands before it that begins something
abbrev pub rest_shown : SourceText → Bool → SourceText → SourceText
rest_shown path false [] = []
rest_shown path true [] = 37 ∷ []
rest_shown path begun (b ∷ bs) = byte_shown path begun b ++ rest_shown path (begins_letter begun b) bs

-- a format with a name in the place of each `%m`
abbrev pub format_with_path : SourceText → SourceText → SourceText
format_with_path path format = rest_shown path false format
