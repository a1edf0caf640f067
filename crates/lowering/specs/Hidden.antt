-- The hidden variables of a design.
use Rattle.std.specs.Prelude.{◌≡◌, ℕ, List, ◌++◌, map, string_bytes, codes, decimal}
use Rattle.lowering.specs.declared.hidden.Hidden.{Hidden}
use Rattle.lowering.specs.declared.hidden.HiddenVariables.{HiddenVariables}
use Rattle.statement_parts.specs.Statements.{SourceText}

-- a hidden variable by its name and its width
abbrev pub hidden_of : Hidden → SourceText × ℕ
hidden_of h = (string_bytes h.name, h.width)

-- hidden variables by their names and their widths
abbrev pub HiddenList : Type 0
HiddenList = List (SourceText × ℕ)

abbrev pub hidden_in : HiddenVariables → HiddenList
hidden_in v = map hidden_of v.variables.items

-- the name of the hidden variable of a number
abbrev pub hidden_name : ℕ → SourceText
hidden_name number = codes "$" ++ decimal number

-- hidden variables are made behind those that are there, and these are so
abbrev pub Makes : HiddenList → HiddenList → (HiddenList → Type 0) → Type 0
Makes old new P = (used : HiddenList) × (new ≡ old ++ used) × P used
