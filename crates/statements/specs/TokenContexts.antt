-- What stands before a token, told by the kinds of the tokens before it, of which the nearest comes first.
use Rattle.std.specs.Prelude.{ℕ, ◌+◌, min, List, [], ◌∷◌, Bool, true, false, not, ◌&&◌, ◌||◌, if◌then◌else◌}
use Rattle.tokens.specs.declared.token.Kind.{Kind}
use Rattle.tokens.specs.declared.token.Kind.TheVariants as k
use Rattle.tokens.specs.Tokens.{same_kind}
use Rattle.locations.specs.SourceLocations.{is_process}
use Rattle.locations.specs.TextLines.{most}

-- How many processes begin before here. Numbers stop at the greatest that the machine has.
abbrev pub processes_before : List Kind → ℕ
processes_before [] = 0
processes_before (t ∷ before) = if is_process t then min (processes_before before + 1) most else processes_before before

-- A token that assigns: `=` or `<=`.
abbrev pub is_assigning : Kind → Bool
is_assigning t = same_kind t k.Assign || same_kind t k.AtMost

-- The last token is the sign `@`.
abbrev pub follows_at_sign : List Kind → Bool
follows_at_sign [] = false
follows_at_sign (t ∷ before) = same_kind t k.At

-- The last token assigns.
abbrev pub follows_assigning : List Kind → Bool
follows_assigning [] = false
follows_assigning (t ∷ before) = is_assigning t

-- The last token is the sign of a delay that isn't that of an assignment.
abbrev pub follows_delay_sign : List Kind → Bool
follows_delay_sign [] = false
follows_delay_sign (t ∷ before) = same_kind t k.Hash && not (follows_assigning before)

-- A token behind which a statement or an item begins, or the block of one.
abbrev pub precedes_statement : Kind → Bool
precedes_statement k.Semicolon = true
precedes_statement k.Begin = true
precedes_statement k.EndBlock = true
precedes_statement k.Initial = true
precedes_statement k.Always = true
precedes_statement k.Close = true
precedes_statement t = false

-- A statement begins here: behind such a token, or behind the number of a delay that isn't that of an assignment.
abbrev pub begins_statement : List Kind → Bool
begins_statement [] = false
begins_statement (t ∷ before) = precedes_statement t || (same_kind t k.Decimal && follows_delay_sign before)

-- A token of an event list.
abbrev pub is_event_word : Kind → Bool
is_event_word k.Name = true
is_event_word k.Or = true
is_event_word k.Comma = true
is_event_word k.Posedge = true
is_event_word k.Negedge = true
is_event_word t = false

-- An event list goes on here: only its tokens stand between its `@ (` and here.
abbrev pub in_event_list : List Kind → Bool
in_event_list [] = false
in_event_list (t ∷ before) = (is_event_word t && in_event_list before) || (same_kind t k.Open && follows_at_sign before)

-- A word behind which names are declared: that of a module, or those of registers.
abbrev pub begins_declaration : Kind → Bool
begins_declaration k.Module = true
begins_declaration k.Reg = true
begins_declaration t = false

-- A token of a declaration, but for its first word and its end.
abbrev pub is_declaration_word : Kind → Bool
is_declaration_word k.Name = true
is_declaration_word k.Comma = true
is_declaration_word k.Decimal = true
is_declaration_word k.OpenSquare = true
is_declaration_word k.Colon = true
is_declaration_word k.CloseSquare = true
is_declaration_word t = false

-- Names are declared here: only tokens of a declaration stand between its first word and here.
abbrev pub in_declaration : List Kind → Bool
in_declaration [] = false
in_declaration (t ∷ before) = begins_declaration t || (is_declaration_word t && in_declaration before)

-- Here stands what a `$strobe` shows: no `;` stands between it and here.
abbrev pub in_strobe : List Kind → Bool
in_strobe [] = false
in_strobe (t ∷ before) = same_kind t k.Strobe || (not (same_kind t k.Semicolon) && in_strobe before)
