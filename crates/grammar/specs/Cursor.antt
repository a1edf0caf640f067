-- What a cursor over tokens reads.
use Rattle.std.specs.Prelude.{◌≡◌, ℕ, [], ◌∷◌, map, Bool, true, false, if◌then◌else◌, length, Option, Some, None, Result, Ok, Err}
use Rattle.tokens.specs.declared.token.Kind.{Kind}
use Rattle.tokens.specs.declared.token.Kind.TheVariants.{End}
use Rattle.tokens.specs.Tokens.{PlainToken, PlainTokens, plain_token, same_kind}
use Rattle.grammar.specs.declared.cursor.Cursor.{Cursor}
use Rattle.grammar.specs.declared.fault.GrammarFault.{GrammarFault}
use Rattle.grammar.specs.declared.fault.GrammarFault.TheVariants.{Syntax, Unsized, Deep, Memory}

-- The tokens that are left.
abbrev pub left_of : Cursor → PlainTokens
left_of cursor = map plain_token cursor.left.now

-- The kind of the next token.
abbrev pub kind : PlainTokens → Kind
kind [] = End
kind (t ∷ ts) = t.kind

-- Whether the next token is of a kind.
abbrev pub sees : Kind → PlainTokens → Bool
sees wanted ts = same_kind (kind ts) wanted

-- Whether no token is left.
abbrev pub done : PlainTokens → Bool
done [] = true
done (t ∷ ts) = false

-- ---- what a step of a parser gives

-- A value and the tokens that are left, or nothing where the tokens don't fit.
abbrev pub ParseOutcome : Type 0 → Type 0
ParseOutcome A = Option (A × PlainTokens)

-- One step after another.
abbrev pub parse_and_then : {A B : Type 0} → ParseOutcome A → (A → PlainTokens → ParseOutcome B) → ParseOutcome B
parse_and_then None f = None
parse_and_then (Some p) f = f p.0 p.1

-- The step that takes the next token.
abbrev pub take : PlainTokens → ParseOutcome PlainToken
take [] = None
take (t ∷ ts) = Some (t, ts)

-- The step that takes a token of a kind.
unfoldable pub expect : Kind → PlainTokens → ParseOutcome PlainToken
expect wanted ts = if sees wanted ts then take ts else None

-- What a function that parses ensures: the step's outcome, unless a token nests too deep or memory fails.
abbrev pub Reads : {A B : Type 0} → (A → B) → Option ℕ → ParseOutcome B → Result A GrammarFault → PlainTokens → Type 0
Reads view stop outcome (Ok a) new = outcome ≡ Some (view a, new)
Reads view stop outcome (Err Syntax) new = outcome ≡ None
Reads view stop outcome (Err Unsized) new = outcome ≡ None
Reads view stop outcome (Err Deep) new = stop ≡ Some (length new)
Reads view stop outcome (Err Memory) new = Unit {0}

-- What a function that only builds ensures: the value, whatever tokens are left, unless memory fails.
abbrev pub Builds : {A B : Type 0} → (A → B) → B → Result A GrammarFault → Type 0
Builds view b result = (stop : Option ℕ) (ts : PlainTokens) → Reads view stop (Some (b, ts)) result ts
