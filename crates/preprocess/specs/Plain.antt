-- Files without directives: their tokens are the cuts of their texts.
use Rattle.std.specs.Prelude.{◌≡◌, ℕ, suc, List, [], ◌∷◌, ◌++◌, map, Bool, true, false, None}
use Rattle.std.specs.List.{list_all}
use Rattle.lexemes.specs.declared.token.TokenKind.{TokenKind}
use Rattle.lexemes.specs.declared.token.TokenKind.TheVariants as k
use Rattle.lexemes.specs.declared.token.LexemeKind.{LexemeKind}
use Rattle.lexemes.specs.declared.token.LexemeKind.TheVariants as l
use Rattle.lexemes.specs.declared.token.VerilogLexeme.{VerilogLexeme}
use Rattle.lexemes.specs.declared.token.SourceFile.{SourceFile}
use Rattle.lexemes.specs.declared.token.VerilogToken.{VerilogToken}
use Rattle.lexemes.specs.Lexing.{IsCutInto}

-- The kind of a token, and not a directive, a use of a macro or a joint of lines.
abbrev pub is_token_kind : LexemeKind → Bool
is_token_kind (l.Token kind) = true
is_token_kind l.Directive = false
is_token_kind l.Joint = false

-- A lexeme that is a token.
abbrev pub is_token : VerilogLexeme → Bool
is_token lexeme = is_token_kind lexeme.kind

-- The kind of the token that a lexeme is.
abbrev pub token_kind_of : LexemeKind → TokenKind
token_kind_of (l.Token kind) = kind
token_kind_of l.Directive = k.Name
token_kind_of l.Joint = k.Name

-- The token that a lexeme is: it comes from no macro.
abbrev pub token_of : VerilogLexeme → VerilogToken
token_of lexeme = record { kind = token_kind_of lexeme.kind; span = lexeme.span; use_place = None }

-- Files, the first of this number, whose texts are cut into tokens alone: these, file after file.
pub data ArePlain : ℕ → List SourceFile → List VerilogToken → Type 0 where
  none : {n : ℕ} → ArePlain n [] []
  more : {n : ℕ} {file : SourceFile} {files : List SourceFile} {ts : List VerilogToken} (ls : List VerilogLexeme) → IsCutInto n 0 false file.text.items ls → list_all is_token ls ≡ true
      → ArePlain (suc n) files ts → ArePlain n (file ∷ files) (map token_of ls ++ ts)
