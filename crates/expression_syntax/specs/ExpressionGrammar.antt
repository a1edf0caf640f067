-- The grammar of expressions, as relations by cases: `IsExpression files ts e a b` says that the tokens from the place a up to the
-- place b are a spelling of the tree e (IEEE 1364-2005, A.8). Parentheses and attributes leave no node, and of min:typ:max the middle
-- one stands.
--
--     expression  = level 1 [ ? attributes expression : expression ]
--     level n     = level n+1 { operator of level n, attributes, level n+1 }      for n from 1 to 11
--     level 12    = [ unary operator attributes ] primary
--     primary     = number  |  string  |  path attributes  |  path attributes ( arguments )  |  system name [ ( arguments ) ]  |  braces  |  ( one or three )
--     path        = name { . name  |  "[" expression "]"  |  "[" expression part expression "]" }
--     part        = :  |  +:  |  -:
--     braces      = { expression { , expression } }  |  { expression { expression { , expression } } }
--     arguments   = expression { , expression }
--     one or three = expression [ : expression : expression ]
use Rattle.std.specs.Prelude.{◌≡◌, ℕ, zero, suc, ◌<◌, List, [], ◌∷◌, ◌++◌, Bool, true, false, Option, Some}
use Rattle.lexemes.specs.declared.token.Sign.{Sign}
use Rattle.lexemes.specs.declared.token.Sign.TheVariants as sign
use Rattle.lexemes.specs.declared.token.TokenKind.{TokenKind}
use Rattle.syntax_tree.specs.declared.expressions.VerilogBinaryOperator.{VerilogBinaryOperator}
use Rattle.syntax_tree.specs.declared.expressions.VerilogUnaryOperator.{VerilogUnaryOperator}
use Rattle.syntax_tree.specs.declared.expressions.PartForm.{PartForm}
use Rattle.syntax_tree.specs.Expressions as tree
use Rattle.syntax_tree.specs.Expressions.{Expression, plain_expressions}
use Rattle.numerals.specs.declared.number.Number.{Number}
use Rattle.numerals.specs.declared.number.NumberReading.{NumberReading}
use Rattle.numerals.specs.declared.number.NumberReading.TheVariants as reading
use Rattle.numerals.specs.Numbers as numbers
use Rattle.expression_syntax.specs.declared.operators.PrimaryForm.TheVariants as primary
use Rattle.expression_syntax.specs.declared.texts.TokenSource.{TokenSource}
use Rattle.expression_syntax.specs.Texts.{token_bytes, name_spelled}
use Rattle.expression_syntax.specs.Spelling.{unquoted_text}
use Rattle.expression_syntax.specs.Attributes.{tokens_of, AreAttributes}
use Rattle.expression_syntax.specs.Places.{kind_at, sign_at, name_at, base_at, has_digits_at, behind}
use Rattle.expression_syntax.specs.Operators.{binary_operator, unary_operator, part_form, primary_form, binary_levels}

-- A number (3.5.1), with what it stands for: digits, or a base with its digits, or both with a size before them.
pub data IsNumber (s : TokenSource) : NumberReading → ℕ → ℕ → Type 0 where
  plain_number : {a : ℕ} → primary_form (kind_at (tokens_of s) a) ≡ primary.Number
      → IsNumber s (numbers.plain_number (token_bytes s a)) a (behind (tokens_of s) a)
  based_number : {a m : ℕ} → base_at (tokens_of s) a ≡ true → m ≡ behind (tokens_of s) a → has_digits_at (tokens_of s) m ≡ true
      → IsNumber s (numbers.based_number (token_bytes s a) (token_bytes s m)) a (behind (tokens_of s) m)
  sized_number : {a m n : ℕ} → primary_form (kind_at (tokens_of s) a) ≡ primary.Number → m ≡ behind (tokens_of s) a → base_at (tokens_of s) m ≡ true
      → n ≡ behind (tokens_of s) m → has_digits_at (tokens_of s) n ≡ true
      → IsNumber s (numbers.sized_number (token_bytes s a) (token_bytes s m) (token_bytes s n)) a (behind (tokens_of s) n)

-- Whether bytes are those of no number that this language has.
abbrev pub has_no_value : NumberReading → Bool
has_no_value (reading.Value n) = false
has_no_value _ = true

-- The node of a number at a token.
abbrev pub IsNode : ℕ → NumberReading → Expression → Type 0
IsNode a (reading.Value n) e = e ≡ tree.Number a n.sized n.signed n.cut n.digits
IsNode a _ e = e ≡ tree.Refused a

mutual
  -- An expression: one without a conditional operator at its top, or a condition and two expressions, which groups to the right (5.1.13).
  pub data IsExpression (s : TokenSource) : Expression → ℕ → ℕ → Type 0 where
    plain : {e : Expression} {a b : ℕ} → IsBinary s 1 e a b → IsExpression s e a b
    chosen : {c x y : Expression} {a q m n b : ℕ}
        → IsBinary s 1 c a q → sign_at (tokens_of s) q sign.Question ≡ true → AreAttributes s (behind (tokens_of s) q) m
        → IsExpression s x m n → sign_at (tokens_of s) n sign.Colon ≡ true → IsExpression s y (behind (tokens_of s) n) b
        → IsExpression s (tree.Conditional q c x y) a b

  -- An expression of a level. Binary operators group to the left: what stands left of one is of its own level, and what stands right of
  -- it is of a tighter one (5.1.2).
  pub data IsBinary (s : TokenSource) : ℕ → Expression → ℕ → ℕ → Type 0 where
    operand : {e : Expression} {a b : ℕ} → IsUnary s e a b → IsBinary s (suc binary_levels) e a b
    tighter : {level : ℕ} {e : Expression} {a b : ℕ} → IsBinary s (suc level) e a b → IsBinary s level e a b
    joined : {level : ℕ} {op : VerilogBinaryOperator} {l r : Expression} {a q m b : ℕ}
        → IsBinary s level l a q → binary_operator (kind_at (tokens_of s) q) ≡ Some (level, op) → AreAttributes s (behind (tokens_of s) q) m
        → IsBinary s (suc level) r m b → IsBinary s level (tree.Binary q op l r) a b

  -- A primary, with one operator before it at most.
  pub data IsUnary (s : TokenSource) : Expression → ℕ → ℕ → Type 0 where
    bare : {e : Expression} {a b : ℕ} → IsPrimary s e a b → IsUnary s e a b
    prefixed : {op : VerilogUnaryOperator} {e : Expression} {a m b : ℕ}
        → unary_operator (kind_at (tokens_of s) a) ≡ Some op → AreAttributes s (behind (tokens_of s) a) m → IsPrimary s e m b
        → IsUnary s (tree.Unary a op e) a b

  -- An operand without an operator (A.8.4).
  pub data IsPrimary (s : TokenSource) : Expression → ℕ → ℕ → Type 0 where
    numbered : {n : Number} {a b : ℕ} → IsNumber s (reading.Value n) a b → IsPrimary s (tree.Number a n.sized n.signed n.cut n.digits) a b
    refused : {r : NumberReading} {a b : ℕ} → IsNumber s r a b → has_no_value r ≡ true → IsPrimary s (tree.Refused a) a b
    real : {a : ℕ} → primary_form (kind_at (tokens_of s) a) ≡ primary.Real → IsPrimary s (tree.Real a (token_bytes s a)) a (behind (tokens_of s) a)
    text : {a : ℕ} → primary_form (kind_at (tokens_of s) a) ≡ primary.Text → IsPrimary s (tree.Text a (unquoted_text (token_bytes s a))) a (behind (tokens_of s) a)
    path : {e : Expression} {a m b : ℕ} → IsPath s e a m → AreAttributes s m b → IsPrimary s e a b
    called : {e : Expression} {es : List Expression} {a m n b : ℕ} → IsPath s e a m → AreAttributes s m n → sign_at (tokens_of s) n sign.Open ≡ true
        → AreParts s sign.Close es (behind (tokens_of s) n) b → IsPrimary s (tree.Call n e (plain_expressions es)) a b
    system : {a : ℕ} → primary_form (kind_at (tokens_of s) a) ≡ primary.SystemName → IsPrimary s (tree.SystemCall a (token_bytes s a) tree.Nothing) a (behind (tokens_of s) a)
    system_called : {es : List Expression} {a m b : ℕ} → primary_form (kind_at (tokens_of s) a) ≡ primary.SystemName → m ≡ behind (tokens_of s) a
        → sign_at (tokens_of s) m sign.Open ≡ true → AreParts s sign.Close es (behind (tokens_of s) m) b
        → IsPrimary s (tree.SystemCall a (token_bytes s a) (plain_expressions es)) a b
    braces : {e : Expression} {a b : ℕ} → IsBraces s e a b → IsPrimary s e a b
    nested : {e : Expression} {a m : ℕ} → sign_at (tokens_of s) a sign.Open ≡ true → IsExpression s e (behind (tokens_of s) a) m → sign_at (tokens_of s) m sign.Close ≡ true
        → IsPrimary s e a (behind (tokens_of s) m)
    typical : {e low high : Expression} {a m n o : ℕ} → sign_at (tokens_of s) a sign.Open ≡ true → IsExpression s low (behind (tokens_of s) a) m
        → sign_at (tokens_of s) m sign.Colon ≡ true → IsExpression s e (behind (tokens_of s) m) n
        → sign_at (tokens_of s) n sign.Colon ≡ true → IsExpression s high (behind (tokens_of s) n) o → sign_at (tokens_of s) o sign.Close ≡ true
        → IsPrimary s e a (behind (tokens_of s) o)

  -- A name, a member of a scope (12.5), and a select (5.2).
  pub data IsPath (s : TokenSource) : Expression → ℕ → ℕ → Type 0 where
    named : {a : ℕ} → name_at (tokens_of s) a ≡ true → IsPath s (tree.Name a (name_spelled (token_bytes s a))) a (behind (tokens_of s) a)
    member : {e : Expression} {a m n : ℕ} → IsPath s e a m → sign_at (tokens_of s) m sign.Dot ≡ true → n ≡ behind (tokens_of s) m → name_at (tokens_of s) n ≡ true
        → IsPath s (tree.Member n e (name_spelled (token_bytes s n))) a (behind (tokens_of s) n)
    indexed : {e i : Expression} {a m n : ℕ} → IsPath s e a m → sign_at (tokens_of s) m sign.OpenSquare ≡ true
        → IsExpression s i (behind (tokens_of s) m) n → sign_at (tokens_of s) n sign.CloseSquare ≡ true
        → IsPath s (tree.Index m e i) a (behind (tokens_of s) n)
    part : {form : PartForm} {e first second : Expression} {a m n o : ℕ} → IsPath s e a m → sign_at (tokens_of s) m sign.OpenSquare ≡ true
        → IsExpression s first (behind (tokens_of s) m) n → part_form (kind_at (tokens_of s) n) ≡ Some form
        → IsExpression s second (behind (tokens_of s) n) o → sign_at (tokens_of s) o sign.CloseSquare ≡ true
        → IsPath s (tree.Part m form e first second) a (behind (tokens_of s) o)

  -- A concatenation or a replication (5.1.14).
  pub data IsBraces (s : TokenSource) : Expression → ℕ → ℕ → Type 0 where
    concatenated : {es : List Expression} {a b : ℕ} → sign_at (tokens_of s) a sign.OpenCurly ≡ true → AreParts s sign.CloseCurly es (behind (tokens_of s) a) b
        → IsBraces s (tree.Concatenation a (plain_expressions es)) a b
    replicated : {e : Expression} {es : List Expression} {a m n : ℕ} → sign_at (tokens_of s) a sign.OpenCurly ≡ true → IsExpression s e (behind (tokens_of s) a) m
        → sign_at (tokens_of s) m sign.OpenCurly ≡ true → AreParts s sign.CloseCurly es (behind (tokens_of s) m) n → sign_at (tokens_of s) n sign.CloseCurly ≡ true
        → IsBraces s (tree.Replication a e (plain_expressions es)) a (behind (tokens_of s) n)

  -- Expressions with commas between them, at least one.
  pub data AreSeparated (s : TokenSource) : List Expression → ℕ → ℕ → Type 0 where
    first_part : {e : Expression} {a b : ℕ} → IsExpression s e a b → AreSeparated s (e ∷ []) a b
    next_part : {e : Expression} {es : List Expression} {a m b : ℕ} → AreSeparated s es a m → sign_at (tokens_of s) m sign.Comma ≡ true
        → IsExpression s e (behind (tokens_of s) m) b → AreSeparated s (es ++ e ∷ []) a b

  -- Expressions with commas between them, at least one, and the bracket that closes them.
  pub data AreParts (s : TokenSource) : Sign → List Expression → ℕ → ℕ → Type 0 where
    parts : {bracket : Sign} {es : List Expression} {a m : ℕ} → AreSeparated s es a m → sign_at (tokens_of s) m bracket ≡ true
        → AreParts s bracket es a (behind (tokens_of s) m)

-- An expression of a level, where level 0 has the conditional operator too.
abbrev pub IsLevel : TokenSource → ℕ → Expression → ℕ → ℕ → Type 0
IsLevel s zero e a b = IsExpression s e a b
IsLevel s (suc n) e a b = IsBinary s (suc n) e a b

-- No binary operator of a level or a tighter one is of this kind.
abbrev pub EndsLevel : ℕ → Option TokenKind → Type 0
EndsLevel level kind = (found : ℕ × VerilogBinaryOperator) → binary_operator kind ≡ Some found → found.0 < level

-- What a value is given to: a path, or a concatenation (A.8.5).
pub data IsTarget (s : TokenSource) : Expression → ℕ → ℕ → Type 0 where
  one_target : {e : Expression} {a b : ℕ} → IsPath s e a b → IsTarget s e a b
  several_targets : {e : Expression} {a b : ℕ} → IsBraces s e a b → IsTarget s e a b
