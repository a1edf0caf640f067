-- The grammar, as relations by cases: `R tree ts rest` says that the tokens `ts` are a spelling of the tree, and then
-- `rest` (IEEE 1364-2005, annex A, as far as this profile has it). Each form of the grammar is a case, and so is each
-- level of precedence. Parentheses leave no node.
--
--     source     = module name ; { item } endmodule
--     item       = reg [ "[" decimal : decimal "]" ] name { , name } ;  |  initial statement  |  always statement
--     statement  = ;  |  block  |  name "=" [ delay ] expression ;  |  name "<=" [ delay ] expression ;  |  delay statement
--                | @ ( event { (or | ,) event } ) statement  |  if ( expression ) block [ else block ]
--                | while ( expression ) block  |  $display ( string { , expression } ) ;  |  $strobe ( string { , expression } ) ;  |  $finish ;
--     block      = begin { statement } end
--     delay      = # decimal
--     event      = [ posedge | negedge ] name
--     expression = level 1 [ ? expression : expression ]
--     level n    = level n+1 { operator of level n, level n+1 }      for n from 1 to 9
--     level 10   = [ ! | ~ | & | "|" | ^ ] primary
--     primary    = name  |  name "[" decimal "]"  |  sized literal  |  { expression { , expression } }  |  ( expression )
use Rattle.std.specs.Prelude.{◌≡◌, ℕ, suc, List, [], ◌∷◌, Bool, true, false, Option, Some, None}
use Rattle.logic4.specs.Vector.{Vector}
use Rattle.tokens.specs.declared.token.Kind.{Kind}
use Rattle.tokens.specs.declared.token.Kind.TheVariants as k
use Rattle.tokens.specs.Tokens.{PlainToken, PlainTokens}
use Rattle.tokens.specs.Lexing.{string_text}
use Rattle.model.specs.declared.tree.Task.{Task}
use Rattle.model.specs.declared.tree.Task.TheVariants.{Display, Strobe, Write}
use Rattle.model.specs.declared.tree.UnaryOperator.{UnaryOperator}
use Rattle.model.specs.declared.tree.UnaryOperator.TheVariants as un
use Rattle.model.specs.declared.tree.BinaryOperator.{BinaryOperator}
use Rattle.model.specs.declared.tree.BinaryOperator.TheVariants as bin
use Rattle.model.specs.declared.tree.Change.{Change}
use Rattle.model.specs.declared.tree.Change.TheVariants.{Any, Posedge, Negedge}
use Rattle.model.specs.Syntax.{Text, Expression, Register, Select, Literal, Concat, Unary, Binary, Conditional, Expressions, Nothing, Also, SourceStatement, Empty, Block, Assign, AssignLater, Delay, Await, If, IfElse, While, Print, Finish, SourceStatements, End, Then, Declaration, SourceProcess, Module}
use Rattle.grammar.specs.Nodes.{SourceTrigger}

-- The level of a binary operator, from 1 for the loosest, and the operator (5.1.2, table 5-4).
abbrev pub operator : Kind → Option (ℕ × BinaryOperator)
operator k.OrOr = Some (1, bin.LogicalOr)
operator k.AndAnd = Some (2, bin.LogicalAnd)
operator k.Bar = Some (3, bin.Or)
operator k.Caret = Some (4, bin.Xor)
operator k.Ampersand = Some (5, bin.And)
operator k.Equal = Some (6, bin.Equal)
operator k.NotEqual = Some (6, bin.NotEqual)
operator k.Same = Some (6, bin.CaseEqual)
operator k.NotSame = Some (6, bin.CaseNotEqual)
operator k.Less = Some (7, bin.Less)
operator k.AtMost = Some (7, bin.LessEqual)
operator k.Greater = Some (7, bin.Greater)
operator k.AtLeast = Some (7, bin.GreaterEqual)
operator k.ShiftLeft = Some (8, bin.ShiftLeft)
operator k.ShiftRight = Some (8, bin.ShiftRight)
operator k.Plus = Some (9, bin.Add)
operator k.Minus = Some (9, bin.Subtract)
operator _ = None

-- How many levels binary operators have.
abbrev pub levels : ℕ
levels = 9

-- The operator that stands before an operand (5.1, A.8.6).
abbrev pub prefix : Kind → Option UnaryOperator
prefix k.Bang = Some un.LogicalNot
prefix k.Tilde = Some un.Not
prefix k.Ampersand = Some un.ReduceAnd
prefix k.Bar = Some un.ReduceOr
prefix k.Caret = Some un.ReduceXor
prefix _ = None

-- The system name of a task that prints a line (17.1); `$write` is none of the profile's.
abbrev pub task_kind : Task → Option Kind
task_kind Display = Some k.Display
task_kind Strobe = Some k.Strobe
task_kind Write = None

mutual
  -- An expression: one without a conditional operator at its top, or a condition and two expressions, which groups to the
  -- right (5.1.13, A.8.3).
  pub data IsExpression : Expression Text → PlainTokens → PlainTokens → Type 0 where
    plain : {e : Expression Text} {ts rest : PlainTokens} → IsBinary 1 e ts rest → IsExpression e ts rest
    chosen : {c a b : Expression Text} {t u : PlainToken} {ts us vs rest : PlainTokens}
        → IsBinary 1 c ts (t ∷ us) → t.kind ≡ k.Question → IsExpression a us (u ∷ vs) → u.kind ≡ k.Colon → IsExpression b vs rest
        → IsExpression (Conditional c a b) ts rest

  -- An expression of a level. Binary operators group to the left: what stands left of one is of its own level, and what
  -- stands right of it is of a tighter one (5.1.2).
  pub data IsBinary : ℕ → Expression Text → PlainTokens → PlainTokens → Type 0 where
    operand : {e : Expression Text} {ts rest : PlainTokens} → IsUnary e ts rest → IsBinary (suc levels) e ts rest
    tighter : {level : ℕ} {e : Expression Text} {ts rest : PlainTokens} → IsBinary (suc level) e ts rest → IsBinary level e ts rest
    joined : {level : ℕ} {op : BinaryOperator} {l r : Expression Text} {t : PlainToken} {ts us rest : PlainTokens}
        → IsBinary level l ts (t ∷ us) → operator t.kind ≡ Some (level, op) → IsBinary (suc level) r us rest
        → IsBinary level (Binary op l r) ts rest

  -- A primary, with one operator before it at most (A.8.3).
  pub data IsUnary : Expression Text → PlainTokens → PlainTokens → Type 0 where
    bare : {e : Expression Text} {ts rest : PlainTokens} → IsPrimary e ts rest → IsUnary e ts rest
    prefixed : {op : UnaryOperator} {e : Expression Text} {t : PlainToken} {ts rest : PlainTokens}
        → prefix t.kind ≡ Some op → IsPrimary e ts rest → IsUnary (Unary op e) (t ∷ ts) rest

  -- A name, a bit of one (5.2.1), a sized literal (3.5.1), a concatenation (5.1.14), or an expression in parentheses (A.8.4).
  pub data IsPrimary : Expression Text → PlainTokens → PlainTokens → Type 0 where
    named : {t : PlainToken} {rest : PlainTokens} → t.kind ≡ k.Name → IsPrimary (Register t.text) (t ∷ rest) rest
    selected : {t u v w : PlainToken} {rest : PlainTokens} → t.kind ≡ k.Name → u.kind ≡ k.OpenSquare → v.kind ≡ k.Decimal → w.kind ≡ k.CloseSquare
        → IsPrimary (Select t.text v.value) (t ∷ u ∷ v ∷ w ∷ rest) rest
    sized : {d : Vector} {t : PlainToken} {rest : PlainTokens} → t.kind ≡ k.Sized → t.bits ≡ Some d → IsPrimary (Literal d) (t ∷ rest) rest
    concatenated : {es : Expressions Text} {t : PlainToken} {ts rest : PlainTokens} → t.kind ≡ k.OpenCurly → IsParts es ts rest → IsPrimary (Concat es) (t ∷ ts) rest
    nested : {e : Expression Text} {t u : PlainToken} {ts rest : PlainTokens}
        → t.kind ≡ k.Open → IsExpression e ts (u ∷ rest) → u.kind ≡ k.Close → IsPrimary e (t ∷ ts) rest

  -- Expressions with commas between them, at least one, and the closing curly bracket (A.8.1).
  pub data IsParts : Expressions Text → PlainTokens → PlainTokens → Type 0 where
    last_part : {e : Expression Text} {u : PlainToken} {ts rest : PlainTokens} → IsExpression e ts (u ∷ rest) → u.kind ≡ k.CloseCurly → IsParts (Also e Nothing) ts rest
    next_part : {e : Expression Text} {es : Expressions Text} {u : PlainToken} {ts us rest : PlainTokens} → IsExpression e ts (u ∷ us) → u.kind ≡ k.Comma → IsParts es us rest
        → IsParts (Also e es) ts rest

-- # and a plain decimal, or nothing (9.7.7, A.6.5).
pub data IsDelay : Option ℕ → PlainTokens → PlainTokens → Type 0 where
  no_delay : {ts : PlainTokens} → IsDelay None ts ts
  some_delay : {t u : PlainToken} {rest : PlainTokens} → t.kind ≡ k.Hash → u.kind ≡ k.Decimal → IsDelay (Some u.value) (t ∷ u ∷ rest) rest

-- The word for an edge (9.7.2).
abbrev pub change_of : Kind → Option Change
change_of k.Posedge = Some Posedge
change_of k.Negedge = Some Negedge
change_of _ = None

-- An event: a name, or an edge of one (9.7.2).
pub data IsTrigger : SourceTrigger → PlainTokens → PlainTokens → Type 0 where
  any : {t : PlainToken} {rest : PlainTokens} → t.kind ≡ k.Name → IsTrigger (Any, t.text) (t ∷ rest) rest
  edge : {c : Change} {t u : PlainToken} {rest : PlainTokens} → change_of t.kind ≡ Some c → u.kind ≡ k.Name → IsTrigger (c, u.text) (t ∷ u ∷ rest) rest

-- The word `or` and the comma stand between events (9.7.4).
abbrev pub separates : Kind → Bool
separates k.Or = true
separates k.Comma = true
separates _ = false

-- Events, at least one, and the closing parenthesis (A.6.5).
pub data IsTriggers : List SourceTrigger → PlainTokens → PlainTokens → Type 0 where
  last_trigger : {e : SourceTrigger} {u : PlainToken} {ts rest : PlainTokens} → IsTrigger e ts (u ∷ rest) → u.kind ≡ k.Close → IsTriggers (e ∷ []) ts rest
  next_trigger : {e : SourceTrigger} {es : List SourceTrigger} {u : PlainToken} {ts us rest : PlainTokens} → IsTrigger e ts (u ∷ us) → separates u.kind ≡ true → IsTriggers es us rest
      → IsTriggers (e ∷ es) ts rest

-- Expressions with a comma before each, and the closing parenthesis (17.1).
pub data IsArguments : Expressions Text → PlainTokens → PlainTokens → Type 0 where
  no_argument : {t : PlainToken} {rest : PlainTokens} → t.kind ≡ k.Close → IsArguments Nothing (t ∷ rest) rest
  one_argument : {e : Expression Text} {es : Expressions Text} {t : PlainToken} {ts us rest : PlainTokens} → t.kind ≡ k.Comma → IsExpression e ts us → IsArguments es us rest
      → IsArguments (Also e es) (t ∷ ts) rest

mutual
  -- A statement: the empty one, a block, a blocking (9.2.1) and a nonblocking assignment (9.2.2), a delay (9.7.1), an event
  -- control (9.7.2), a conditional statement (9.4), a while loop (9.6), $display and $strobe (17.1) and $finish (17.4.1).
  pub data IsStatement : SourceStatement → PlainTokens → PlainTokens → Type 0 where
    emptied : {t : PlainToken} {rest : PlainTokens} → t.kind ≡ k.Semicolon → IsStatement Empty (t ∷ rest) rest
    grouped : {ss : SourceStatements} {ts rest : PlainTokens} → IsBeginEnd ss ts rest → IsStatement (Block ss) ts rest
    assigned : {d : Option ℕ} {e : Expression Text} {t u v : PlainToken} {ts us rest : PlainTokens}
        → t.kind ≡ k.Name → u.kind ≡ k.Assign → IsDelay d ts us → IsExpression e us (v ∷ rest) → v.kind ≡ k.Semicolon
        → IsStatement (Assign t.text d e) (t ∷ u ∷ ts) rest
    assigned_later : {d : Option ℕ} {e : Expression Text} {t u v : PlainToken} {ts us rest : PlainTokens}
        → t.kind ≡ k.Name → u.kind ≡ k.AtMost → IsDelay d ts us → IsExpression e us (v ∷ rest) → v.kind ≡ k.Semicolon
        → IsStatement (AssignLater t.text d e) (t ∷ u ∷ ts) rest
    delayed : {s : SourceStatement} {t u : PlainToken} {ts rest : PlainTokens} → t.kind ≡ k.Hash → u.kind ≡ k.Decimal → IsStatement s ts rest → IsStatement (Delay u.value s) (t ∷ u ∷ ts) rest
    awaited : {es : List SourceTrigger} {s : SourceStatement} {t u : PlainToken} {ts us rest : PlainTokens}
        → t.kind ≡ k.At → u.kind ≡ k.Open → IsTriggers es ts us → IsStatement s us rest → IsStatement (Await es s) (t ∷ u ∷ ts) rest
    branched : {e : Expression Text} {ss : SourceStatements} {t u v : PlainToken} {ts us rest : PlainTokens}
        → t.kind ≡ k.If → u.kind ≡ k.Open → IsExpression e ts (v ∷ us) → v.kind ≡ k.Close → IsBeginEnd ss us rest
        → IsStatement (If e ss) (t ∷ u ∷ ts) rest
    branched_else : {e : Expression Text} {ss rs : SourceStatements} {t u v w : PlainToken} {ts us vs rest : PlainTokens}
        → t.kind ≡ k.If → u.kind ≡ k.Open → IsExpression e ts (v ∷ us) → v.kind ≡ k.Close → IsBeginEnd ss us (w ∷ vs) → w.kind ≡ k.Else → IsBeginEnd rs vs rest
        → IsStatement (IfElse e ss rs) (t ∷ u ∷ ts) rest
    looped : {e : Expression Text} {ss : SourceStatements} {t u v : PlainToken} {ts us rest : PlainTokens}
        → t.kind ≡ k.While → u.kind ≡ k.Open → IsExpression e ts (v ∷ us) → v.kind ≡ k.Close → IsBeginEnd ss us rest
        → IsStatement (While e ss) (t ∷ u ∷ ts) rest
    printed : {task : Task} {es : Expressions Text} {t u v w : PlainToken} {ts rest : PlainTokens}
        → task_kind task ≡ Some t.kind → u.kind ≡ k.Open → v.kind ≡ k.Text → IsArguments es ts (w ∷ rest) → w.kind ≡ k.Semicolon
        → IsStatement (Print task (string_text v.text) es) (t ∷ u ∷ v ∷ ts) rest
    finished : {t u : PlainToken} {rest : PlainTokens} → t.kind ≡ k.Finish → u.kind ≡ k.Semicolon → IsStatement Finish (t ∷ u ∷ rest) rest

  -- Statements between `begin` and `end` (9.8.1).
  pub data IsBeginEnd : SourceStatements → PlainTokens → PlainTokens → Type 0 where
    begun : {ss : SourceStatements} {t u : PlainToken} {ts rest : PlainTokens} → t.kind ≡ k.Begin → IsStatements ss ts (u ∷ rest) → u.kind ≡ k.EndBlock → IsBeginEnd ss (t ∷ ts) rest

  -- Statements one after another.
  pub data IsStatements : SourceStatements → PlainTokens → PlainTokens → Type 0 where
    no_more : {ts : PlainTokens} → IsStatements End ts ts
    one_more : {s : SourceStatement} {ss : SourceStatements} {ts us rest : PlainTokens} → IsStatement s ts us → IsStatements ss us rest → IsStatements (Then s ss) ts rest

-- The range of a declaration, two plain decimals, or nothing (4.3, A.2.5).
pub data IsRange : Option (ℕ × ℕ) → PlainTokens → PlainTokens → Type 0 where
  no_range : {ts : PlainTokens} → IsRange None ts ts
  some_range : {t u v w x : PlainToken} {rest : PlainTokens} → t.kind ≡ k.OpenSquare → u.kind ≡ k.Decimal → v.kind ≡ k.Colon → w.kind ≡ k.Decimal → x.kind ≡ k.CloseSquare
      → IsRange (Some (u.value, w.value)) (t ∷ u ∷ v ∷ w ∷ x ∷ rest) rest

-- Names with commas between them, at least one, and the semicolon (A.2.3).
pub data IsNames : List Text → PlainTokens → PlainTokens → Type 0 where
  last_name : {t u : PlainToken} {rest : PlainTokens} → t.kind ≡ k.Name → u.kind ≡ k.Semicolon → IsNames (t.text ∷ []) (t ∷ u ∷ rest) rest
  next_name : {ns : List Text} {t u : PlainToken} {ts rest : PlainTokens} → t.kind ≡ k.Name → u.kind ≡ k.Comma → IsNames ns ts rest
      → IsNames (t.text ∷ ns) (t ∷ u ∷ ts) rest

-- Whether the process that a word begins repeats: `initial` (9.9.1) and `always` (9.9.2).
abbrev pub repeats_of : Kind → Option Bool
repeats_of k.Initial = Some false
repeats_of k.Always = Some true
repeats_of _ = None

-- The declarations and the processes of the items of a module, each in the order of the text (A.1.4).
pub data IsItems : List Declaration → List SourceProcess → PlainTokens → PlainTokens → Type 0 where
  no_items : {ts : PlainTokens} → IsItems [] [] ts ts
  regs : {r : Option (ℕ × ℕ)} {ns : List Text} {ds : List Declaration} {ps : List SourceProcess} {t : PlainToken} {ts us vs rest : PlainTokens}
      → t.kind ≡ k.Reg → IsRange r ts us → IsNames ns us vs → IsItems ds ps vs rest
      → IsItems (record { range = r; names = ns } ∷ ds) ps (t ∷ ts) rest
  proc : {b : Bool} {s : SourceStatement} {ds : List Declaration} {ps : List SourceProcess} {t : PlainToken} {ts us rest : PlainTokens}
      → repeats_of t.kind ≡ Some b → IsStatement s ts us → IsItems ds ps us rest
      → IsItems ds (record { repeats = b; body = s } ∷ ps) (t ∷ ts) rest

-- A module, which is all there is (12.1, A.1.2).
pub data IsModule : Module → PlainTokens → Type 0 where
  spelled : {ds : List Declaration} {ps : List SourceProcess} {t u v w : PlainToken} {ts : PlainTokens}
      → t.kind ≡ k.Module → u.kind ≡ k.Name → v.kind ≡ k.Semicolon → IsItems ds ps ts (w ∷ []) → w.kind ≡ k.EndModule
      → IsModule (record { name = u.text; declarations = ds; processes = ps }) (t ∷ u ∷ v ∷ ts)
