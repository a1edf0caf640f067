-- What each private function of the parser computes. The public contracts don't speak of it: `Grammar` says what is spelled.
use Rattle.std.specs.Prelude.{Bool, ℕ, zero, suc, ◌+◌, List, [], ◌∷◌, ◌++◌, nat_lt, if◌then◌else◌, Option, Some, None}
use Rattle.logic4.specs.Vector.{Vector}
use Rattle.tokens.specs.declared.token.Kind.{Kind}
use Rattle.tokens.specs.declared.token.Kind.TheVariants as k
use Rattle.tokens.specs.Tokens.{PlainToken, PlainTokens}
use Rattle.model.specs.declared.tree.Task.{Task}
use Rattle.model.specs.declared.tree.Task.TheVariants.{Display, Strobe}
use Rattle.model.specs.declared.tree.UnaryOperator.{UnaryOperator}
use Rattle.model.specs.declared.tree.BinaryOperator.{BinaryOperator}
use Rattle.model.specs.declared.tree.Change.{Change}
use Rattle.model.specs.declared.tree.Change.TheVariants.{Any}
use Rattle.tokens.specs.Lexing.{string_text}
use Rattle.grammar.specs.Cursor.{kind, sees, done, ParseOutcome, parse_and_then, take, expect}
use Rattle.model.specs.Syntax.{Text, Expression, Register, Select, Literal, Concat, Unary, Binary, Conditional, SourceStatement, Declaration, SourceProcess, Module}
use Rattle.model.specs.SourceTrees.{source_expressions, source_statements}
use Rattle.grammar.specs.Nodes.{SourceTrigger}
use Rattle.model.specs.Syntax as tree
use Rattle.grammar.specs.Grammar.{operator, prefix, change_of, separates, repeats_of}

-- A step that reads a value.
abbrev pub Parser : Type 0 → Type 0
Parser A = PlainTokens → ParseOutcome A

-- The operator, if it is of this level or a tighter one.
abbrev pub if_level : ℕ → Option (ℕ × BinaryOperator) → Option (ℕ × BinaryOperator)
if_level level None = None
if_level level (Some p) = if nat_lt p.0 level then None else Some p

-- The operator of a kind, if it is of this level or a tighter one.
unfoldable pub continues : ℕ → Kind → Option (ℕ × BinaryOperator)
continues level kind = if_level level (operator kind)

-- A token of a kind, and the plain decimal behind it.
abbrev pub parse_number : Kind → Parser ℕ
parse_number mark ts = parse_and_then (expect mark ts) (λ t us. parse_and_then (expect k.Decimal us) (λ u rest. Some (u.value, rest)))

-- [ decimal ] behind a name.
unfoldable pub parse_select : Text → Parser (Expression Text)
parse_select t ts = parse_and_then (take ts) (λ u us. parse_and_then (expect k.Decimal us) (λ v vs. parse_and_then (expect k.CloseSquare vs) (λ w rest. Some (Select t v.value, rest))))

-- A name, or a bit of one.
unfoldable pub parse_name : Parser (Expression Text)
parse_name ts = parse_and_then (take ts) (λ t us. if sees k.OpenSquare us then parse_select t.text us else Some (Register t.text, us))

-- A literal, by its digits.
abbrev pub literal_by : Option Vector → Parser (Expression Text)
literal_by None ts = None
literal_by (Some d) ts = Some (Literal d, ts)

-- A sized literal.
unfoldable pub parse_literal : Parser (Expression Text)
parse_literal ts = parse_and_then (take ts) (λ t. literal_by t.bits)

-- The number is the level at which an operand begins, 0 for a whole expression.
module _ (inner : ℕ → Parser (Expression Text)) where
  -- An expression in parentheses.
  unfoldable pub parse_parenthesized : Parser (Expression Text)
  parse_parenthesized ts = parse_and_then (expect k.Open ts) (λ t us. parse_and_then (inner 0 us) (λ e vs. parse_and_then (expect k.Close vs) (λ u rest. Some (e, rest))))

  -- An expression, and a token of a kind behind it.
  unfoldable pub parse_closed : Kind → Parser (Expression Text)
  parse_closed mark ts = parse_and_then (inner 0 ts) (λ e us. parse_and_then (expect mark us) (λ t rest. Some (e, rest)))

  -- Expressions with a comma before each up to a closing bracket, behind those found.
  unfoldable pub parse_list : Kind → ℕ → List (Expression Text) → Parser (List (Expression Text))
  parse_list bracket zero found ts = None
  parse_list bracket (suc m) found ts =
      if sees k.Comma ts then parse_and_then (take ts) (λ t us. parse_and_then (inner 0 us) (λ e. parse_list bracket m (found ++ e ∷ [])))
      else parse_and_then (expect bracket ts) (λ t rest. Some (found, rest))

  -- A concatenation: its first part, and those that follow.
  unfoldable pub parse_concat : ℕ → Parser (Expression Text)
  parse_concat budget ts = parse_and_then (take ts) (λ t us. parse_and_then (inner 0 us) (λ e vs.
      parse_and_then (parse_list k.CloseCurly budget [] vs) (λ es rest. Some (Concat (tree.Also e (source_expressions es)), rest))))

  -- A primary, by the kind of its first token.
  abbrev pub primary_by : ℕ → Kind → Parser (Expression Text)
  primary_by budget k.Name ts = parse_name ts
  primary_by budget k.Sized ts = parse_literal ts
  primary_by budget k.OpenCurly ts = parse_concat budget ts
  primary_by budget k.Open ts = parse_parenthesized ts
  primary_by budget _ ts = None

  -- A primary.
  unfoldable pub parse_primary : ℕ → Parser (Expression Text)
  parse_primary budget ts = primary_by budget (kind ts) ts

  -- A primary, behind its operator if there is one.
  abbrev pub unary_by : ℕ → Option UnaryOperator → Parser (Expression Text)
  unary_by budget None ts = parse_primary budget ts
  unary_by budget (Some op) ts = parse_and_then (take ts) (λ t us. parse_and_then (parse_primary budget us) (λ e rest. Some (Unary op e, rest)))

  -- An operand: a primary with one operator before it at most.
  unfoldable pub parse_operand : ℕ → Parser (Expression Text)
  parse_operand budget ts = unary_by budget (prefix (kind ts)) ts

  -- The operand behind an operator, and what more follows; or nothing more.
  abbrev pub operators_by : (Expression Text → Parser (Expression Text)) → Expression Text → Option (ℕ × BinaryOperator) → Parser (Expression Text)
  operators_by more left None ts = Some (left, ts)
  operators_by more left (Some p) ts = parse_and_then (take ts) (λ t us. parse_and_then (inner (p.0 + 1) us) (λ right. more (Binary p.1 left right)))

  -- The operators and operands that follow what stands left.
  unfoldable pub parse_operators : ℕ → ℕ → Expression Text → Parser (Expression Text)
  parse_operators zero level left ts = None
  parse_operators (suc m) level left ts = operators_by (parse_operators m level) left (continues level (kind ts)) ts

  -- What follows the condition of a conditional operator.
  unfoldable pub parse_conditional : Expression Text → Parser (Expression Text)
  parse_conditional test ts = parse_and_then (take ts) (λ t us. parse_and_then (inner 0 us) (λ a vs. parse_and_then (expect k.Colon vs) (λ u ws.
      parse_and_then (inner 0 ws) (λ b rest. Some (Conditional test a b, rest)))))

  -- A conditional operator may follow at level 0 alone.
  abbrev pub conditional_at : ℕ → Expression Text → Parser (Expression Text)
  conditional_at zero left ts = if sees k.Question ts then parse_conditional left ts else Some (left, ts)
  conditional_at (suc level) left ts = Some (left, ts)

  -- An expression of a level.
  unfoldable pub parse_level : ℕ → ℕ → Parser (Expression Text)
  parse_level budget level ts = parse_and_then (parse_and_then (parse_operand budget ts) (parse_operators budget level)) (conditional_at level)

-- An expression of a level: none where the budget is 0, and each expression inside it has a smaller one. It bounds the turns too.
abbrev pub parse_expression : ℕ → ℕ → Parser (Expression Text)
parse_expression zero level ts = None
parse_expression (suc budget) level ts = parse_level (parse_expression budget) budget level ts

-- ---- statements

-- # decimal, or nothing.
unfoldable pub parse_delay : Parser (Option ℕ)
parse_delay ts =
    if sees k.Hash ts then parse_and_then (take ts) (λ t us. parse_and_then (expect k.Decimal us) (λ u rest. Some (Some u.value, rest)))
    else Some (None, ts)

-- What stands right of the sign of an assignment, and the semicolon.
unfoldable pub parse_value : ℕ → Parser (Option ℕ × Expression Text)
parse_value budget ts = parse_and_then (parse_delay ts) (λ d us. parse_and_then (parse_expression budget 0 us) (λ e vs. parse_and_then (expect k.Semicolon vs) (λ v rest. Some ((d, e), rest))))

-- An assignment of either form.
unfoldable pub parse_assign : ℕ → Parser SourceStatement
parse_assign budget ts = parse_and_then (take ts) (λ t us.
    if sees k.AtMost us then parse_and_then (take us) (λ u vs. parse_and_then (parse_value budget vs) (λ p rest. Some (tree.AssignLater t.text p.0 p.1, rest)))
    else parse_and_then (expect k.Assign us) (λ u vs. parse_and_then (parse_value budget vs) (λ p rest. Some (tree.Assign t.text p.0 p.1, rest))))

-- An event, by its edge.
abbrev pub event_by : Option Change → Parser SourceTrigger
event_by None ts = parse_and_then (expect k.Name ts) (λ t rest. Some ((Any, t.text), rest))
event_by (Some c) ts = parse_and_then (take ts) (λ t us. parse_and_then (expect k.Name us) (λ u rest. Some ((c, u.text), rest)))

-- An event.
unfoldable pub parse_event : Parser SourceTrigger
parse_event ts = event_by (change_of (kind ts)) ts

-- Events up to the closing parenthesis, behind those found.
unfoldable pub parse_events : ℕ → List SourceTrigger → Parser (List SourceTrigger)
parse_events zero found ts = None
parse_events (suc m) found ts = parse_and_then (parse_event ts) (λ e us.
    if separates (kind us) then parse_and_then (take us) (λ u. parse_events m (found ++ e ∷ []))
    else parse_and_then (expect k.Close us) (λ u rest. Some (found ++ e ∷ [], rest)))

-- @ ( events ).
unfoldable pub parse_event_control : ℕ → Parser (List SourceTrigger)
parse_event_control budget ts = parse_and_then (take ts) (λ t us. parse_and_then (expect k.Open us) (λ u. parse_events budget []))

-- The name of a task, ( and a string.
abbrev pub parse_format : Parser PlainToken
parse_format ts = parse_and_then (take ts) (λ t us. parse_and_then (expect k.Open us) (λ u. expect k.Text))

-- $display ( string arguments ) ; or $strobe ( string arguments ) ;.
unfoldable pub parse_print : Task → ℕ → Parser SourceStatement
parse_print task budget ts = parse_and_then (take ts) (λ t us. parse_and_then (expect k.Open us) (λ u vs. parse_and_then (expect k.Text vs) (λ v ws.
    parse_and_then (parse_list (parse_expression budget) k.Close budget [] ws) (λ es xs. parse_and_then (expect k.Semicolon xs) (λ x rest. Some (tree.Print task (string_text v.text) (source_expressions es), rest))))))

-- $finish ;.
unfoldable pub parse_finish : Parser SourceStatement
parse_finish ts = parse_and_then (take ts) (λ t us. parse_and_then (expect k.Semicolon us) (λ u rest. Some (tree.Finish, rest)))

module _ (inner : Parser SourceStatement) where
  -- # decimal statement.
  unfoldable pub parse_delayed : Parser SourceStatement
  parse_delayed ts = parse_and_then (take ts) (λ t us. parse_and_then (expect k.Decimal us) (λ u vs. parse_and_then (inner vs) (λ s rest. Some (tree.Delay u.value s, rest))))

  -- @ ( events ) statement.
  unfoldable pub parse_awaited : ℕ → Parser SourceStatement
  parse_awaited budget ts = parse_and_then (parse_event_control budget ts) (λ es us. parse_and_then (inner us) (λ s rest. Some (tree.Await es s, rest)))

  -- Statements up to the end of the block, behind those found.
  unfoldable pub parse_statements : ℕ → List SourceStatement → Parser (List SourceStatement)
  parse_statements zero found ts = None
  parse_statements (suc m) found ts =
      if sees k.EndBlock ts then parse_and_then (take ts) (λ t rest. Some (found, rest))
      else parse_and_then (inner ts) (λ s. parse_statements m (found ++ s ∷ []))

  -- begin statements end.
  unfoldable pub parse_block : ℕ → Parser (List SourceStatement)
  parse_block budget ts = parse_and_then (expect k.Begin ts) (λ t. parse_statements budget [])

  -- else block, or nothing.
  unfoldable pub parse_else : ℕ → Expression Text → List SourceStatement → Parser SourceStatement
  parse_else budget test body ts =
      if sees k.Else ts then parse_and_then (take ts) (λ t us. parse_and_then (parse_block budget us) (λ other rest. Some (tree.IfElse test (source_statements body) (source_statements other), rest)))
      else Some (tree.If test (source_statements body), ts)

  -- A word, ( expression ) and a block.
  unfoldable pub parse_guarded : ℕ → Parser (Expression Text × List SourceStatement)
  parse_guarded budget ts = parse_and_then (take ts) (λ t us. parse_and_then (parse_parenthesized (parse_expression budget) us) (λ test vs. parse_and_then (parse_block budget vs) (λ body rest. Some ((test, body), rest))))

  -- if ( expression ) block, and what follows.
  unfoldable pub parse_if : ℕ → Parser SourceStatement
  parse_if budget ts = parse_and_then (parse_guarded budget ts) (λ p. parse_else budget p.0 p.1)

  -- while ( expression ) block.
  unfoldable pub parse_while : ℕ → Parser SourceStatement
  parse_while budget ts = parse_and_then (parse_guarded budget ts) (λ p rest. Some (tree.While p.0 (source_statements p.1), rest))

  -- A statement, by the kind of its first token.
  abbrev pub form_by : ℕ → Kind → Parser SourceStatement
  form_by budget k.Semicolon ts = parse_and_then (take ts) (λ t rest. Some (tree.Empty, rest))
  form_by budget k.Begin ts = parse_and_then (parse_block budget ts) (λ body rest. Some (tree.Block (source_statements body), rest))
  form_by budget k.Name ts = parse_assign budget ts
  form_by budget k.If ts = parse_if budget ts
  form_by budget k.While ts = parse_while budget ts
  form_by budget k.Hash ts = parse_delayed ts
  form_by budget k.At ts = parse_awaited budget ts
  form_by budget k.Display ts = parse_print Display budget ts
  form_by budget k.Strobe ts = parse_print Strobe budget ts
  form_by budget k.Finish ts = parse_finish ts
  form_by budget _ ts = None

  -- A statement.
  unfoldable pub parse_form : ℕ → Parser SourceStatement
  parse_form budget ts = form_by budget (kind ts) ts

-- A statement: none where the budget is 0, and each statement inside it has a smaller one.
abbrev pub parse_statement : ℕ → Parser SourceStatement
parse_statement zero ts = None
parse_statement (suc budget) ts = parse_form (parse_statement budget) budget ts

-- ---- modules

-- [ decimal : decimal ].
unfoldable pub parse_bounds : Parser (ℕ × ℕ)
parse_bounds ts = parse_and_then (take ts) (λ t us. parse_and_then (expect k.Decimal us) (λ u vs. parse_and_then (expect k.Colon vs) (λ v ws.
    parse_and_then (expect k.Decimal ws) (λ w xs. parse_and_then (expect k.CloseSquare xs) (λ x rest. Some ((u.value, w.value), rest))))))

-- A range, or nothing.
unfoldable pub parse_range : Parser (Option (ℕ × ℕ))
parse_range ts = if sees k.OpenSquare ts then parse_and_then (parse_bounds ts) (λ r rest. Some (Some r, rest)) else Some (None, ts)

-- Names up to the semicolon, behind those found.
unfoldable pub parse_names : ℕ → List Text → Parser (List Text)
parse_names zero found ts = None
parse_names (suc m) found ts = parse_and_then (expect k.Name ts) (λ t us.
    if sees k.Comma us then parse_and_then (take us) (λ u. parse_names m (found ++ t.text ∷ []))
    else parse_and_then (expect k.Semicolon us) (λ u rest. Some (found ++ t.text ∷ [], rest)))

-- A declaration.
unfoldable pub parse_declaration : ℕ → Parser Declaration
parse_declaration budget ts = parse_and_then (take ts) (λ t us. parse_and_then (parse_range us) (λ r vs. parse_and_then (parse_names budget [] vs) (λ ns rest. Some (record { range = r; names = ns }, rest))))

-- A process.
unfoldable pub parse_process : ℕ → Bool → Parser SourceProcess
parse_process budget b ts = parse_and_then (take ts) (λ t us. parse_and_then (parse_statement budget us) (λ s rest. Some (record { repeats = b; body = s }, rest)))

-- An item, by whether it is a process that repeats, one that doesn't, or none.
abbrev pub item_by : ℕ → Module → Option Bool → Parser Module
item_by budget m None ts =
    if sees k.Reg ts then parse_and_then (parse_declaration budget ts) (λ d rest. Some (record m { declarations = m.declarations ++ d ∷ [] }, rest)) else None
item_by budget m (Some b) ts = parse_and_then (parse_process budget b ts) (λ p rest. Some (record m { processes = m.processes ++ p ∷ [] }, rest))

-- An item, behind those found.
unfoldable pub parse_item : ℕ → Module → Parser Module
parse_item budget m ts = item_by budget m (repeats_of (kind ts)) ts

-- Items up to the end of the module, behind those found.
unfoldable pub parse_items : ℕ → ℕ → Module → Parser Module
parse_items budget zero m ts = None
parse_items budget (suc n) m ts =
    if sees k.EndModule ts then parse_and_then (take ts) (λ t rest. Some (m, rest)) else parse_and_then (parse_item budget m ts) (parse_items budget n)

-- A module that is all there is.
unfoldable pub parse_source : ℕ → Parser Module
parse_source budget ts = parse_and_then (expect k.Module ts) (λ t us. parse_and_then (expect k.Name us) (λ u vs. parse_and_then (expect k.Semicolon vs) (λ v ws.
    parse_and_then (parse_items budget budget (record { name = u.text; declarations = []; processes = [] }) ws) (λ m rest.
    if done rest then Some (m, rest) else None))))
