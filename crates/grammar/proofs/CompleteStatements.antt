-- Each module that is spelled is read, where the budget is the number of tokens.
use Rattle.std.proofs.Common.{◌≡◌, ℕ, zero, suc, ◌-◌, Bool, true, Option, None, ◌<◌, ◌≤◌, List, [], ◌∷◌, ◌++◌, length, false, Some, refl, ap, ◌∙◌, append_assoc, append-nil, arith}
use Rattle.tokens.specs.declared.token.Kind.{Kind}
use Rattle.tokens.specs.declared.token.Kind.TheVariants as k
use Rattle.tokens.specs.Tokens.{PlainToken, PlainTokens, same_kind}
use Rattle.tokens.specs.Lexing.{string_text}
use Rattle.model.specs.declared.tree.Task.{Task}
use Rattle.model.specs.declared.tree.Change.{Change}
use Rattle.model.specs.declared.tree.Change.TheVariants.{Any}
use Rattle.grammar.specs.Cursor.{kind, sees}
use Rattle.model.specs.Syntax.{Text, Expression, Expressions, SourceStatement, SourceStatements, Declaration, SourceProcess, Module}
use Rattle.model.specs.SourceTrees.{source_expressions, source_statements}
use Rattle.grammar.specs.Nodes.{SourceTrigger}
use Rattle.model.specs.Syntax as tree
use Rattle.grammar.specs.Grammar.{IsExpression, IsDelay, no_delay, some_delay, change_of, IsTrigger, any, edge, separates, IsTriggers, last_trigger, next_trigger, IsArguments, no_argument, one_argument, IsStatement, emptied, grouped, assigned, assigned_later, delayed, awaited, branched, branched_else, looped, printed, task_kind, finished, IsBeginEnd, begun, IsStatements, no_more, one_more, IsRange, no_range, some_range, IsNames, last_name, next_name, repeats_of, IsItems, no_items, regs, proc, IsModule, spelled, prefix}
use Rattle.grammar.specs.Grammar as gr
use Rattle.grammar.specs.Grammar.{IsBinary, IsUnary, IsPrimary}
use Rattle.grammar.specs.Reading as spec
use Rattle.grammar.specs.Reading.{Parser, parse_events, parse_list, parse_statements, parse_statement, parse_names, parse_items, parse_source}
use Rattle.grammar.proofs.Steps.{same_kind-is, same_kind-true, expect-is}
use Rattle.grammar.proofs.Turns.{deeper}
use Rattle.grammar.proofs.Complete.{Ends, ends-Close, ends-Comma, ends-Semicolon, list_of as expression_list, expressions_list, short-expression, parenthesized-is, complete-expression}

short-delay : {d : Option ℕ} {ts rest : PlainTokens} → IsDelay d ts rest → length rest ≤ length ts
short-delay no_delay = omega arith
short-delay (some_delay q n) = omega arith

short-trigger : {e : SourceTrigger} {ts rest : PlainTokens} → IsTrigger e ts rest → length rest < length ts
short-trigger (any q) = omega arith
short-trigger (edge q n) = omega arith

short-triggers : {es : List SourceTrigger} {ts rest : PlainTokens} → IsTriggers es ts rest → length rest < length ts
short-triggers (last_trigger d end) = let x = short-trigger d in omega arith
short-triggers (next_trigger d c ds) = let x = short-trigger d in let y = short-triggers ds in omega arith

short-arguments : {es : Expressions Text} {ts rest : PlainTokens} → IsArguments es ts rest → length rest < length ts
short-arguments (no_argument q) = omega arith
short-arguments (one_argument q d ds) = let x = short-expression d in let y = short-arguments ds in omega arith

mutual
  short-statement : {s : SourceStatement} {ts rest : PlainTokens} → IsStatement s ts rest → length rest < length ts
  short-statement (emptied q) = omega arith
  short-statement (grouped d) = short-block d
  short-statement (assigned q sign d e end) = let x = short-delay d in let y = short-expression e in omega arith
  short-statement (assigned_later q sign d e end) = let x = short-delay d in let y = short-expression e in omega arith
  short-statement (delayed q n d) = let x = short-statement d in omega arith
  short-statement (awaited q start es d) = let x = short-triggers es in let y = short-statement d in omega arith
  short-statement (looped q start d end b) = let x = short-expression d in let y = short-block b in omega arith
  short-statement (printed q start f d end) = let x = short-arguments d in omega arith
  short-statement (finished q end) = omega arith
  short-statement (branched q start d end b) = let x = short-expression d in let y = short-block b in omega arith
  short-statement (branched_else q start d end b other o) = let x = short-expression d in let y = short-block b in let z = short-block o in omega arith

  short-block : {ss : SourceStatements} {ts rest : PlainTokens} → IsBeginEnd ss ts rest → length rest < length ts
  short-block (begun q d end) = let x = short-statements d in omega arith

  short-statements : {ss : SourceStatements} {ts rest : PlainTokens} → IsStatements ss ts rest → length rest ≤ length ts
  short-statements no_more = omega arith
  short-statements (one_more d ds) = let x = short-statement d in let y = short-statements ds in omega arith

-- ---- what a statement begins with, and what may follow one

first-block : {ss : SourceStatements} {ts rest : PlainTokens} → IsBeginEnd ss ts rest → kind ts ≡ k.Begin
first-block (begun q d end) = q

begins : (ts : PlainTokens) → kind ts ≡ k.Begin → (sees k.EndBlock ts ≡ false) × (sees k.Else ts ≡ false)
unfolding same_kind
begins ts q = (rw q, rw q)

first-statement : {s : SourceStatement} {ts rest : PlainTokens} → IsStatement s ts rest → (sees k.EndBlock ts ≡ false) × (sees k.Else ts ≡ false)
unfolding same_kind
first-statement (emptied q) = (rw q, rw q)
first-statement {ts = ts} (grouped d) = begins ts (first-block d)
first-statement (assigned q sign d e end) = (rw q, rw q)
first-statement (assigned_later q sign d e end) = (rw q, rw q)
first-statement (delayed q n d) = (rw q, rw q)
first-statement (awaited q start es d) = (rw q, rw q)
first-statement (looped q start d end b) = (rw q, rw q)
first-statement (printed {task = Task.Display} {t = t} q start f d end) = let p : t.kind ≡ k.Display = cc in (rw p, rw p)
first-statement (printed {task = Task.Strobe} {t = t} q start f d end) = let p : t.kind ≡ k.Strobe = cc in (rw p, rw p)
first-statement (printed {task = Task.Write} q start f d end) = absurd (cc)
first-statement (finished q end) = (rw q, rw q)
first-statement (branched q start d end b) = (rw q, rw q)
first-statement (branched_else q start d end b other o) = (rw q, rw q)

no_else : (t : PlainToken) (ts : PlainTokens) → t.kind ≡ k.EndBlock → sees k.Else (t ∷ ts) ≡ false
unfolding same_kind
no_else t ts q = rw q

after_statements : {ss : SourceStatements} {ts rest : PlainTokens} → IsStatements ss ts rest → sees k.Else rest ≡ false → sees k.Else ts ≡ false
after_statements no_more h = h
after_statements (one_more d ds) h = (first-statement d).1

-- a kind of which a table says something is no kind of which it says nothing
apart : {A : Type 0} (f : Kind → Option A) (x : A) (at other : Kind) → f at ≡ Some x → f other ≡ None → same_kind at other ≡ false
apart f x at other some none = by (same_kind at other) refl where
  by : (b : Bool) → same_kind at other ≡ b → b ≡ false
  by true e = absurd (let q = ap f (same_kind-true at other e) in cc)
  by false e = refl

hash-Name : (t : PlainToken) (ts : PlainTokens) → t.kind ≡ k.Name → sees k.Hash (t ∷ ts) ≡ false
unfolding same_kind
hash-Name t ts q = rw q

hash-Sized : (t : PlainToken) (ts : PlainTokens) → t.kind ≡ k.Sized → sees k.Hash (t ∷ ts) ≡ false
unfolding same_kind
hash-Sized t ts q = rw q

hash-Curly : (t : PlainToken) (ts : PlainTokens) → t.kind ≡ k.OpenCurly → sees k.Hash (t ∷ ts) ≡ false
unfolding same_kind
hash-Curly t ts q = rw q

hash-Open : (t : PlainToken) (ts : PlainTokens) → t.kind ≡ k.Open → sees k.Hash (t ∷ ts) ≡ false
unfolding same_kind
hash-Open t ts q = rw q

-- no expression begins with #
hash-primary : {e : Expression Text} {ts rest : PlainTokens} → IsPrimary e ts rest → sees k.Hash ts ≡ false
hash-primary (gr.named {t = t} {rest = rest} q) = hash-Name t rest q
hash-primary (gr.selected {t = t} {u = u} {v = v} {w = w} {rest = rest} q start i end) = hash-Name t (u ∷ v ∷ w ∷ rest) q
hash-primary (gr.sized {t = t} {rest = rest} q is) = hash-Sized t rest q
hash-primary (gr.concatenated {t = t} {ts = ts} q d) = hash-Curly t ts q
hash-primary (gr.nested {t = t} {ts = ts} q d end) = hash-Open t ts q

hash-unary : {e : Expression Text} {ts rest : PlainTokens} → IsUnary e ts rest → sees k.Hash ts ≡ false
hash-unary (gr.bare d) = hash-primary d
hash-unary (gr.prefixed {op = op} {t = t} o d) = apart prefix op t.kind k.Hash o refl

hash-binary : {level : ℕ} {e : Expression Text} {ts rest : PlainTokens} → IsBinary level e ts rest → sees k.Hash ts ≡ false
hash-binary (gr.operand d) = hash-unary d
hash-binary (gr.tighter d) = hash-binary d
hash-binary (gr.joined d o dr) = hash-binary d

hash-expression : {e : Expression Text} {ts rest : PlainTokens} → IsExpression e ts rest → sees k.Hash ts ≡ false
hash-expression (gr.plain d) = hash-binary d
hash-expression (gr.chosen d q da col db) = hash-binary d

ends-arguments : {es : Expressions Text} {ts rest : PlainTokens} → IsArguments es ts rest → Ends ts
ends-arguments (no_argument {t = t} {rest = rest} q) = ends-Close t rest q
ends-arguments (one_argument {t = t} {ts = ts} q d ds) = ends-Comma t ts q

-- ---- steps

abbrev list_of : SourceStatements → List SourceStatement
list_of tree.End = []
list_of (tree.Then s ss) = s ∷ list_of ss

statements_list : (ss : SourceStatements) → source_statements (list_of ss) ≡ ss
statements_list tree.End = refl
statements_list (tree.Then s ss) = ap (tree.Then s) (statements_list ss)

statements-end : (inner : Parser SourceStatement) (m : ℕ) (found : List SourceStatement) (t : PlainToken) (rest : PlainTokens) → 0 < m → t.kind ≡ k.EndBlock
    → parse_statements inner m found (t ∷ rest) ≡ Some (found, rest)
unfolding parse_statements
statements-end inner zero found t rest w q = absurd (omega arith)
statements-end inner (suc m) found t rest w q = let x = same_kind-is t.kind k.EndBlock q in rw x

statements-turn : (inner : Parser SourceStatement) (m n : ℕ) (found : List SourceStatement) (s : SourceStatement) (ts us : PlainTokens) → m ≡ suc n → sees k.EndBlock ts ≡ false → inner ts ≡ Some (s, us)
    → parse_statements inner m found ts ≡ parse_statements inner n (found ++ s ∷ []) us
unfolding parse_statements
statements-turn inner m n found s ts us e q read = rw (e, q, read)

block-is : (inner : Parser SourceStatement) (budget : ℕ) (body : List SourceStatement) (t : PlainToken) (ts rest : PlainTokens) → t.kind ≡ k.Begin → parse_statements inner budget [] ts ≡ Some (body, rest)
    → spec.parse_block inner budget (t ∷ ts) ≡ Some (body, rest)
unfolding spec.parse_block
block-is inner budget body t ts rest q read = let x = expect-is k.Begin t ts q in rw (x, read)

statement-empty : (inner : Parser SourceStatement) (budget : ℕ) (t : PlainToken) (rest : PlainTokens) → t.kind ≡ k.Semicolon → spec.parse_form inner budget (t ∷ rest) ≡ Some (tree.Empty, rest)
unfolding spec.parse_form
statement-empty inner budget t rest q = rw q

statement-block : (inner : Parser SourceStatement) (budget : ℕ) (body : List SourceStatement) (ts rest : PlainTokens) → kind ts ≡ k.Begin → spec.parse_block inner budget ts ≡ Some (body, rest)
    → spec.parse_form inner budget ts ≡ Some (tree.Block (source_statements body), rest)
unfolding spec.parse_form
statement-block inner budget body ts rest q read = rw (q, read)

delay-none : (ts : PlainTokens) → sees k.Hash ts ≡ false → spec.parse_delay ts ≡ Some (None, ts)
unfolding spec.parse_delay
delay-none ts q = rw q

delay-some : (t u : PlainToken) (rest : PlainTokens) → t.kind ≡ k.Hash → u.kind ≡ k.Decimal → spec.parse_delay (t ∷ u ∷ rest) ≡ Some (Some u.value, rest)
unfolding spec.parse_delay
delay-some t u rest q n = let x = same_kind-is t.kind k.Hash q in let y = expect-is k.Decimal u rest n in rw (x, y)

complete-delay : {d : Option ℕ} {ts rest : PlainTokens} → IsDelay d ts rest → sees k.Hash rest ≡ false → spec.parse_delay ts ≡ Some (d, rest)
complete-delay (no_delay {ts = ts}) none = delay-none ts none
complete-delay (some_delay {t = t} {u = u} {rest = rest} q n) none = delay-some t u rest q n

value-is : (budget : ℕ) (d : Option ℕ) (e : Expression Text) (v : PlainToken) (ts us rest : PlainTokens) → spec.parse_delay ts ≡ Some (d, us) → spec.parse_expression budget 0 us ≡ Some (e, v ∷ rest) → v.kind ≡ k.Semicolon
    → spec.parse_value budget ts ≡ Some ((d, e), rest)
unfolding spec.parse_value
value-is budget d e v ts us rest waits read end = let y = expect-is k.Semicolon v rest end in rw (waits, read, y)

complete-value : {d : Option ℕ} {e : Expression Text} {v : PlainToken} {ts us rest : PlainTokens} → IsDelay d ts us → IsExpression e us (v ∷ rest) → v.kind ≡ k.Semicolon → (n : ℕ) → length ts < n
    → spec.parse_value n ts ≡ Some ((d, e), rest)
complete-value {d} {e} {v} {ts} {us} {rest} waits x end n w =
    let s = short-delay waits in
    value-is n d e v ts us rest (complete-delay waits (hash-expression x)) (complete-expression x n (omega arith) (ends-Semicolon v rest end)) end

not_at_most : (u : PlainToken) (ts : PlainTokens) → u.kind ≡ k.Assign → sees k.AtMost (u ∷ ts) ≡ false
unfolding same_kind
not_at_most u ts q = rw q

statement-assign : (inner : Parser SourceStatement) (budget : ℕ) (d : Option ℕ) (e : Expression Text) (t u : PlainToken) (ts rest : PlainTokens) → t.kind ≡ k.Name → u.kind ≡ k.Assign
    → spec.parse_value budget ts ≡ Some ((d, e), rest) → spec.parse_form inner budget (t ∷ u ∷ ts) ≡ Some (tree.Assign t.text d e, rest)
unfolding spec.parse_form spec.parse_assign
statement-assign inner budget d e t u ts rest q sign read =
    let x = expect-is k.Assign u ts sign in let y = not_at_most u ts sign in rw (q, y, x, read)

statement-assign_later : (inner : Parser SourceStatement) (budget : ℕ) (d : Option ℕ) (e : Expression Text) (t u : PlainToken) (ts rest : PlainTokens) → t.kind ≡ k.Name → u.kind ≡ k.AtMost
    → spec.parse_value budget ts ≡ Some ((d, e), rest) → spec.parse_form inner budget (t ∷ u ∷ ts) ≡ Some (tree.AssignLater t.text d e, rest)
unfolding spec.parse_form spec.parse_assign
statement-assign_later inner budget d e t u ts rest q sign read = let y = same_kind-is u.kind k.AtMost sign in rw (q, y, read)

statement-delayed : (inner : Parser SourceStatement) (budget : ℕ) (s : SourceStatement) (t u : PlainToken) (ts rest : PlainTokens) → t.kind ≡ k.Hash → u.kind ≡ k.Decimal
    → inner ts ≡ Some (s, rest) → spec.parse_form inner budget (t ∷ u ∷ ts) ≡ Some (tree.Delay u.value s, rest)
unfolding spec.parse_form spec.parse_delayed
statement-delayed inner budget s t u ts rest q n read = let x = expect-is k.Decimal u ts n in rw (q, x, read)

statement-awaited : (inner : Parser SourceStatement) (budget : ℕ) (es : List SourceTrigger) (s : SourceStatement) (t u : PlainToken) (ts us rest : PlainTokens) → t.kind ≡ k.At → u.kind ≡ k.Open
    → parse_events budget [] ts ≡ Some (es, us) → inner us ≡ Some (s, rest) → spec.parse_form inner budget (t ∷ u ∷ ts) ≡ Some (tree.Await es s, rest)
unfolding spec.parse_form spec.parse_awaited spec.parse_event_control
statement-awaited inner budget es s t u ts us rest q start read body = let x = expect-is k.Open u ts start in rw (q, x, read, body)

trigger-any : (t : PlainToken) (rest : PlainTokens) → t.kind ≡ k.Name → spec.parse_event (t ∷ rest) ≡ Some ((Any, t.text), rest)
unfolding spec.parse_event
trigger-any t rest q = let c : change_of t.kind ≡ None = rw q in let x = expect-is k.Name t rest q in rw (c, x)

trigger-edge : (c : Change) (t u : PlainToken) (rest : PlainTokens) → change_of t.kind ≡ Some c → u.kind ≡ k.Name → spec.parse_event (t ∷ u ∷ rest) ≡ Some ((c, u.text), rest)
unfolding spec.parse_event
trigger-edge c t u rest q n = let x = expect-is k.Name u rest n in rw (q, x)

complete-trigger : {e : SourceTrigger} {ts rest : PlainTokens} → IsTrigger e ts rest → spec.parse_event ts ≡ Some (e, rest)
complete-trigger (any {t = t} {rest = rest} q) = trigger-any t rest q
complete-trigger (edge {c = c} {t = t} {u = u} {rest = rest} q n) = trigger-edge c t u rest q n

triggers-last : (m : ℕ) (found : List SourceTrigger) (e : SourceTrigger) (ts : PlainTokens) (u : PlainToken) (rest : PlainTokens) → 0 < m → spec.parse_event ts ≡ Some (e, u ∷ rest) → u.kind ≡ k.Close
    → parse_events m found ts ≡ Some (found ++ e ∷ [], rest)
unfolding parse_events
triggers-last zero found e ts u rest w read end = absurd (omega arith)
triggers-last (suc m) found e ts u rest w read end = let y : separates u.kind ≡ false = rw end in let z = expect-is k.Close u rest end in rw (read, y, z)

triggers-next : (m n : ℕ) (found : List SourceTrigger) (e : SourceTrigger) (ts : PlainTokens) (u : PlainToken) (us : PlainTokens) → m ≡ suc n → spec.parse_event ts ≡ Some (e, u ∷ us) → separates u.kind ≡ true
    → parse_events m found ts ≡ parse_events n (found ++ e ∷ []) us
unfolding parse_events
triggers-next m n found e ts u us is read c = rw (is, read, c)

complete-triggers : {es : List SourceTrigger} {ts rest : PlainTokens} → IsTriggers es ts rest → (m : ℕ) (found : List SourceTrigger) → length ts ≤ m → parse_events m found ts ≡ Some (found ++ es, rest)
complete-triggers {ts = ts} {rest = rest} (last_trigger {e = e} {u = u} d end) m found w =
    let x = short-trigger d in triggers-last m found e ts u rest (omega arith) (complete-trigger d) end
complete-triggers {ts = ts} {rest = rest} (next_trigger {e = e} {es = es} {u = u} {us = us} d c ds) m found w =
    let x = short-trigger d in
    triggers-next m (m - 1) found e ts u us (omega arith) (complete-trigger d) c ∙ complete-triggers ds (m - 1) (found ++ e ∷ []) (omega arith)
    ∙ ap (λ x. Some (x, rest)) (append_assoc found (e ∷ []) es)

comma-Close : (t : PlainToken) (ts : PlainTokens) → t.kind ≡ k.Close → sees k.Comma (t ∷ ts) ≡ false
unfolding same_kind
comma-Close t ts q = rw q

arguments-end : (budget m : ℕ) (found : List (Expression Text)) (t : PlainToken) (rest : PlainTokens) → 0 < m → t.kind ≡ k.Close → parse_list (spec.parse_expression budget) k.Close m found (t ∷ rest) ≡ Some (found, rest)
unfolding parse_list
arguments-end budget zero found t rest w q = absurd (omega arith)
arguments-end budget (suc m) found t rest w q = let x = comma-Close t rest q in let y = expect-is k.Close t rest q in rw (x, y)

arguments-next : (budget m n : ℕ) (found : List (Expression Text)) (e : Expression Text) (t : PlainToken) (ts us : PlainTokens) → m ≡ suc n → t.kind ≡ k.Comma → spec.parse_expression budget 0 ts ≡ Some (e, us)
    → parse_list (spec.parse_expression budget) k.Close m found (t ∷ ts) ≡ parse_list (spec.parse_expression budget) k.Close n (found ++ e ∷ []) us
unfolding parse_list
arguments-next budget m n found e t ts us is q read = let x = same_kind-is t.kind k.Comma q in rw (is, x, read)

complete-arguments : {es : Expressions Text} {ts rest : PlainTokens} → IsArguments es ts rest → (budget m : ℕ) (found : List (Expression Text)) → length ts ≤ budget → length ts ≤ m
    → parse_list (spec.parse_expression budget) k.Close m found ts ≡ Some (found ++ expression_list es, rest)
complete-arguments {rest = rest} (no_argument {t = t} q) budget m found w turns = rw (append-nil found) (arguments-end budget m found t rest (omega arith) q)
complete-arguments {rest = rest} (one_argument {e = e} {es = es} {t = t} {ts = ts} {us = us} q d ds) budget m found w turns =
    let x = short-expression d in
    arguments-next budget m (m - 1) found e t ts us (omega arith) q (complete-expression d budget (omega arith) (ends-arguments ds))
    ∙ complete-arguments ds budget (m - 1) (found ++ e ∷ []) (omega arith) (omega arith)
    ∙ ap (λ x. Some (x, rest)) (append_assoc found (e ∷ []) (expression_list es))

statement-print : (task : Task) (inner : Parser SourceStatement) (budget : ℕ) (es : List (Expression Text)) (t u v w : PlainToken) (ts rest : PlainTokens) → task_kind task ≡ Some t.kind → u.kind ≡ k.Open → v.kind ≡ k.Text
    → parse_list (spec.parse_expression budget) k.Close budget [] ts ≡ Some (es, w ∷ rest) → w.kind ≡ k.Semicolon
    → spec.parse_form inner budget (t ∷ u ∷ v ∷ ts) ≡ Some (tree.Print task (string_text v.text) (source_expressions es), rest)
unfolding spec.parse_form spec.parse_print
statement-print Task.Display inner budget es t u v w ts rest q start f read end =
    let p : t.kind ≡ k.Display = cc in
    let x = expect-is k.Open u (v ∷ ts) start in let y = expect-is k.Text v ts f in let z = expect-is k.Semicolon w rest end in rw (p, x, y, read, z)
statement-print Task.Strobe inner budget es t u v w ts rest q start f read end =
    let p : t.kind ≡ k.Strobe = cc in
    let x = expect-is k.Open u (v ∷ ts) start in let y = expect-is k.Text v ts f in let z = expect-is k.Semicolon w rest end in rw (p, x, y, read, z)
statement-print Task.Write inner budget es t u v w ts rest q start f read end = absurd (cc)

statement-finish : (inner : Parser SourceStatement) (budget : ℕ) (t u : PlainToken) (rest : PlainTokens) → t.kind ≡ k.Finish → u.kind ≡ k.Semicolon → spec.parse_form inner budget (t ∷ u ∷ rest) ≡ Some (tree.Finish, rest)
unfolding spec.parse_form spec.parse_finish
statement-finish inner budget t u rest q end = let z = expect-is k.Semicolon u rest end in rw (q, z)

statement-loop : (inner : Parser SourceStatement) (budget : ℕ) (e : Expression Text) (body : List SourceStatement) (t : PlainToken) (ts us rest : PlainTokens) → t.kind ≡ k.While
    → spec.parse_parenthesized (spec.parse_expression budget) ts ≡ Some (e, us) → spec.parse_block inner budget us ≡ Some (body, rest)
    → spec.parse_form inner budget (t ∷ ts) ≡ Some (tree.While e (source_statements body), rest)
unfolding spec.parse_form spec.parse_while spec.parse_guarded
statement-loop inner budget e body t ts us rest q test read = rw (q, test, read)

statement-branch : (inner : Parser SourceStatement) (budget : ℕ) (e : Expression Text) (body : List SourceStatement) (t : PlainToken) (ts us rest : PlainTokens) → t.kind ≡ k.If
    → spec.parse_parenthesized (spec.parse_expression budget) ts ≡ Some (e, us) → spec.parse_block inner budget us ≡ Some (body, rest)
    → spec.parse_form inner budget (t ∷ ts) ≡ spec.parse_else inner budget e body rest
unfolding spec.parse_form spec.parse_if spec.parse_guarded
statement-branch inner budget e body t ts us rest q test read = rw (q, test, read)

otherwise-none : (inner : Parser SourceStatement) (budget : ℕ) (e : Expression Text) (body : List SourceStatement) (rest : PlainTokens) → sees k.Else rest ≡ false
    → spec.parse_else inner budget e body rest ≡ Some (tree.If e (source_statements body), rest)
unfolding spec.parse_else
otherwise-none inner budget e body rest q = rw q

otherwise-some : (inner : Parser SourceStatement) (budget : ℕ) (e : Expression Text) (body other : List SourceStatement) (t : PlainToken) (ts rest : PlainTokens) → t.kind ≡ k.Else
    → spec.parse_block inner budget ts ≡ Some (other, rest)
    → spec.parse_else inner budget e body (t ∷ ts) ≡ Some (tree.IfElse e (source_statements body) (source_statements other), rest)
unfolding spec.parse_else
otherwise-some inner budget e body other t ts rest q read = let x = same_kind-is t.kind k.Else q in rw (x, read)

-- ---- statements

mutual
  complete-statement : {s : SourceStatement} {ts rest : PlainTokens} → IsStatement s ts rest → (n : ℕ) → length ts ≤ n → sees k.Else rest ≡ false
      → spec.parse_form (parse_statement n) n ts ≡ Some (s, rest)
  complete-statement (emptied {t = t} {rest = rest} q) n w follow = statement-empty (parse_statement n) n t rest q
  complete-statement {ts = ts} {rest = rest} (grouped {ss = ss} d) n w follow =
      statement-block (parse_statement n) n (list_of ss) ts rest (first-block d) (complete-block d n w) ∙ ap (λ x. Some (tree.Block x, rest)) (statements_list ss)
  complete-statement (assigned {d = d} {e = e} {t = t} {u = u} {ts = ts} {rest = rest} q sign waits x end) n w follow =
      statement-assign (parse_statement n) n d e t u ts rest q sign (complete-value waits x end n (omega arith))
  complete-statement (assigned_later {d = d} {e = e} {t = t} {u = u} {ts = ts} {rest = rest} q sign waits x end) n w follow =
      statement-assign_later (parse_statement n) n d e t u ts rest q sign (complete-value waits x end n (omega arith))
  complete-statement {rest = rest} (delayed {s = s} {t = t} {u = u} {ts = ts} q num d) n w follow =
      let read : parse_statement n ts ≡ Some (s, rest) = deeper (λ x. parse_statement x ts) n (omega arith) ∙ complete-statement d (n - 1) (omega arith) follow in
      statement-delayed (parse_statement n) n s t u ts rest q num read
  complete-statement {rest = rest} (awaited {es = es} {s = s} {t = t} {u = u} {ts = ts} {us = us} q start ds d) n w follow =
      let x = short-triggers ds in
      let read : parse_statement n us ≡ Some (s, rest) = deeper (λ x. parse_statement x us) n (omega arith) ∙ complete-statement d (n - 1) (omega arith) follow in
      statement-awaited (parse_statement n) n es s t u ts us rest q start (complete-triggers ds n [] (omega arith)) read
  complete-statement {rest = rest} (looped {e = e} {ss = ss} {t = t} {u = u} {v = v} {ts = ts} {us = us} q start d end b) n w follow =
      let x = short-expression d in
      let test = parenthesized-is (spec.parse_expression n) e u v ts us start (complete-expression d n (omega arith) (ends-Close v us end)) end in
      statement-loop (parse_statement n) n e (list_of ss) t (u ∷ ts) us rest q test (complete-block b n (omega arith)) ∙ ap (λ x. Some (tree.While e x, rest)) (statements_list ss)
  complete-statement {rest = rest} (printed {task = task} {es = es} {t = t} {u = u} {v = v} {w = end_token} {ts = ts} q start f d end) n w follow =
      statement-print task (parse_statement n) n (expression_list es) t u v end_token ts rest q start f (complete-arguments d n n [] (omega arith) (omega arith)) end
      ∙ ap (λ x. Some (tree.Print task (string_text v.text) x, rest)) (expressions_list es)
  complete-statement (finished {t = t} {u = u} {rest = rest} q end) n w follow = statement-finish (parse_statement n) n t u rest q end
  complete-statement {rest = rest} (branched {e = e} {ss = ss} {t = t} {u = u} {v = v} {ts = ts} {us = us} q start d end b) n w follow =
      let x = short-expression d in
      let test = parenthesized-is (spec.parse_expression n) e u v ts us start (complete-expression d n (omega arith) (ends-Close v us end)) end in
      let body = complete-block b n (omega arith) in
      statement-branch (parse_statement n) n e (list_of ss) t (u ∷ ts) us rest q test body
      ∙ otherwise-none (parse_statement n) n e (list_of ss) rest follow ∙ ap (λ x. Some (tree.If e x, rest)) (statements_list ss)
  complete-statement {rest = rest} (branched_else {e = e} {ss = ss} {rs = rs} {t = t} {u = u} {v = v} {w = w} {ts = ts} {us = us} {vs = vs} q start d end b other o) n within follow =
      let x = short-expression d in
      let y = short-block b in
      let test = parenthesized-is (spec.parse_expression n) e u v ts us start (complete-expression d n (omega arith) (ends-Close v us end)) end in
      let body = complete-block b n (omega arith) in
      let rest_body = complete-block o n (omega arith) in
      statement-branch (parse_statement n) n e (list_of ss) t (u ∷ ts) us (w ∷ vs) q test body
      ∙ otherwise-some (parse_statement n) n e (list_of ss) (list_of rs) w vs rest other rest_body
      ∙ ap (λ x. Some (tree.IfElse e x (source_statements (list_of rs)), rest)) (statements_list ss) ∙ ap (λ x. Some (tree.IfElse e ss x, rest)) (statements_list rs)

  complete-block : {ss : SourceStatements} {ts rest : PlainTokens} → IsBeginEnd ss ts rest → (n : ℕ) → length ts ≤ n → spec.parse_block (parse_statement n) n ts ≡ Some (list_of ss, rest)
  complete-block (begun {ss = ss} {t = t} {u = u} {ts = ts} {rest = rest} q d end) n w =
      block-is (parse_statement n) n (list_of ss) t ts rest q (complete-statements d n n [] u rest refl (omega arith) (omega arith) end)

  complete-statements : {ss : SourceStatements} {ts all : PlainTokens} → IsStatements ss ts all → (n m : ℕ) (found : List SourceStatement) (u : PlainToken) (rest : PlainTokens) → all ≡ u ∷ rest → length ts < n → length ts ≤ m
      → u.kind ≡ k.EndBlock → parse_statements (parse_statement n) m found ts ≡ Some (found ++ list_of ss, rest)
  complete-statements {ts = ts} no_more n m found u rest is w turns end =
      let long : 0 < m = omega (arith, ap length is) in
      rw (is, append-nil found) (statements-end (parse_statement n) m found u rest long end)
  complete-statements {ts = ts} (one_more {s = s} {ss = ss} {us = us} d ds) n m found u rest is w turns end =
      let x = short-statement d in
      let follow = after_statements ds (rw is (no_else u rest end)) in
      let read : parse_statement n ts ≡ Some (s, us) = deeper (λ x. parse_statement x ts) n (omega arith) ∙ complete-statement d (n - 1) (omega arith) follow in
      statements-turn (parse_statement n) m (m - 1) found s ts us (omega arith) (first-statement d).0 read
      ∙ complete-statements ds n (m - 1) (found ++ s ∷ []) u rest is (omega arith) (omega arith) end
      ∙ ap (λ x. Some (x, rest)) (append_assoc found (s ∷ []) (list_of ss))

-- ---- modules

no_comma : (t : PlainToken) (ts : PlainTokens) → t.kind ≡ k.Semicolon → sees k.Comma (t ∷ ts) ≡ false
unfolding same_kind
no_comma t ts q = rw q

names-last : (m : ℕ) (found : List Text) (t u : PlainToken) (rest : PlainTokens) → 0 < m → t.kind ≡ k.Name → u.kind ≡ k.Semicolon
    → parse_names m found (t ∷ u ∷ rest) ≡ Some (found ++ t.text ∷ [], rest)
unfolding parse_names
names-last zero found t u rest w q end = absurd (omega arith)
names-last (suc m) found t u rest w q end =
    let x = expect-is k.Name t (u ∷ rest) q in let y = no_comma u rest end in let z = expect-is k.Semicolon u rest end in rw (x, y, z)

names-next : (m n : ℕ) (found : List Text) (t u : PlainToken) (rest : PlainTokens) → m ≡ suc n → t.kind ≡ k.Name → u.kind ≡ k.Comma
    → parse_names m found (t ∷ u ∷ rest) ≡ parse_names n (found ++ t.text ∷ []) rest
unfolding parse_names
names-next m n found t u rest e q c =
    let x = expect-is k.Name t (u ∷ rest) q in let y = same_kind-is u.kind k.Comma c in rw (e, x, y)

complete-names : {ns : List Text} {ts rest : PlainTokens} → IsNames ns ts rest → (m : ℕ) (found : List Text) → length ts ≤ m
    → parse_names m found ts ≡ Some (found ++ ns, rest)
complete-names (last_name {t = t} {u = u} {rest = rest} q end) m found w = names-last m found t u rest (omega arith) q end
complete-names {rest = rest} (next_name {ns = ns} {t = t} {u = u} {ts = ts} q c d) m found w =
    names-next m (m - 1) found t u ts (omega arith) q c ∙ complete-names d (m - 1) (found ++ t.text ∷ []) (omega arith)
    ∙ ap (λ x. Some (x, rest)) (append_assoc found (t.text ∷ []) ns)

short-names : {ns : List Text} {ts rest : PlainTokens} → IsNames ns ts rest → length rest < length ts
short-names (last_name q end) = omega arith
short-names (next_name q c d) = let x = short-names d in omega arith

no_else_after : (t : PlainToken) (ts : PlainTokens) → t.kind ≡ k.EndModule → sees k.Else (t ∷ ts) ≡ false
unfolding same_kind
no_else_after t ts q = rw q

range-none : (ts : PlainTokens) → sees k.OpenSquare ts ≡ false → spec.parse_range ts ≡ Some (None, ts)
unfolding spec.parse_range
range-none ts q = rw q

range-some : (t u v w x : PlainToken) (rest : PlainTokens) → t.kind ≡ k.OpenSquare → u.kind ≡ k.Decimal → v.kind ≡ k.Colon → w.kind ≡ k.Decimal → x.kind ≡ k.CloseSquare
    → spec.parse_range (t ∷ u ∷ v ∷ w ∷ x ∷ rest) ≡ Some (Some (u.value, w.value), rest)
unfolding spec.parse_range spec.parse_bounds
range-some t u v w x rest a b c d e =
    let p = same_kind-is t.kind k.OpenSquare a in
    let q = expect-is k.Decimal u (v ∷ w ∷ x ∷ rest) b in
    let r = expect-is k.Colon v (w ∷ x ∷ rest) c in
    let s = expect-is k.Decimal w (x ∷ rest) d in
    let z = expect-is k.CloseSquare x rest e in
    rw (p, q, r, s, z)

short-range : {r : Option (ℕ × ℕ)} {ts rest : PlainTokens} → IsRange r ts rest → length rest ≤ length ts
short-range no_range = omega arith
short-range (some_range a b c d e) = omega arith

square-names : {ns : List Text} {ts rest : PlainTokens} → IsNames ns ts rest → sees k.OpenSquare ts ≡ false
unfolding same_kind
square-names (last_name q end) = rw q
square-names (next_name q c d) = rw q

complete-range : {r : Option (ℕ × ℕ)} {ts rest : PlainTokens} → IsRange r ts rest → sees k.OpenSquare rest ≡ false → spec.parse_range ts ≡ Some (r, rest)
complete-range (no_range {ts = ts}) none = range-none ts none
complete-range (some_range {t = t} {u = u} {v = v} {w = w} {x = x} {rest = rest} a b c d e) none = range-some t u v w x rest a b c d e

first-items : {ds : List Declaration} {ps : List SourceProcess} {ts rest : PlainTokens} → IsItems ds ps ts rest → sees k.Else rest ≡ false → sees k.Else ts ≡ false
unfolding same_kind
first-items no_items h = h
first-items (regs q r d ds) h = rw q
first-items (proc {b = b} {t = t} q d ds) h = apart repeats_of b t.kind k.Else q refl

item-regs : (budget : ℕ) (m : Module) (r : Option (ℕ × ℕ)) (ns : List Text) (t : PlainToken) (ts us rest : PlainTokens) → t.kind ≡ k.Reg → spec.parse_range ts ≡ Some (r, us)
    → parse_names budget [] us ≡ Some (ns, rest) → spec.parse_item budget m (t ∷ ts) ≡ Some (record m { declarations = m.declarations ++ record { range = r; names = ns } ∷ [] }, rest)
unfolding spec.parse_item spec.parse_declaration
item-regs budget m r ns t ts us rest q range read =
    let none : repeats_of t.kind ≡ None = rw q in let x = same_kind-is t.kind k.Reg q in rw (none, x, range, read)

item-proc : (budget : ℕ) (m : Module) (b : Bool) (s : SourceStatement) (t : PlainToken) (ts rest : PlainTokens) → repeats_of t.kind ≡ Some b → parse_statement budget ts ≡ Some (s, rest)
    → spec.parse_item budget m (t ∷ ts) ≡ Some (record m { processes = m.processes ++ record { repeats = b; body = s } ∷ [] }, rest)
unfolding spec.parse_item spec.parse_process
item-proc budget m b s t ts rest q read = rw (q, read)

items-end : (budget n : ℕ) (m : Module) (t : PlainToken) (rest : PlainTokens) → 0 < n → t.kind ≡ k.EndModule → parse_items budget n m (t ∷ rest) ≡ Some (m, rest)
unfolding parse_items
items-end budget zero m t rest w q = absurd (omega arith)
items-end budget (suc n) m t rest w q = let x = same_kind-is t.kind k.EndModule q in rw x

items-turn : (budget n less : ℕ) (m found : Module) (ts us : PlainTokens) → n ≡ suc less → sees k.EndModule ts ≡ false → spec.parse_item budget m ts ≡ Some (found, us)
    → parse_items budget n m ts ≡ parse_items budget less found us
unfolding parse_items
items-turn budget n less m found ts us e q read = rw (e, q, read)

not_end-Reg : (t : PlainToken) (ts : PlainTokens) → t.kind ≡ k.Reg → sees k.EndModule (t ∷ ts) ≡ false
unfolding same_kind
not_end-Reg t ts q = rw q

abbrev with_items : Module → List Declaration → List SourceProcess → Module
with_items m ds ps = record { name = m.name; declarations = m.declarations ++ ds; processes = m.processes ++ ps }

with_none : (m : Module) → with_items m [] [] ≡ m
with_none m = rw (append-nil m.declarations, append-nil m.processes)

with_reg : (m : Module) (d : Declaration) (ds : List Declaration) (ps : List SourceProcess) → with_items (record m { declarations = m.declarations ++ d ∷ [] }) ds ps ≡ with_items m (d ∷ ds) ps
with_reg m d ds ps = rw (append_assoc m.declarations (d ∷ []) ds)

with_proc : (m : Module) (p : SourceProcess) (ds : List Declaration) (ps : List SourceProcess) → with_items (record m { processes = m.processes ++ p ∷ [] }) ds ps ≡ with_items m ds (p ∷ ps)
with_proc m p ds ps = rw (append_assoc m.processes (p ∷ []) ps)

complete-items : {ds : List Declaration} {ps : List SourceProcess} {ts all : PlainTokens} → IsItems ds ps ts all → (budget n : ℕ) (m : Module) (u : PlainToken) (rest : PlainTokens) → all ≡ u ∷ rest
    → length ts < budget → length ts ≤ n → u.kind ≡ k.EndModule → parse_items budget n m ts ≡ Some (with_items m ds ps, rest)
complete-items no_items budget n m u rest is w turns end =
    let some : 0 < n = omega (arith, ap length is) in
    rw (is, with_none m) (items-end budget n m u rest some end)
complete-items (regs {r = r} {ns = ns} {ds = ds} {ps = ps} {t = t} {ts = ts} {us = us} {vs = vs} q dr d more) budget n m u rest is w turns end =
    let x = short-range dr in
    let y = short-names d in
    let one : Declaration = record { range = r; names = ns } in
    let read = item-regs budget m r ns t ts us vs q (complete-range dr (square-names d)) (complete-names d budget [] (omega arith)) in
    items-turn budget n (n - 1) m (record m { declarations = m.declarations ++ one ∷ [] }) (t ∷ ts) vs (omega arith) (not_end-Reg t ts q) read
    ∙ complete-items more budget (n - 1) (record m { declarations = m.declarations ++ one ∷ [] }) u rest is (omega arith) (omega arith) end
    ∙ ap (λ x. Some (x, rest)) (with_reg m one ds ps)
complete-items (proc {b = b} {s = s} {ds = ds} {ps = ps} {t = t} {ts = ts} {us = us} q d more) budget n m u rest is w turns end =
    let x = short-statement d in
    let follow = first-items more (rw is (no_else_after u rest end)) in
    let made : SourceProcess = record { repeats = b; body = s } in
    let one : parse_statement budget ts ≡ Some (s, us) = deeper (λ x. parse_statement x ts) budget (omega arith) ∙ complete-statement d (budget - 1) (omega arith) follow in
    let read = item-proc budget m b s t ts us q one in
    items-turn budget n (n - 1) m (record m { processes = m.processes ++ made ∷ [] }) (t ∷ ts) us (omega arith) (apart repeats_of b t.kind k.EndModule q refl) read
    ∙ complete-items more budget (n - 1) (record m { processes = m.processes ++ made ∷ [] }) u rest is (omega arith) (omega arith) end
    ∙ ap (λ x. Some (x, rest)) (with_proc m made ds ps)

source-is : (budget : ℕ) (m : Module) (t u v : PlainToken) (ts : PlainTokens) → t.kind ≡ k.Module → u.kind ≡ k.Name → v.kind ≡ k.Semicolon
    → parse_items budget budget (record { name = u.text; declarations = []; processes = [] }) ts ≡ Some (m, []) → parse_source budget (t ∷ u ∷ v ∷ ts) ≡ Some (m, [])
unfolding parse_source
source-is budget m t u v ts a b c read =
    let x = expect-is k.Module t (u ∷ v ∷ ts) a in let y = expect-is k.Name u (v ∷ ts) b in let z = expect-is k.Semicolon v ts c in rw (x, y, z, read)

pub complete-source : {m : Module} {ts : PlainTokens} → IsModule m ts → (budget : ℕ) → length ts ≤ budget → parse_source budget ts ≡ Some (m, [])
complete-source (spelled {ds = ds} {ps = ps} {t = t} {u = u} {v = v} {w = w} {ts = ts} a b c d end) budget fits =
    source-is budget (record { name = u.text; declarations = ds; processes = ps }) t u v ts a b c
    (complete-items d budget budget (record { name = u.text; declarations = []; processes = [] }) w [] refl (omega arith) (omega arith) end)
