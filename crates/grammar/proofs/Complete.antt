-- Each expression that is spelled is read, where what follows can't go on with it and the budget is greater than the number of tokens.
use Rattle.std.proofs.Common.{◌≡◌, ℕ, zero, suc, ◌+◌, ◌-◌, ◌<◌, ◌≤◌, List, [], ◌∷◌, ◌++◌, append_assoc, append-nil, Bool, ◌⊎◌, inl, inr, ap, length, true, false, nat_lt, Option, Some, None, refl, ◌∙◌, add-one, arith}
use Rattle.std.proofs.lemmas.Bool.Decides.{nat_tests}
use Rattle.tokens.specs.declared.token.Kind.{Kind}
use Rattle.tokens.specs.declared.token.Kind.TheVariants as k
use Rattle.model.specs.declared.tree.UnaryOperator.{UnaryOperator}
use Rattle.model.specs.declared.tree.BinaryOperator.{BinaryOperator}
use Rattle.grammar.specs.Cursor.{kind, sees, parse_and_then}
use Rattle.tokens.specs.Tokens.{PlainToken, PlainTokens, same_kind}
use Rattle.logic4.specs.Vector.{Vector}
use Rattle.model.specs.Syntax.{Text, Expression, Expressions}
use Rattle.model.specs.SourceTrees.{source_expressions}
use Rattle.model.specs.Syntax as tree
use Rattle.grammar.specs.Grammar.{operator, prefix, IsExpression, plain, chosen, IsBinary, operand, tighter, joined, IsUnary, bare, prefixed, IsPrimary, named, selected, sized, concatenated, nested, IsParts, last_part, next_part}
use Rattle.grammar.specs.Reading as spec
use Rattle.grammar.specs.Reading.{Parser, parse_list, continues, parse_operators, parse_level, parse_primary, conditional_at, parse_expression}
use Rattle.grammar.proofs.Steps.{same_kind-is, same_kind-true, expect-is}
use Rattle.grammar.proofs.Turns.{deeper}
use Rattle.grammar.proofs.Sound.{continues-stops}

-- ---- each tree takes a token at least

mutual
  pub short-expression : {e : Expression Text} {ts rest : PlainTokens} → IsExpression e ts rest → length rest < length ts
  short-expression (plain d) = short-binary d
  short-expression (chosen dc q da c db) = let x = short-binary dc in let y = short-expression da in let z = short-expression db in omega arith

  short-binary : {level : ℕ} {e : Expression Text} {ts rest : PlainTokens} → IsBinary level e ts rest → length rest < length ts
  short-binary (operand d) = short-unary d
  short-binary (tighter d) = short-binary d
  short-binary (joined dl o dr) = let x = short-binary dl in let y = short-binary dr in omega arith

  short-unary : {e : Expression Text} {ts rest : PlainTokens} → IsUnary e ts rest → length rest < length ts
  short-unary (bare d) = short-primary d
  short-unary (prefixed o d) = let x = short-primary d in omega arith

  short-primary : {e : Expression Text} {ts rest : PlainTokens} → IsPrimary e ts rest → length rest < length ts
  short-primary (named q) = omega arith
  short-primary (selected q start i end) = omega arith
  short-primary (sized q is) = omega arith
  short-primary (concatenated q d) = let x = short-parts d in omega arith
  short-primary (nested q d c) = let x = short-expression d in omega arith

  short-parts : {es : Expressions Text} {ts rest : PlainTokens} → IsParts es ts rest → length rest < length ts
  short-parts (last_part d end) = let x = short-expression d in omega arith
  short-parts (next_part d c ds) = let x = short-expression d in let y = short-parts ds in omega arith

-- ---- which operators continue

continues-of_none : (level : ℕ) (at : Kind) → operator at ≡ None → continues level at ≡ None
unfolding continues
continues-of_none level at h = rw h

continues-of_some : (level : ℕ) (at : Kind) (found : ℕ) (op : BinaryOperator) → operator at ≡ Some (found, op) → level ≤ found → continues level at ≡ Some (found, op)
unfolding continues
continues-of_some level at found op h w = let q : nat_lt found level ≡ false = grind (arith, nat_tests) in rw (h, q)

continues-above : (level : ℕ) (at : Kind) (found : ℕ) (op : BinaryOperator) → operator at ≡ Some (found, op) → found < level → continues level at ≡ None
unfolding continues
continues-above level at found op h w = let q : nat_lt found level ≡ true = grind (arith, nat_tests) in rw (h, q)

continues-more : (level more : ℕ) (at : Kind) → level ≤ more → continues level at ≡ None → continues more at ≡ None
continues-more level more at w h = by (operator at) refl where
  by : (o : Option (ℕ × BinaryOperator)) → operator at ≡ o → continues more at ≡ None
  by None e = continues-of_none more at e
  by (Some p) e = let below = continues-stops level at p.0 p.1 h e in continues-above more at p.0 p.1 e (omega arith)

-- ---- steps of the loop

climb-stop : (inner : ℕ → Parser (Expression Text)) (m level : ℕ) (e : Expression Text) (us : PlainTokens) → 0 < m → continues level (kind us) ≡ None → parse_operators inner m level e us ≡ Some (e, us)
unfolding parse_operators
climb-stop inner zero level e us w h = absurd (omega arith)
climb-stop inner (suc m) level e us w h = rw h

climb-turn : (inner : ℕ → Parser (Expression Text)) (m n level found : ℕ) (op : BinaryOperator) (l r : Expression Text) (t : PlainToken) (us rest : PlainTokens) → m ≡ suc n
    → operator t.kind ≡ Some (found, op) → level ≤ found → inner (found + 1) us ≡ Some (r, rest)
    → parse_operators inner m level l (t ∷ us) ≡ parse_operators inner n level (tree.Binary op l r) rest
unfolding parse_operators
climb-turn inner m n level found op l r t us rest q o w read = let c = continues-of_some level t.kind found op o w in rw (q, c, read)

-- what was read up to here, and nothing more of its level
whole-is : (inner : ℕ → Parser (Expression Text)) (n level m : ℕ) (e x : Expression Text) (ts us rest : PlainTokens)
    → parse_and_then (spec.parse_operand inner n ts) (parse_operators inner n level) ≡ parse_operators inner m level e us → 0 < m → continues level (kind us) ≡ None
    → conditional_at inner level e us ≡ Some (x, rest) → parse_level inner n level ts ≡ Some (x, rest)
unfolding parse_level
whole-is inner n level m e x ts us rest h w stop next = let c = climb-stop inner m level e us w stop in rw (h, c) next

-- ---- what may follow an expression

abbrev pub Ends : PlainTokens → Type 0
Ends ts = (operator (kind ts) ≡ None) × (sees k.Question ts ≡ false) × (sees k.OpenSquare ts ≡ false)

pub ends-Close : (t : PlainToken) (ts : PlainTokens) → t.kind ≡ k.Close → Ends (t ∷ ts)
unfolding same_kind
ends-Close t ts q = (rw q, rw q, rw q)

pub ends-Colon : (t : PlainToken) (ts : PlainTokens) → t.kind ≡ k.Colon → Ends (t ∷ ts)
unfolding same_kind
ends-Colon t ts q = (rw q, rw q, rw q)

pub ends-CloseCurly : (t : PlainToken) (ts : PlainTokens) → t.kind ≡ k.CloseCurly → Ends (t ∷ ts)
unfolding same_kind
ends-CloseCurly t ts q = (rw q, rw q, rw q)

pub ends-Comma : (t : PlainToken) (ts : PlainTokens) → t.kind ≡ k.Comma → Ends (t ∷ ts)
unfolding same_kind
ends-Comma t ts q = (rw q, rw q, rw q)

pub ends-Semicolon : (t : PlainToken) (ts : PlainTokens) → t.kind ≡ k.Semicolon → Ends (t ∷ ts)
unfolding same_kind
ends-Semicolon t ts q = (rw q, rw q, rw q)

true_or_false : (b : Bool) → (b ≡ true) ⊎ (b ≡ false)
true_or_false true = inl refl
true_or_false false = inr refl

operator-Square : (at : Kind) → at ≡ k.OpenSquare → operator at ≡ None
operator-Square at q = rw q

-- an operator is no opening bracket
no_square : (t : PlainToken) (ts : PlainTokens) (found : ℕ) (op : BinaryOperator) → operator t.kind ≡ Some (found, op) → sees k.OpenSquare (t ∷ ts) ≡ false
no_square t ts found op o = elim (true_or_false (same_kind t.kind k.OpenSquare)) [
  | inl e ↦ absurd (let x = operator-Square t.kind (same_kind-true t.kind k.OpenSquare e) in cc)
  | inr e ↦ e
]

no_square-Question : (t : PlainToken) (ts : PlainTokens) → t.kind ≡ k.Question → sees k.OpenSquare (t ∷ ts) ≡ false
unfolding same_kind
no_square-Question t ts q = rw q

no_comma : (t : PlainToken) (ts : PlainTokens) → t.kind ≡ k.CloseCurly → sees k.Comma (t ∷ ts) ≡ false
unfolding same_kind
no_comma t ts q = rw q

abbrev pub list_of : Expressions Text → List (Expression Text)
list_of tree.Nothing = []
list_of (tree.Also e es) = e ∷ list_of es

pub expressions_list : (es : Expressions Text) → source_expressions (list_of es) ≡ es
expressions_list tree.Nothing = refl
expressions_list (tree.Also e es) = ap (tree.Also e) (expressions_list es)

first-primary : {e : Expression Text} {ts rest : PlainTokens} → IsPrimary e ts rest → prefix (kind ts) ≡ None
first-primary (named q) = rw q
first-primary (selected q start i end) = rw q
first-primary (sized q is) = rw q
first-primary (concatenated q d) = rw q
first-primary (nested q d c) = rw q

operator-Question : (at : Kind) → at ≡ k.Question → operator at ≡ None
operator-Question at q = rw q

primary-name : (inner : ℕ → Parser (Expression Text)) (budget : ℕ) (t : PlainToken) (rest : PlainTokens) → t.kind ≡ k.Name → sees k.OpenSquare rest ≡ false
    → parse_primary inner budget (t ∷ rest) ≡ Some (tree.Register t.text, rest)
unfolding parse_primary spec.parse_name
primary-name inner budget t rest q no_index = rw (q, no_index)

primary-select : (inner : ℕ → Parser (Expression Text)) (budget : ℕ) (t u v w : PlainToken) (rest : PlainTokens) → t.kind ≡ k.Name → u.kind ≡ k.OpenSquare → v.kind ≡ k.Decimal → w.kind ≡ k.CloseSquare
    → parse_primary inner budget (t ∷ u ∷ v ∷ w ∷ rest) ≡ Some (tree.Select t.text v.value, rest)
unfolding parse_primary spec.parse_name spec.parse_select
primary-select inner budget t u v w rest q start i end =
    let s = same_kind-is u.kind k.OpenSquare start in let x = expect-is k.Decimal v (w ∷ rest) i in let y = expect-is k.CloseSquare w rest end in rw (q, s, x, y)

primary-sized : (inner : ℕ → Parser (Expression Text)) (budget : ℕ) (d : Vector) (t : PlainToken) (rest : PlainTokens) → t.kind ≡ k.Sized → t.bits ≡ Some d
    → parse_primary inner budget (t ∷ rest) ≡ Some (tree.Literal d, rest)
unfolding parse_primary spec.parse_literal
primary-sized inner budget d t rest q is = rw (q, is)

primary-concat : (inner : ℕ → Parser (Expression Text)) (budget : ℕ) (e : Expression Text) (es : List (Expression Text)) (t : PlainToken) (ts us rest : PlainTokens) → t.kind ≡ k.OpenCurly
    → inner 0 ts ≡ Some (e, us) → parse_list inner k.CloseCurly budget [] us ≡ Some (es, rest) → parse_primary inner budget (t ∷ ts) ≡ Some (tree.Concat (tree.Also e (source_expressions es)), rest)
unfolding parse_primary spec.parse_concat
primary-concat inner budget e es t ts us rest q read others = rw (q, read, others)

pub parenthesized-is : (inner : ℕ → Parser (Expression Text)) (e : Expression Text) (t u : PlainToken) (ts rest : PlainTokens) → t.kind ≡ k.Open → inner 0 ts ≡ Some (e, u ∷ rest) → u.kind ≡ k.Close
    → spec.parse_parenthesized inner (t ∷ ts) ≡ Some (e, rest)
unfolding spec.parse_parenthesized
parenthesized-is inner e t u ts rest q read c = let x = expect-is k.Open t ts q in let y = expect-is k.Close u rest c in rw (x, read, y)

primary-open : (inner : ℕ → Parser (Expression Text)) (budget : ℕ) (ts : PlainTokens) → kind ts ≡ k.Open → parse_primary inner budget ts ≡ spec.parse_parenthesized inner ts
unfolding parse_primary
primary-open inner budget ts q = rw q

parts-end : (inner : ℕ → Parser (Expression Text)) (m : ℕ) (found : List (Expression Text)) (u : PlainToken) (rest : PlainTokens) → 0 < m → u.kind ≡ k.CloseCurly
    → parse_list inner k.CloseCurly m found (u ∷ rest) ≡ Some (found, rest)
unfolding parse_list
parts-end inner zero found u rest w end = absurd (omega arith)
parts-end inner (suc m) found u rest w end = let y = no_comma u rest end in let z = expect-is k.CloseCurly u rest end in rw (y, z)

parts-next : (inner : ℕ → Parser (Expression Text)) (m n : ℕ) (found : List (Expression Text)) (e : Expression Text) (u : PlainToken) (us vs : PlainTokens) → m ≡ suc n → u.kind ≡ k.Comma → inner 0 us ≡ Some (e, vs)
    → parse_list inner k.CloseCurly m found (u ∷ us) ≡ parse_list inner k.CloseCurly n (found ++ e ∷ []) vs
unfolding parse_list
parts-next inner m n found e u us vs is c read = let y = same_kind-is u.kind k.Comma c in rw (is, y, read)

operand-bare : (inner : ℕ → Parser (Expression Text)) (budget : ℕ) (e : Expression Text) (ts rest : PlainTokens) → prefix (kind ts) ≡ None → parse_primary inner budget ts ≡ Some (e, rest) → spec.parse_operand inner budget ts ≡ Some (e, rest)
unfolding spec.parse_operand
operand-bare inner budget e ts rest none read = rw none read

operand-prefixed : (inner : ℕ → Parser (Expression Text)) (budget : ℕ) (op : UnaryOperator) (e : Expression Text) (t : PlainToken) (ts rest : PlainTokens) → prefix t.kind ≡ Some op → parse_primary inner budget ts ≡ Some (e, rest)
    → spec.parse_operand inner budget (t ∷ ts) ≡ Some (tree.Unary op e, rest)
unfolding spec.parse_operand
operand-prefixed inner budget op e t ts rest o read = rw (o, read)

chosen-is : (inner : ℕ → Parser (Expression Text)) (c a b : Expression Text) (t u : PlainToken) (us vs rest : PlainTokens) → t.kind ≡ k.Question → inner 0 us ≡ Some (a, u ∷ vs) → u.kind ≡ k.Colon
    → inner 0 vs ≡ Some (b, rest) → conditional_at inner 0 c (t ∷ us) ≡ Some (tree.Conditional c a b, rest)
unfolding spec.parse_conditional
chosen-is inner c a b t u us vs rest q ra col rb = let s = same_kind-is t.kind k.Question q in let x = expect-is k.Colon u vs col in rw (s, ra, x, rb)

-- the first part is read, and those behind it with a turn for each token
record ReadsParts (n : ℕ) (es : Expressions Text) (ts rest : PlainTokens) : Type 0 where
  pub first : Expression Text
  pub others : Expressions Text
  pub left : PlainTokens
  pub is : tree.Also first others ≡ es
  pub read : parse_expression n 0 ts ≡ Some (first, left)
  pub short : length left < length ts
  pub more : (m : ℕ) (found : List (Expression Text)) → length left ≤ m → parse_list (parse_expression n) k.CloseCurly m found left ≡ Some (found ++ list_of others, rest)

-- from the first operand on, what was read up to the rest, and the turns that are left
abbrev Reached : ℕ → ℕ → Expression Text → PlainTokens → PlainTokens → Type 0
Reached n level e ts rest = (m : ℕ) × (length rest < m) × (parse_and_then (spec.parse_operand (parse_expression n) n ts) (parse_operators (parse_expression n) n level) ≡ parse_operators (parse_expression n) m level e rest)

read-level : (n level : ℕ) (e : Expression Text) (ts rest : PlainTokens) → 0 < n → continues (suc level) (kind rest) ≡ None → Reached (n - 1) (suc level) e ts rest
    → parse_expression n (suc level) ts ≡ Some (e, rest)
read-level n level e ts rest w stop reached =
    deeper (λ x. parse_expression x (suc level) ts) n w ∙ whole-is (parse_expression (n - 1)) (n - 1) (suc level) reached.0 e e ts rest rest reached.2 (omega arith) stop refl

mutual
  pub complete-expression : {e : Expression Text} {ts rest : PlainTokens} → IsExpression e ts rest → (n : ℕ) → length ts < n → Ends rest → parse_expression n 0 ts ≡ Some (e, rest)
  complete-expression {e} {ts} {rest} (plain d) n w ends =
      let r = reach d (n - 1) 0 (omega arith) (omega arith) (continues-of_none 2 (kind rest) ends.0) ends.2 in
      deeper (λ x. parse_expression x 0 ts) n (omega arith)
      ∙ whole-is (parse_expression (n - 1)) (n - 1) 0 r.0 e e ts rest rest r.2 (omega arith) (continues-of_none 0 (kind rest) ends.0) (rw ends.1)
  complete-expression {e} {ts} {rest} (chosen {c = c} {a = a} {b = b} {t = t} {u = u} {us = us} {vs = vs} dc q da col db) n w ends =
      let none = operator-Question t.kind q in
      let r = reach dc (n - 1) 0 (omega arith) (omega arith) (continues-of_none 2 t.kind none) (no_square-Question t us q) in
      let x = short-binary dc in
      let y = short-expression da in
      let ra = complete-expression da (n - 1) (omega arith) (ends-Colon u vs col) in
      let rb = complete-expression db (n - 1) (omega arith) ends in
      deeper (λ x. parse_expression x 0 ts) n (omega arith)
      ∙ whole-is (parse_expression (n - 1)) (n - 1) 0 r.0 c e ts (t ∷ us) rest r.2 (omega arith) (continues-of_none 0 t.kind none)
      (chosen-is (parse_expression (n - 1)) c a b t u us vs rest q ra col rb)

  reach : {j : ℕ} {e : Expression Text} {ts rest : PlainTokens} → IsBinary j e ts rest → (n level : ℕ) → level ≤ j → length ts ≤ n → continues (suc j) (kind rest) ≡ None
      → sees k.OpenSquare rest ≡ false → Reached n level e ts rest
  reach {rest = rest} (operand d) n level w len stop square =
      let x = short-unary d in
      let read = complete-unary d n len square in
      (n, omega arith, rw read)
  reach {j} {rest = rest} (tighter d) n level w len stop square =
      reach d n level (omega arith) len (continues-more (suc j) (suc (suc j)) (kind rest) (omega arith) stop) square
  reach {j} {rest = rest} (joined {op = op} {l = l} {r = r} {t = t} {us = us} dl o dr) n level w len stop square =
      let x = short-binary dl in
      let y = short-binary dr in
      let left = reach dl n level w len (continues-above (suc j) t.kind j op o (omega arith)) (no_square t us j op o) in
      let right = reach dr (n - 1) (suc j) (omega arith) (omega arith) (continues-more (suc j) (suc (suc j)) (kind rest) (omega arith) stop) square in
      let read : parse_expression n (j + 1) us ≡ Some (r, rest) = rw add-one (read-level n j r us rest (omega arith) stop right) in
      (left.0 - 1, omega arith, left.2 ∙ climb-turn (parse_expression n) left.0 (left.0 - 1) level j op l r t us rest (omega arith) o w read)

  complete-unary : {e : Expression Text} {ts rest : PlainTokens} → IsUnary e ts rest → (n : ℕ) → length ts ≤ n → sees k.OpenSquare rest ≡ false → spec.parse_operand (parse_expression n) n ts ≡ Some (e, rest)
  complete-unary {e} {ts} {rest} (bare d) n len square = operand-bare (parse_expression n) n e ts rest (first-primary d) (complete-primary d n len square)
  complete-unary {rest = rest} (prefixed {op = op} {e = e} {t = t} {ts = ts} o d) n len square =
      operand-prefixed (parse_expression n) n op e t ts rest o (complete-primary d n (omega arith) square)

  complete-primary : {e : Expression Text} {ts rest : PlainTokens} → IsPrimary e ts rest → (n : ℕ) → length ts ≤ n → sees k.OpenSquare rest ≡ false → parse_primary (parse_expression n) n ts ≡ Some (e, rest)
  complete-primary (named {t = t} {rest = rest} q) n len square = primary-name (parse_expression n) n t rest q square
  complete-primary (selected {t = t} {u = u} {v = v} {w = w} {rest = rest} q start i end) n len square = primary-select (parse_expression n) n t u v w rest q start i end
  complete-primary (sized {d = d} {t = t} {rest = rest} q is) n len square = primary-sized (parse_expression n) n d t rest q is
  complete-primary {rest = rest} (concatenated {es = es} {t = t} {ts = ts} q d) n len square =
      let r = complete-parts d n (omega arith) in
      let short = r.short in
      primary-concat (parse_expression n) n r.first (list_of r.others) t ts r.left rest q r.read (r.more n [] (omega arith))
      ∙ ap (λ x. Some (tree.Concat (tree.Also r.first x), rest)) (expressions_list r.others) ∙ ap (λ x. Some (tree.Concat x, rest)) r.is
  complete-primary (nested {e = e} {t = t} {u = u} {ts = ts} {rest = rest} q d c) n len square =
      primary-open (parse_expression n) n (t ∷ ts) q
      ∙ parenthesized-is (parse_expression n) e t u ts rest q (complete-expression d n (omega arith) (ends-Close u rest c)) c

  complete-parts : {es : Expressions Text} {ts rest : PlainTokens} → IsParts es ts rest → (n : ℕ) → length ts < n → ReadsParts n es ts rest
  complete-parts {ts = ts} {rest = rest} (last_part {e = e} {u = u} d end) n w = record {
    first = e;
    others = tree.Nothing;
    left = u ∷ rest;
    is = refl;
    read = complete-expression d n w (ends-CloseCurly u rest end);
    short = short-expression d;
    more = λ m found turns. rw (append-nil found) (parts-end (parse_expression n) m found u rest (omega arith) end);
  }
  complete-parts {ts = ts} {rest = rest} (next_part {e = e} {es = es} {u = u} {us = us} d c ds) n w =
      let x = short-expression d in
      let r = complete-parts ds n (omega arith) in
      record {
        first = e;
        others = es;
        left = u ∷ us;
        is = refl;
        read = complete-expression d n w (ends-Comma u us c);
        short = x;
        more = λ m found turns. let short = r.short in
            parts-next (parse_expression n) m (m - 1) found r.first u us r.left (omega arith) c r.read
            ∙ r.more (m - 1) (found ++ r.first ∷ []) (omega arith)
            ∙ ap (λ xs. Some (xs, rest)) (append_assoc found (r.first ∷ []) (list_of r.others))
            ∙ ap (λ xs. Some (found ++ list_of xs, rest)) r.is;
      }
