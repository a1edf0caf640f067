-- What the steps of the reading give is what the grammar spells.
use Rattle.std.proofs.Common.{◌≡◌, ℕ, zero, suc, ◌≤◌, ◌<◌, List, [], ◌∷◌, ◌++◌, map, Bool, true, false, if◌then◌else◌, Option, Some, None, Result, Ok, Err, IfOk, refl, sym, ◌∙◌, subst, ap, arith}
use Rattle.std.specs.declared.boxed.Box.{Box}
use Rattle.std.specs.declared.alloc.Global.{Global}
use Rattle.lexemes.specs.declared.token.Sign.{Sign}
use Rattle.lexemes.specs.declared.token.Sign.TheVariants as sign
use Rattle.numerals.specs.declared.number.NumberReading.{NumberReading}
use Rattle.numerals.specs.declared.number.NumberReading.TheVariants as reading
use Rattle.numerals.specs.Numbers as numbers
use Rattle.syntax_tree.specs.declared.expressions.PartForm.{PartForm}
use Rattle.syntax_tree.specs.declared.expressions.VerilogBinaryOperator.{VerilogBinaryOperator}
use Rattle.syntax_tree.specs.declared.expressions.VerilogUnaryOperator.{VerilogUnaryOperator}
use Rattle.syntax_tree.specs.declared.expressions.VerilogExpression as program
use Rattle.syntax_tree.specs.Expressions as tree
use Rattle.syntax_tree.specs.Expressions.{Expression, plain_expressions, plain_expression_of}
use Rattle.expression_syntax.specs.declared.faults.SyntaxStop.{SyntaxStop}
use Rattle.expression_syntax.specs.declared.operators.PrimaryForm.TheVariants as primary
use Rattle.expression_syntax.specs.declared.texts.TokenSource.{TokenSource}
use Rattle.expression_syntax.specs.Texts.{token_bytes, name_spelled}
use Rattle.expression_syntax.specs.Spelling.{unquoted_text}
use Rattle.expression_syntax.specs.Places.{kind_at, sign_at, name_at, base_at, has_digits_at, behind}
use Rattle.expression_syntax.specs.Operators.{binary_operator, unary_operator, part_form, primary_form}
use Rattle.expression_syntax.specs.Attributes.{tokens_of, IsAttributeRest, closed, inside, AreAttributes, no_attribute, attribute}
use Rattle.expression_syntax.specs.ExpressionGrammar as grammar
use Rattle.expression_syntax.specs.ExpressionGrammar.{IsNumber, IsNode, IsPrimary, IsPath, IsUnary, IsBinary, IsExpression, IsLevel, IsBraces, AreSeparated, AreParts, EndsLevel, IsTarget}
use Rattle.expression_syntax.proofs.Levels.{IsReady, ready_joined}

-- ---- attributes

pub closed_step : (s : TokenSource) (a p : ℕ) (r : Bool) → r ≡ sign_at (tokens_of s) a sign.CloseAttribute → r ≡ true → p ≡ (if r then behind (tokens_of s) a else a)
    → IsAttributeRest s a p
closed_step s a p true seen is moved = rw moved (closed (sym seen))
closed_step s a p false seen is moved = absurd (cc)

pub inside_step : (s : TokenSource) (a p q b : ℕ) (r : Bool) → r ≡ sign_at (tokens_of s) a sign.CloseAttribute → r ≡ false → p ≡ (if r then behind (tokens_of s) a else a)
    → q ≡ behind (tokens_of s) p → IsAttributeRest s q b → IsAttributeRest s a b
inside_step s a p q b true seen is moved next h = absurd (cc)
inside_step s a p q b false seen is moved next h =
    let e : q ≡ behind (tokens_of s) a = next ∙ ap (λ x. behind (tokens_of s) x) moved in
    inside (sym seen) (subst (λ x. IsAttributeRest s x b) e h)

pub no_attribute_step : (s : TokenSource) (a p : ℕ) (r : Bool) → r ≡ false → p ≡ (if r then behind (tokens_of s) a else a) → AreAttributes s a p
no_attribute_step s a p true is moved = absurd (cc)
no_attribute_step s a p false is moved = rw moved no_attribute

pub attribute_step : (s : TokenSource) (a p m b : ℕ) (r : Bool) → r ≡ sign_at (tokens_of s) a sign.OpenAttribute → r ≡ true → p ≡ (if r then behind (tokens_of s) a else a)
    → IsAttributeRest s p m → AreAttributes s m b → AreAttributes s a b
attribute_step s a p m b true seen is moved rest h = attribute (sym seen) (subst (λ x. IsAttributeRest s x m) moved rest) h
attribute_step s a p m b false seen is moved rest h = absurd (cc)

-- ---- numbers and strings

node_is : (s : TokenSource) (a b : ℕ) (r : NumberReading) (e : Expression) → IsNumber s r a b → IsNode a r e → IsPrimary s e a b
node_is s a b (reading.Value n) e is node = rw node (grammar.numbered is)
node_is s a b reading.Wide e is node = rw node (grammar.refused is refl)
node_is s a b reading.Malformed e is node = rw node (grammar.refused is refl)

pub node_primary : (s : TokenSource) (a b q token : ℕ) (r : NumberReading) (result : Result (Box program.VerilogExpression Global) SyntaxStop) → IsNumber s r a b → token ≡ a → q ≡ b
    → IfOk result (λ e. IsNode token r (plain_expression_of e.value)) → IfOk result (λ e. IsPrimary s (plain_expression_of e.value) a q)
node_primary s a b q token r (Ok e) is h g node =
    rw g (node_is s a b r (plain_expression_of e.value) is (subst (λ x. IsNode x r (plain_expression_of e.value)) h node))
node_primary s a b q token r (Err e) is h g node = tt

pub plain_is : (s : TokenSource) (a b token : ℕ) (x : List ℕ) (r : NumberReading) → primary_form (kind_at (tokens_of s) a) ≡ primary.Number → token ≡ a
    → b ≡ behind (tokens_of s) a → x ≡ token_bytes s token → r ≡ numbers.plain_number x → IsNumber s r a b
plain_is s a b token x r form t h e f = rw (f, e, t, h) (grammar.plain_number form)

pub based_is : (s : TokenSource) (a m b base digits : ℕ) (x y : List ℕ) (r : NumberReading) → base ≡ a → base_at (tokens_of s) a ≡ true → m ≡ behind (tokens_of s) a
    → digits ≡ m → has_digits_at (tokens_of s) m ≡ true → b ≡ behind (tokens_of s) m → x ≡ token_bytes s base → y ≡ token_bytes s digits → r ≡ numbers.based_number x y
    → IsNumber s r a b
based_is s a m b base digits x y r t u v w z h e f g = rw (g, e, f, t, w, h) (grammar.based_number u v z)

pub sized_is : (s : TokenSource) (a m n b base digits : ℕ) (x y z : List ℕ) (r : NumberReading) → primary_form (kind_at (tokens_of s) a) ≡ primary.Number
    → m ≡ behind (tokens_of s) a → base_at (tokens_of s) m ≡ true → base ≡ m → n ≡ behind (tokens_of s) m → digits ≡ n → has_digits_at (tokens_of s) n ≡ true
    → b ≡ behind (tokens_of s) n → x ≡ token_bytes s a → y ≡ token_bytes s base → z ≡ token_bytes s digits → r ≡ numbers.sized_number x y z → IsNumber s r a b
sized_is s a m n b base digits x y z r form v u t w d i h e f g o = rw (o, e, f, g, t, d, h) (grammar.sized_number form v u w i)

pub text_is : (s : TokenSource) (a q token : ℕ) (x bytes : List ℕ) (e : Expression) → primary_form (kind_at (tokens_of s) a) ≡ primary.Text → token ≡ a
    → q ≡ behind (tokens_of s) a → x ≡ token_bytes s token → bytes ≡ unquoted_text x → e ≡ tree.Text token bytes → IsPrimary s e a q
text_is s a q token x bytes e form t h f g i = rw (i, g, f, t, h) (grammar.text form)

pub real_is : (s : TokenSource) (a q token : ℕ) (bytes : List ℕ) (e : Expression) → primary_form (kind_at (tokens_of s) a) ≡ primary.Real → token ≡ a
    → q ≡ behind (tokens_of s) a → bytes ≡ token_bytes s token → e ≡ tree.Real token bytes → IsPrimary s e a q
real_is s a q token bytes e form t h f i = rw (i, f, t, h) (grammar.real form)

-- ---- paths

pub name_is : (s : TokenSource) (a q token : ℕ) (bytes : List ℕ) (e : Expression) → token ≡ a → name_at (tokens_of s) a ≡ true → q ≡ behind (tokens_of s) a
    → bytes ≡ name_spelled (token_bytes s token) → e ≡ tree.Name token bytes → IsPath s e a q
name_is s a q token bytes e t n h f i = rw (i, f, t, h) (grammar.named n)

pub member_is : (s : TokenSource) (a p m q token : ℕ) (bytes : List ℕ) (scope e : Expression) → IsPath s scope a p → sign_at (tokens_of s) p sign.Dot ≡ true
    → m ≡ behind (tokens_of s) p → token ≡ m → name_at (tokens_of s) m ≡ true → q ≡ behind (tokens_of s) m → bytes ≡ name_spelled (token_bytes s token)
    → e ≡ tree.Member token scope bytes → IsPath s e a q
member_is s a p m q token bytes scope e is d v t n h f i = rw (i, f, t, h) (grammar.member is d v n)

pub index_is : (s : TokenSource) (a p m o n q q2 token : ℕ) (base index e : Expression) → IsPath s base a p → token ≡ p → sign_at (tokens_of s) p sign.OpenSquare ≡ true
    → m ≡ behind (tokens_of s) p → o ≡ m → IsExpression s index o n → sign_at (tokens_of s) n sign.CloseSquare ≡ true → q ≡ behind (tokens_of s) n → q2 ≡ q
    → e ≡ tree.Index token base index → IsPath s e a q2
index_is s a p m o n q q2 token base index e is t d v w inner x h k i =
    rw (i, t, k, h) (grammar.indexed is d (subst (λ y. IsExpression s index y n) (w ∙ v) inner) x)

pub part_is : (s : TokenSource) (a p o n m q q2 : ℕ) (form : PartForm) (base first second e : Expression) → IsPath s base a p → sign_at (tokens_of s) p sign.OpenSquare ≡ true
    → IsExpression s first (behind (tokens_of s) p) n → part_form (kind_at (tokens_of s) n) ≡ Some form → o ≡ behind (tokens_of s) n → IsExpression s second o m
    → sign_at (tokens_of s) m sign.CloseSquare ≡ true → q ≡ behind (tokens_of s) m → q2 ≡ q → e ≡ tree.Part p form base first second → IsPath s e a q2
part_is s a p o n m q q2 form base first second e is d one f v two x h k i =
    rw (i, k, h) (grammar.part is d one f (subst (λ y. IsExpression s second y m) v two) x)

-- ---- lists and brackets

map_more : (xs : List program.VerilogExpression) (x : program.VerilogExpression) → map plain_expression_of (xs ++ x ∷ []) ≡ map plain_expression_of xs ++ plain_expression_of x ∷ []
map_more [] x = refl
map_more (y ∷ xs) x = ap (λ r. plain_expression_of y ∷ r) (map_more xs x)

pub list_start : (s : TokenSource) (given first : program.VerilogExpression) (before items : List program.VerilogExpression) → first ≡ given → before ≡ [] → items ≡ before ++ first ∷ []
    → (a b : ℕ) → IsExpression s (plain_expression_of given) a b → AreSeparated s (map plain_expression_of items) a b
list_start s given first before items same none i a b given_is =
    let is : IsExpression s (plain_expression_of first) a b = subst (λ x. IsExpression s (plain_expression_of x) a b) (sym same) given_is in
    let e : map plain_expression_of items ≡ plain_expression_of first ∷ [] = ap (λ xs. map plain_expression_of xs) i ∙ ap (λ xs. map plain_expression_of (xs ++ first ∷ [])) none in
    subst (λ es. AreSeparated s es a b) (sym e) (grammar.first_part is)

pub list_more : (s : TokenSource) (given part : program.VerilogExpression) (old new : List program.VerilogExpression) (a m p b : ℕ) (r : Bool) → part ≡ given
    → AreSeparated s (map plain_expression_of old) a m → r ≡ sign_at (tokens_of s) m sign.Comma → r ≡ true → p ≡ (if r then behind (tokens_of s) m else m)
    → IsExpression s (plain_expression_of given) p b → new ≡ old ++ part ∷ [] → AreSeparated s (map plain_expression_of new) a b
list_more s given part old new a m p b true same is seen r moved given_is i =
    let inner : IsExpression s (plain_expression_of part) p b = subst (λ x. IsExpression s (plain_expression_of x) p b) (sym same) given_is in
    let e : map plain_expression_of new ≡ map plain_expression_of old ++ plain_expression_of part ∷ [] = ap (λ xs. map plain_expression_of xs) i ∙ map_more old part in
    subst (λ es. AreSeparated s es a b) (sym e) (grammar.next_part is (sym seen) (subst (λ x. IsExpression s (plain_expression_of part) x b) moved inner))
list_more s given part old new a m p b false same is seen r moved given_is i = absurd (cc)

pub parts_is : (s : TokenSource) (bracket : Sign) (es : List Expression) (a m p q q2 : ℕ) (r : Bool) → AreSeparated s es a m → r ≡ false
    → p ≡ (if r then behind (tokens_of s) m else m) → sign_at (tokens_of s) p bracket ≡ true → q ≡ behind (tokens_of s) p → q2 ≡ q → AreParts s bracket es a q2
parts_is s bracket es a m p q q2 true is r moved d h k = absurd (cc)
parts_is s bracket es a m p q q2 false is r moved d h k =
    rw (k, h, moved) (grammar.parts is (subst (λ x. sign_at (tokens_of s) x bracket ≡ true) moved d))

pub concatenation_is : (s : TokenSource) (a p o n b token : ℕ) (first e : Expression) (es : List Expression) → token ≡ a → sign_at (tokens_of s) a sign.OpenCurly ≡ true
    → p ≡ behind (tokens_of s) a → o ≡ p → IsExpression s first o n → ((x : ℕ) → IsExpression s first x n → AreParts s sign.CloseCurly es x b)
    → e ≡ tree.Concatenation token (plain_expressions es) → IsBraces s e a b
concatenation_is s a p o n b token first e es t d v w inner more i =
    rw (i, t) (grammar.concatenated d (subst (λ x. AreParts s sign.CloseCurly es x b) (w ∙ v) (more o inner)))

pub replication_is : (s : TokenSource) (a m p o n k b b2 : ℕ) (count first e : Expression) (es : List Expression) → sign_at (tokens_of s) a sign.OpenCurly ≡ true
    → IsExpression s count (behind (tokens_of s) a) m → sign_at (tokens_of s) m sign.OpenCurly ≡ true → p ≡ behind (tokens_of s) m → o ≡ p
    → IsExpression s first o n → ((x : ℕ) → IsExpression s first x n → AreParts s sign.CloseCurly es x k) → sign_at (tokens_of s) k sign.CloseCurly ≡ true
    → b ≡ behind (tokens_of s) k → b2 ≡ b → e ≡ tree.Replication a count (plain_expressions es) → IsBraces s e a b2
replication_is s a m p o n k b b2 count first e es d one f v w inner more x h j i =
    rw (i, j, h) (grammar.replicated d one f (subst (λ y. AreParts s sign.CloseCurly es y k) (w ∙ v) (more o inner)) x)

pub call_is : (s : TokenSource) (a m n b token : ℕ) (path e : Expression) (es : List Expression) → IsPath s path a m → AreAttributes s m n → token ≡ n
    → sign_at (tokens_of s) n sign.Open ≡ true → AreParts s sign.Close es (behind (tokens_of s) n) b → e ≡ tree.Call token path (plain_expressions es) → IsPrimary s e a b
call_is s a m n b token path e es is skipped t d given i = rw (i, t) (grammar.called is skipped d given)

pub system_is : (s : TokenSource) (a q token : ℕ) (bytes : List ℕ) (e : Expression) → primary_form (kind_at (tokens_of s) a) ≡ primary.SystemName → token ≡ a
    → q ≡ behind (tokens_of s) a → bytes ≡ token_bytes s token → e ≡ tree.SystemCall token bytes tree.Nothing → IsPrimary s e a q
system_is s a q token bytes e form t h f i = rw (i, f, t, h) (grammar.system form)

pub system_bare_is : (s : TokenSource) (a q token : ℕ) (bytes : List ℕ) (items : List program.VerilogExpression) (e : Expression)
    → primary_form (kind_at (tokens_of s) a) ≡ primary.SystemName → token ≡ a → q ≡ behind (tokens_of s) a → bytes ≡ token_bytes s token → items ≡ []
    → e ≡ tree.SystemCall token bytes (plain_expressions (map plain_expression_of items)) → IsPrimary s e a q
system_bare_is s a q token bytes items e form t h f none i =
    system_is s a q token bytes e form t h f (i ∙ ap (λ xs. tree.SystemCall token bytes (plain_expressions (map plain_expression_of xs))) none)

pub system_call_is : (s : TokenSource) (a q b token : ℕ) (bytes : List ℕ) (es : List Expression) (e : Expression) → primary_form (kind_at (tokens_of s) a) ≡ primary.SystemName
    → token ≡ a → q ≡ behind (tokens_of s) a → bytes ≡ token_bytes s token → sign_at (tokens_of s) q sign.Open ≡ true
    → AreParts s sign.Close es (behind (tokens_of s) q) b → e ≡ tree.SystemCall token bytes (plain_expressions es) → IsPrimary s e a b
system_call_is s a q b token bytes es e form t h f d given i = rw (i, f, t) (grammar.system_called form h d given)

pub nested_is : (s : TokenSource) (a p o m b b2 : ℕ) (e : Expression) → sign_at (tokens_of s) a sign.Open ≡ true → p ≡ behind (tokens_of s) a → o ≡ p → IsExpression s e o m
    → sign_at (tokens_of s) m sign.Close ≡ true → b ≡ behind (tokens_of s) m → b2 ≡ b → IsPrimary s e a b2
nested_is s a p o m b b2 e d v w inner x h k = rw (k, h) (grammar.nested d (subst (λ y. IsExpression s e y m) (w ∙ v) inner) x)

pub typical_is : (s : TokenSource) (a m p n o q b b2 : ℕ) (low e high : Expression) → sign_at (tokens_of s) a sign.Open ≡ true → IsExpression s low (behind (tokens_of s) a) m
    → sign_at (tokens_of s) m sign.Colon ≡ true → p ≡ behind (tokens_of s) m → IsExpression s e p n → sign_at (tokens_of s) n sign.Colon ≡ true
    → o ≡ behind (tokens_of s) n → IsExpression s high o q → sign_at (tokens_of s) q sign.Close ≡ true → b ≡ behind (tokens_of s) q → b2 ≡ b → IsPrimary s e a b2
typical_is s a m p n o q b b2 low e high d one x v two y w three z h k =
    rw (k, h) (grammar.typical d one x (subst (λ i. IsExpression s e i n) v two) y (subst (λ i. IsExpression s high i q) w three) z)

-- ---- operators

pub unary_is : (s : TokenSource) (a p m b token : ℕ) (op : VerilogUnaryOperator) (inner e : Expression) → unary_operator (kind_at (tokens_of s) a) ≡ Some op → token ≡ a
    → p ≡ behind (tokens_of s) a → AreAttributes s p m → IsPrimary s inner m b → e ≡ tree.Unary token op inner → IsUnary s e a b
unary_is s a p m b token op inner e o t v skipped is i =
    rw (i, t) (grammar.prefixed o (subst (λ x. AreAttributes s x m) v skipped) is)

pub operator_is : (s : TokenSource) (level : ℕ) (l r e : Expression) (a q p m b token k : ℕ) (found : ℕ × VerilogBinaryOperator) → IsReady s level l a q
    → binary_operator (kind_at (tokens_of s) q) ≡ Some found → level ≤ found.0 → found.0 ≤ 11 → token ≡ q → p ≡ behind (tokens_of s) q → AreAttributes s p m
    → k ≡ suc found.0 → IsLevel s k r m b → EndsLevel k (kind_at (tokens_of s) b) → e ≡ tree.Binary token found.1 l r → IsReady s level e a b
operator_is s level l r e a q p m b token k found ready o h w t v skipped up right stops i =
    let right2 : IsLevel s (suc found.0) r m b = subst (λ n. IsLevel s n r m b) up right in
    let stops2 : EndsLevel (suc found.0) (kind_at (tokens_of s) b) = subst (λ n. EndsLevel n (kind_at (tokens_of s) b)) up stops in
    rw (i, t) (ready_joined s level l r a q m b found ready o h w (subst (λ x. AreAttributes s x m) v skipped) right2 stops2)

pub none_stops : (o r : Option (ℕ × VerilogBinaryOperator)) (level : ℕ) → r ≡ o → r ≡ None → (found : ℕ × VerilogBinaryOperator) → o ≡ Some found → found.0 < level
none_stops o r level is none found some = absurd (cc)

some_same : (f found : ℕ × VerilogBinaryOperator) → Some f ≡ Some found → f ≡ found
some_same f found e = cc

pub lower_stops : (o r : Option (ℕ × VerilogBinaryOperator)) (f : ℕ × VerilogBinaryOperator) (level : ℕ) → r ≡ o → r ≡ Some f → f.0 < level
    → (found : ℕ × VerilogBinaryOperator) → o ≡ Some found → found.0 < level
lower_stops o r f level is one below found some = subst (λ x. x.0 < level) (some_same f found (sym one ∙ is ∙ some)) below

pub conditional_is : (s : TokenSource) (a q p m n o b token : ℕ) (condition first second e : Expression) → IsBinary s 1 condition a q → token ≡ q
    → sign_at (tokens_of s) q sign.Question ≡ true → p ≡ behind (tokens_of s) q → AreAttributes s p m → IsExpression s first m n
    → sign_at (tokens_of s) n sign.Colon ≡ true → o ≡ behind (tokens_of s) n → IsExpression s second o b → e ≡ tree.Conditional token condition first second
    → IsExpression s e a b
conditional_is s a q p m n o b token condition first second e is t d v skipped one x w two i =
    rw (i, t) (grammar.chosen is d (subst (λ y. AreAttributes s y m) v skipped) one x (subst (λ y. IsExpression s second y b) w two))

pub level_is : (s : TokenSource) (level m : ℕ) (e : Expression) (a b : ℕ) → (level ≡ 0 → m ≡ 1) → (1 ≤ level → m ≡ level) → IsBinary s m e a b → IsLevel s level e a b
level_is s zero m e a b low high is = grammar.plain (subst (λ x. IsBinary s x e a b) (low refl) is)
level_is s (suc n) m e a b low high is = subst (λ x. IsBinary s x e a b) (high (omega arith)) is

pub ok_map : {A : Type 0} (P Q : A → Type 0) (result : Result A SyntaxStop) → ((e : A) → P e → Q e) → IfOk result P → IfOk result Q
ok_map P Q (Ok e) f h = f e h
ok_map P Q (Err e) f h = tt

-- ---- targets

pub path_target : (s : TokenSource) (a b : ℕ) (given e : program.VerilogExpression) → e ≡ given → IsPath s (plain_expression_of given) a b → IsTarget s (plain_expression_of e) a b
path_target s a b given e same is = subst (λ x. IsTarget s (plain_expression_of x) a b) (sym same) (grammar.one_target is)

pub braces_target : (s : TokenSource) (a b : ℕ) (given e : program.VerilogExpression) → e ≡ given → IsBraces s (plain_expression_of given) a b → IsTarget s (plain_expression_of e) a b
braces_target s a b given e same is = subst (λ x. IsTarget s (plain_expression_of x) a b) (sym same) (grammar.several_targets is)
