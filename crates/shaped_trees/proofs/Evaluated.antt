-- The sizes and values of trees of constants.
use Rattle.std.proofs.Common.{◌≡◌, ℕ, suc, ◌+◌, ◌<◌, ◌≤◌, max, Bool, true, false, not, List, ◌∷◌, ◌++◌, map, length, get_or, drop, drop-cons, add-one, refl, sym, ap, subst, ◌∙◌, arith, append_assoc}
use Rattle.std.proofs.lemmas.List.{drop_all}
use Rattle.logic4.specs.declared.digit.Extension.{Extension}
use Rattle.logic4.specs.Vector.{Vector, resize}
use Rattle.logic4.specs.Extensions.{extend_vector}
use Rattle.logic4.specs.Operators.{not_digit, bool_digit, concat_vector, truth, conditional}
use Rattle.model.specs.declared.tree.UnaryOperator.{UnaryOperator}
use Rattle.model.specs.declared.tree.BinaryOperator.{BinaryOperator}
use Rattle.model.specs.declared.tree.SourceExpression as program
use Rattle.model.specs.Syntax as core
use Rattle.model.specs.Syntax.{Text}
use Rattle.model.specs.SourceTrees.{source_expression_of, source_expressions}
use Rattle.model.specs.Elaboration.{all_resolved}
use Rattle.model.specs.Expressions as model
use Rattle.model.specs.Expressions.{BothAsked, LeftAsked, Greatest, EachOwn, sizing_of, result_size, left_size, right_size, unary_value, binary_value}
use Rattle.shaped_trees.specs.declared.evaluation.Sizes.{Sizes}
use Rattle.shaped_trees.specs.Trees.{size_in, tree_value}
use Rattle.shaped_trees.specs.Constants.{IsConstantTree, AreConstantTrees, HasSize, HasValue, HasTotal, HasDigits, IsOperandSize, AreSizes}

pub not_bool : (b : Bool) → not_digit (bool_digit b) ≡ bool_digit (not b)
not_bool true = refl
not_bool false = refl

-- ---- sizes

pub has_concat : (f : core.Expression Text) (es : core.Expressions Text) (a s : ℕ) → HasSize f a → HasTotal a es s → HasSize (core.Concat (core.Also f es)) s
has_concat f es a s p q = λ r. ap (λ k. k + model.total_size r.widths (all_resolved r.declared es)) (p r) ∙ sym (q r)

pub has_both : (op : BinaryOperator) (e f : core.Expression Text) (a b s : ℕ) → sizing_of op ≡ BothAsked → HasSize e a → HasSize f b → s ≡ max a b → HasSize (core.Binary op e f) s
has_both op e f a b s h p q is = λ r. ap (λ t. result_size t (size_in r e) (size_in r f)) h ∙ (λ k. max (p r k) (q r k)) ∙ sym is

pub has_left : (op : BinaryOperator) (e f : core.Expression Text) (a : ℕ) → sizing_of op ≡ LeftAsked → HasSize e a → HasSize (core.Binary op e f) a
has_left op e f a h p = λ r. ap (λ t. result_size t (size_in r e) (size_in r f)) h ∙ p r

pub has_one_compared : (op : BinaryOperator) (e f : core.Expression Text) (s : ℕ) → sizing_of op ≡ Greatest → s ≡ 1 → HasSize (core.Binary op e f) s
has_one_compared op e f s h is = λ r. ap (λ t. result_size t (size_in r e) (size_in r f)) h ∙ sym is

pub has_one_decided : (op : BinaryOperator) (e f : core.Expression Text) (s : ℕ) → sizing_of op ≡ EachOwn → s ≡ 1 → HasSize (core.Binary op e f) s
has_one_decided op e f s h is = λ r. ap (λ t. result_size t (size_in r e) (size_in r f)) h ∙ sym is

pub has_conditional : (c e f : core.Expression Text) (a b s : ℕ) → HasSize e a → HasSize f b → s ≡ max a b → HasSize (core.Conditional c e f) s
has_conditional c e f a b s p q is = λ r. (λ k. max (p r k) (q r k)) ∙ sym is

pub sizes_both : (op : BinaryOperator) (asked : ℕ) (e f : core.Expression Text) (s : Sizes) → sizing_of op ≡ BothAsked → s.left ≡ asked → s.right ≡ asked → AreSizes op asked e f s
sizes_both op asked e f s h p q = record {
  left = λ r. ap (λ t. left_size t asked (size_in r e) (size_in r f)) h ∙ sym p;
  right = λ r. ap (λ t. right_size t asked (size_in r e) (size_in r f)) h ∙ sym q;
}

pub sizes_left : (op : BinaryOperator) (asked b : ℕ) (e f : core.Expression Text) (s : Sizes) → sizing_of op ≡ LeftAsked → HasSize f b → s.left ≡ asked → s.right ≡ b → AreSizes op asked e f s
sizes_left op asked b e f s h g p q = record {
  left = λ r. ap (λ t. left_size t asked (size_in r e) (size_in r f)) h ∙ sym p;
  right = λ r. ap (λ t. right_size t asked (size_in r e) (size_in r f)) h ∙ g r ∙ sym q;
}

pub sizes_compared : (op : BinaryOperator) (asked a b c : ℕ) (e f : core.Expression Text) (s : Sizes) → sizing_of op ≡ Greatest → HasSize e a → HasSize f b → c ≡ max a b
    → s.left ≡ c → s.right ≡ c → AreSizes op asked e f s
sizes_compared op asked a b c e f s h g k is p q = record {
  left = λ r. ap (λ t. left_size t asked (size_in r e) (size_in r f)) h ∙ (λ i. max (g r i) (k r i)) ∙ sym is ∙ sym p;
  right = λ r. ap (λ t. right_size t asked (size_in r e) (size_in r f)) h ∙ (λ i. max (g r i) (k r i)) ∙ sym is ∙ sym q;
}

pub sizes_decided : (op : BinaryOperator) (asked a b : ℕ) (e f : core.Expression Text) (s : Sizes) → sizing_of op ≡ EachOwn → HasSize e a → HasSize f b
    → s.left ≡ a → s.right ≡ b → AreSizes op asked e f s
sizes_decided op asked a b e f s h g k p q = record {
  left = λ r. ap (λ t. left_size t asked (size_in r e) (size_in r f)) h ∙ g r ∙ sym p;
  right = λ r. ap (λ t. right_size t asked (size_in r e) (size_in r f)) h ∙ k r ∙ sym q;
}

-- ---- values

pub value_concat : (f : core.Expression Text) (es : core.Expressions Text) (a asked : ℕ) (v all u : Vector) → HasSize f a → HasValue f a v → HasDigits v es all
    → u ≡ resize asked all → HasValue (core.Concat (core.Also f es)) asked u
value_concat f es a asked v all u p q d is = λ r.
    ap (λ k. resize asked (concat_vector (tree_value r k f) (model.joined r.widths r.store (all_resolved r.declared es)))) (p r)
    ∙ ap (λ w. resize asked (concat_vector w (model.joined r.widths r.store (all_resolved r.declared es)))) (q r)
    ∙ ap (resize asked) (sym (d r)) ∙ sym is

pub value_unary : (op : UnaryOperator) (e : core.Expression Text) (asked s : ℕ) (v u : Vector) → IsOperandSize op asked e s → HasValue e s v → u ≡ unary_value op asked v
    → HasValue (core.Unary op e) asked u
value_unary op e asked s v u p q is = λ r. ap (λ k. unary_value op asked (tree_value r k e)) (p r) ∙ ap (unary_value op asked) (q r) ∙ sym is

pub value_binary : (op : BinaryOperator) (e f : core.Expression Text) (asked : ℕ) (s : Sizes) (v w u : Vector) → AreSizes op asked e f s → HasValue e s.left v → HasValue f s.right w
    → u ≡ binary_value op asked v w → HasValue (core.Binary op e f) asked u
value_binary op e f asked s v w u p q t is = λ r.
    (λ k. binary_value op asked (tree_value r (p.left r k) e) (tree_value r (p.right r k) f)) ∙ (λ k. binary_value op asked (q r k) (t r k)) ∙ sym is

pub value_conditional : (c e f : core.Expression Text) (a asked : ℕ) (t v w u : Vector) → HasSize c a → HasValue c a t → HasValue e asked v → HasValue f asked w
    → u ≡ conditional (truth t) v w → HasValue (core.Conditional c e f) asked u
value_conditional c e f a asked t v w u p q s x is = λ r.
    ap (λ k. conditional (truth (tree_value r k c)) (tree_value r asked e) (tree_value r asked f)) (p r)
    ∙ (λ k. conditional (truth (q r k)) (s r k) (x r k)) ∙ sym is

pub value_extend : (by : Extension) (size : ℕ) (e : core.Expression Text) (a asked : ℕ) (v x u : Vector) → HasSize e a → HasValue e a v → x ≡ extend_vector by size v
    → u ≡ resize asked x → HasValue (core.Extend by size e) asked u
value_extend by size e a asked v x u p q is at = λ r.
    ap (λ k. resize asked (extend_vector by size (tree_value r k e))) (p r) ∙ ap (λ w. resize asked (extend_vector by size w)) (q r) ∙ ap (resize asked) (sym is) ∙ sym at

-- ---- loops over parts

-- the part at a place, and those behind it
next_of : (xs : List program.SourceExpression) (i : ℕ) (x : program.SourceExpression) → i < length xs → x ≡ get_or xs i x → drop i xs ≡ x ∷ drop (i + 1) xs
next_of xs i x h e = rw add-one (drop-cons xs i x h ∙ ap (λ y. y ∷ drop (suc i) xs) (sym e))

-- the trees of parts
abbrev pub trees : List program.SourceExpression → core.Expressions Text
trees xs = source_expressions (map source_expression_of xs)

pub total_more : (xs : List program.SourceExpression) (i : ℕ) (x : program.SourceExpression) (size own next : ℕ) → i < length xs → x ≡ get_or xs i x
    → HasSize (source_expression_of x) own → next ≡ size + own → (s : ℕ) → HasTotal next (trees (drop (i + 1) xs)) s → HasTotal size (trees (drop i xs)) s
total_more xs i x size own next h e p is s t = λ r.
    let rest : ℕ = model.total_size r.widths (all_resolved r.declared (trees (drop (i + 1) xs))) in
    let sum : s ≡ size + (size_in r (source_expression_of x) + rest) = omega (arith, t r, is, p r) in
    sum ∙ ap (λ ys. size + model.total_size r.widths (all_resolved r.declared (trees ys))) (sym (next_of xs i x h e))

pub total_end : (xs : List program.SourceExpression) (i size : ℕ) → length xs ≤ i → HasTotal size (trees (drop i xs)) size
total_end xs i size h = λ r.
    let none : size ≡ size + 0 = omega arith in
    none ∙ ap (λ ys. size + model.total_size r.widths (all_resolved r.declared (trees ys))) (sym (drop_all i xs h))

pub digits_more : (xs : List program.SourceExpression) (i : ℕ) (x : program.SourceExpression) (digits low next : Vector) (a : ℕ) → i < length xs → x ≡ get_or xs i x
    → HasSize (source_expression_of x) a → HasValue (source_expression_of x) a low → next ≡ concat_vector digits low
    → (v : Vector) → HasDigits next (trees (drop (i + 1) xs)) v → HasDigits digits (trees (drop i xs)) v
digits_more xs i x digits low next a h e p q is v d = λ r.
    let rest : Vector = model.joined r.widths r.store (all_resolved r.declared (trees (drop (i + 1) xs))) in
    let part : tree_value r (size_in r (source_expression_of x)) (source_expression_of x) ≡ low = ap (λ k. tree_value r k (source_expression_of x)) (p r) ∙ q r in
    d r ∙ ap (λ w. rest ++ w) is ∙ sym (append_assoc rest low digits) ∙ ap (λ w. (rest ++ w) ++ digits) (sym part)
    ∙ ap (λ ys. model.joined r.widths r.store (all_resolved r.declared (trees ys)) ++ digits) (sym (next_of xs i x h e))

pub digits_end : (xs : List program.SourceExpression) (i : ℕ) (digits : Vector) → length xs ≤ i → HasDigits digits (trees (drop i xs)) digits
digits_end xs i digits h = λ r. ap (λ ys. model.joined r.widths r.store (all_resolved r.declared (trees ys)) ++ digits) (sym (drop_all i xs h))

pub closed_more : (xs : List program.SourceExpression) (i : ℕ) (x : program.SourceExpression) → i < length xs → x ≡ get_or xs i x → IsConstantTree (source_expression_of x)
    → AreConstantTrees (trees (drop (i + 1) xs)) → AreConstantTrees (trees (drop i xs))
closed_more xs i x h e c cs = subst (λ ys. AreConstantTrees (trees ys)) (sym (next_of xs i x h e)) (c, cs)

pub closed_end : (xs : List program.SourceExpression) (i : ℕ) → length xs ≤ i → AreConstantTrees (trees (drop i xs))
closed_end xs i h = subst (λ ys. AreConstantTrees (trees ys)) (sym (drop_all i xs h)) tt
