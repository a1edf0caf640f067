-- What expressions of the source mean, form by form.
use Rattle.std.proofs.Common.{◌≡◌, ℕ, Bool, true, false, List, [], ◌∷◌, ◌++◌, Option, Some, None, ℤ, take, length, refl, sym, ap, subst, ◌∙◌, append-nil}
use Rattle.std.specs.Box.{box_value}
use Rattle.std.specs.Prelude.{map, option_and_then, is_some}
use Rattle.logic4.specs.Vector.{Vector}
use Rattle.model.specs.Syntax as core
use Rattle.model.specs.Syntax.{Text}
use Rattle.syntax_tree.specs.declared.expressions.VerilogUnaryOperator.{VerilogUnaryOperator}
use Rattle.syntax_tree.specs.declared.expressions.VerilogBinaryOperator.{VerilogBinaryOperator}
use Rattle.syntax_tree.specs.declared.expressions.PartForm.{PartForm}
use Rattle.syntax_tree.specs.declared.expressions.VerilogExpression as program
use Rattle.syntax_tree.specs.declared.expressions.VerilogExpression.{fold-roll-VerilogExpression}
use Rattle.syntax_tree.specs.declared.expressions.VerilogExpression.TheOpen.{VerilogExpression-F}
use Rattle.syntax_tree.specs.declared.expressions.VerilogExpression.TheVariants as made
use Rattle.syntax_tree.specs.declared.expressions.VerilogExpression.TheVariants.{rolls-Number, rolls-Text, rolls-Name, rolls-Member, rolls-Index, rolls-Part, rolls-Call, rolls-SystemCall, rolls-Concatenation, rolls-Replication, rolls-Unary, rolls-Binary, rolls-Conditional}
use Rattle.syntax_tree.specs.declared.expressions.VerilogExpression.TheViews as view
use Rattle.syntax_tree.specs.Expressions.{Expression, plain_expression_of, plain_expressions, plain_expression_node}
use Rattle.shaped_trees.specs.declared.shape.Shape.{Shape}
use Rattle.shaped_trees.specs.declared.constants.Constant.{Constant}
use Rattle.shaped_trees.specs.Integers.{integer_of}
use Rattle.sizing.specs.declared.environment.Object.{Object}
use Rattle.sizing.specs.declared.concatenations.JoinedParts.{JoinedParts}
use Rattle.sizing.specs.Names.{Names, IsNamedObject}
use Rattle.sizing.specs.Meanings as means
use Rattle.sizing.specs.Meanings.{Meaning, meaning, meanings, named, member, number_meaning, alone_meaning, text_digits, conversion_of, system_by, converted, self_determined_value, constant_integer, scope_of_index}
use Rattle.sizing.specs.Typing.{IsTyped}
use Rattle.sizing.specs.Parts.{Joins}
use Rattle.sizing.specs.Results.{IsConstantOf}
use Rattle.sizing.proofs.Loops.{meant}
use Rattle.sizing.proofs.Naming.{named_typed, object_found, scope_found, member_object, member_scope, index_scope}

-- a tree that stands for a meaning stands for one that is the same
pub typed_as : (n : Names) (m k : Meaning) (shape : Shape) (tree : core.Expression Text) → m ≡ k → IsTyped n k shape tree → IsTyped n m shape tree
typed_as n m k shape tree e t = subst (λ (x : Meaning). IsTyped n x shape tree) (sym e) t

-- ---- operands

pub number_means : (n : Names) (e : program.VerilogExpression) (at : _) (sized signed cut : _) (digits : _) (v : Vector) → e ≡ made.Number at sized signed cut digits → v ≡ box_value digits
    → meaning n (plain_expression_of e) ≡ number_meaning sized signed v
number_means n e at sized signed cut digits v is same =
    ap (meaning n) (ap plain_expression_of (is ∙ sym (rolls-Number at sized signed cut digits)) ∙ fold-roll-VerilogExpression Expression plain_expression_node (VerilogExpression-F.Number at sized signed cut digits))
    ∙ ap (number_meaning sized signed) (sym same)

pub text_means : (n : Names) (e : program.VerilogExpression) (at : _) (bytes : _) (bs : List ℕ) → e ≡ made.Text at bytes → bs ≡ bytes.items
    → meaning n (plain_expression_of e) ≡ alone_meaning (length (text_digits bs)) false (λ values. text_digits bs)
text_means n e at bytes bs is same =
    ap (meaning n) (ap plain_expression_of (is ∙ sym (rolls-Text at bytes)) ∙ fold-roll-VerilogExpression Expression plain_expression_node (VerilogExpression-F.Text at bytes))
    ∙ ap (λ (cs : List ℕ). alone_meaning (length (text_digits cs)) false (λ values. text_digits cs)) (sym same)

pub name_means : (n : Names) (e : program.VerilogExpression) (at : _) (name : _) (word : List ℕ) → e ≡ made.Name at name → word ≡ name.items
    → meaning n (plain_expression_of e) ≡ named (n.scope None word) (n.object None word)
name_means n e at name word is same =
    ap (meaning n) (ap plain_expression_of (is ∙ sym (rolls-Name at name)) ∙ fold-roll-VerilogExpression Expression plain_expression_node (VerilogExpression-F.Name at name))
    ∙ ap (λ (w : List ℕ). named (n.scope None w) (n.object None w)) (sym same)

pub member_means : (n : Names) (e : program.VerilogExpression) (at : _) (scope : _) (name : _) (s : program.VerilogExpression) (word : List ℕ) → e ≡ view.Member at scope name → s ≡ box_value scope
    → word ≡ name.items → meaning n (plain_expression_of e) ≡ member n (meaning n (plain_expression_of s)) word
member_means n e at scope name s word is inner same =
    ap (meaning n) (ap plain_expression_of (is ∙ sym (rolls-Member at scope name)) ∙ fold-roll-VerilogExpression Expression plain_expression_node (VerilogExpression-F.Member at scope name))
    ∙ (λ i. member n (meaning n (plain_expression_of (sym inner i))) (sym same i))

pub call_means : (n : Names) (e : program.VerilogExpression) (at : _) (function : _) (arguments : _) → e ≡ view.Call at function arguments
    → meaning n (plain_expression_of e) ≡ named (λ index. None) (n.call at)
call_means n e at function arguments is =
    ap (meaning n) (ap plain_expression_of (is ∙ sym (rolls-Call at function arguments)) ∙ fold-roll-VerilogExpression Expression plain_expression_node (VerilogExpression-F.Call at function arguments))

-- ---- selects

pub index_means : (n : Names) (e : program.VerilogExpression) (at : _) (base : _) (index : _) (b x : program.VerilogExpression) → e ≡ view.Index at base index → b ≡ box_value base → x ≡ box_value index
    → meaning n (plain_expression_of e) ≡ means.index (meaning n (plain_expression_of b)) (meaning n (plain_expression_of x))
index_means n e at base index b x is p q =
    ap (meaning n) (ap plain_expression_of (is ∙ sym (rolls-Index at base index)) ∙ fold-roll-VerilogExpression Expression plain_expression_node (VerilogExpression-F.Index at base index))
    ∙ (λ i. means.index (meaning n (plain_expression_of (sym p i))) (meaning n (plain_expression_of (sym q i))))

pub part_means : (n : Names) (e : program.VerilogExpression) (at : _) (form : PartForm) (base : _) (first : _) (second : _) (b x y : program.VerilogExpression) → e ≡ view.Part at form base first second
    → b ≡ box_value base → x ≡ box_value first → y ≡ box_value second
    → meaning n (plain_expression_of e) ≡ means.part form (meaning n (plain_expression_of b)) (meaning n (plain_expression_of x)) (meaning n (plain_expression_of y))
part_means n e at form base first second b x y is p q r =
    ap (meaning n) (ap plain_expression_of (is ∙ sym (rolls-Part at form base first second)) ∙ fold-roll-VerilogExpression Expression plain_expression_node (VerilogExpression-F.Part at form base first second))
    ∙ (λ i. means.part form (meaning n (plain_expression_of (sym p i))) (meaning n (plain_expression_of (sym q i))) (meaning n (plain_expression_of (sym r i))))

-- ---- operations

pub concatenation_means : (n : Names) (e : program.VerilogExpression) (at : _) (parts : _) (xs : List program.VerilogExpression) → e ≡ view.Concatenation at parts → xs ≡ parts.items
    → meaning n (plain_expression_of e) ≡ means.concatenation (meant n xs)
concatenation_means n e at parts xs is same =
    ap (meaning n) (ap plain_expression_of (is ∙ sym (rolls-Concatenation at parts)) ∙ fold-roll-VerilogExpression Expression plain_expression_node (VerilogExpression-F.Concatenation at parts))
    ∙ ap (λ (ys : List program.VerilogExpression). means.concatenation (meant n ys)) (sym same)

pub replication_means : (n : Names) (e : program.VerilogExpression) (at : _) (count : _) (parts : _) (x : program.VerilogExpression) (xs : List program.VerilogExpression) → e ≡ view.Replication at count parts
    → x ≡ box_value count → xs ≡ parts.items → meaning n (plain_expression_of e) ≡ means.replication (meaning n (plain_expression_of x)) (meant n xs)
replication_means n e at count parts x xs is p same =
    ap (meaning n) (ap plain_expression_of (is ∙ sym (rolls-Replication at count parts)) ∙ fold-roll-VerilogExpression Expression plain_expression_node (VerilogExpression-F.Replication at count parts))
    ∙ (λ i. means.replication (meaning n (plain_expression_of (sym p i))) (meant n (sym same i)))

pub unary_means : (n : Names) (e : program.VerilogExpression) (at : _) (op : VerilogUnaryOperator) (operand : _) (x : program.VerilogExpression) → e ≡ view.Unary at op operand → x ≡ box_value operand
    → meaning n (plain_expression_of e) ≡ means.unary op (meaning n (plain_expression_of x))
unary_means n e at op operand x is p =
    ap (meaning n) (ap plain_expression_of (is ∙ sym (rolls-Unary at op operand)) ∙ fold-roll-VerilogExpression Expression plain_expression_node (VerilogExpression-F.Unary at op operand))
    ∙ (λ i. means.unary op (meaning n (plain_expression_of (sym p i))))

pub binary_means : (n : Names) (e : program.VerilogExpression) (at : _) (op : VerilogBinaryOperator) (left : _) (right : _) (x y : program.VerilogExpression) → e ≡ view.Binary at op left right
    → x ≡ box_value left → y ≡ box_value right → meaning n (plain_expression_of e) ≡ means.binary op (meaning n (plain_expression_of x)) (meaning n (plain_expression_of y))
binary_means n e at op left right x y is p q =
    ap (meaning n) (ap plain_expression_of (is ∙ sym (rolls-Binary at op left right)) ∙ fold-roll-VerilogExpression Expression plain_expression_node (VerilogExpression-F.Binary at op left right))
    ∙ (λ i. means.binary op (meaning n (plain_expression_of (sym p i))) (meaning n (plain_expression_of (sym q i))))

pub conditional_means : (n : Names) (e : program.VerilogExpression) (at : _) (condition : _) (first : _) (second : _) (c x y : program.VerilogExpression) → e ≡ view.Conditional at condition first second
    → c ≡ box_value condition → x ≡ box_value first → y ≡ box_value second
    → meaning n (plain_expression_of e) ≡ means.chosen_meaning (meaning n (plain_expression_of c)) (meaning n (plain_expression_of x)) (meaning n (plain_expression_of y))
conditional_means n e at condition first second c x y is p q r =
    ap (meaning n) (ap plain_expression_of (is ∙ sym (rolls-Conditional at condition first second)) ∙ fold-roll-VerilogExpression Expression plain_expression_node (VerilogExpression-F.Conditional at condition first second))
    ∙ (λ i. means.chosen_meaning (meaning n (plain_expression_of (sym p i))) (meaning n (plain_expression_of (sym q i))) (meaning n (plain_expression_of (sym r i))))

-- a system function of one operand
pub system_means : (n : Names) (e : program.VerilogExpression) (at : _) (name : _) (arguments : _) (word : List ℕ) (found : Option Bool) (signed : Bool) (xs : List program.VerilogExpression) (x : program.VerilogExpression)
    → e ≡ view.SystemCall at name arguments → word ≡ name.items → found ≡ Some signed → found ≡ conversion_of word → xs ≡ arguments.items → map plain_expression_of xs ≡ plain_expression_of x ∷ []
    → meaning n (plain_expression_of e) ≡ alone_meaning (meaning n (plain_expression_of x)).size signed (self_determined_value (meaning n (plain_expression_of x)))
system_means n e at name arguments word found signed xs x is same taken conversion list only =
    ap (meaning n) (ap plain_expression_of (is ∙ sym (rolls-SystemCall at name arguments)) ∙ fold-roll-VerilogExpression Expression plain_expression_node (VerilogExpression-F.SystemCall at name arguments))
    ∙ (λ i. system_by (conversion_of (sym same i)) (meant n (sym list i)))
    ∙ ap (λ c. system_by c (meant n xs)) (sym conversion ∙ taken)
    ∙ ap (λ es. converted signed (meanings n (plain_expressions es))) only

-- ---- names

-- a tree of the object that a name means
module _ (n : Names) (o : Object) (shape : Shape) (tree : core.Expression Text) (by : IsNamedObject n o)
    (told : (scope : Option ℤ → Option ℕ) → IsNamedObject n o → IsTyped n (named scope (Some o)) shape tree) where
  whole_typed : (m : Meaning) (s : Option ℤ → Option ℕ) (x : Option Object) → m ≡ named s x → m.object ≡ Some o → IsTyped n m shape tree
  whole_typed m s x is object = typed_as n m (named s x) shape tree is (named_typed n s x o shape tree (sym (ap (λ (k : Meaning). k.object) is) ∙ object) (told s by))

  pub name_typed : (e : program.VerilogExpression) (at : _) (name : _) → e ≡ made.Name at name → (meaning n (plain_expression_of e)).object ≡ Some o → IsTyped n (meaning n (plain_expression_of e)) shape tree
  name_typed e at name is object =
      whole_typed (meaning n (plain_expression_of e)) (n.scope None name.items) (n.object None name.items) (name_means n e at name name.items is refl) object

  pub member_typed : (e : program.VerilogExpression) (at : _) (scope : _) (name : _) → e ≡ view.Member at scope name → (meaning n (plain_expression_of e)).object ≡ Some o
      → IsTyped n (meaning n (plain_expression_of e)) shape tree
  member_typed e at scope name is object =
      let base : Meaning = meaning n (plain_expression_of (box_value scope)) in
      whole_typed (meaning n (plain_expression_of e)) (λ index. option_and_then (λ k. n.scope (Some k) name.items index) (base.scope None))
      (option_and_then (λ k. n.object (Some k) name.items) (base.scope None)) (member_means n e at scope name (box_value scope) name.items is refl refl) object

  pub call_typed : (e : program.VerilogExpression) (at : _) (function : _) (arguments : _) → e ≡ view.Call at function arguments → (meaning n (plain_expression_of e)).object ≡ Some o
      → IsTyped n (meaning n (plain_expression_of e)) shape tree
  call_typed e at function arguments is object =
      whole_typed (meaning n (plain_expression_of e)) (λ index. None) (n.call at) (call_means n e at function arguments is) object

pub name_object : (n : Names) (e : program.VerilogExpression) (at : _) (name : _) (word : List ℕ) (o : Object) → e ≡ made.Name at name → word ≡ name.items → n.object None word ≡ Some o
    → (meaning n (plain_expression_of e)).object ≡ Some o
name_object n e at name word o is same h =
    ap (λ (m : Meaning). m.object) (name_means n e at name word is same) ∙ object_found (n.scope None word) (n.object None word) o h

pub member_object_of : (n : Names) (e : program.VerilogExpression) (at : _) (scope : _) (name : _) (s : program.VerilogExpression) (word : List ℕ) (k : ℕ) (o : Object) → e ≡ view.Member at scope name
    → s ≡ box_value scope → word ≡ name.items → (meaning n (plain_expression_of s)).scope None ≡ Some k → n.object (Some k) word ≡ Some o → (meaning n (plain_expression_of e)).object ≡ Some o
member_object_of n e at scope name s word k o is inner same h g =
    ap (λ (m : Meaning). m.object) (member_means n e at scope name s word is inner same) ∙ member_object n (meaning n (plain_expression_of s)) word k o h g

pub call_object : (n : Names) (e : program.VerilogExpression) (at : _) (function : _) (arguments : _) (o : Object) → e ≡ view.Call at function arguments → n.call at ≡ Some o
    → (meaning n (plain_expression_of e)).object ≡ Some o
call_object n e at function arguments o is h =
    ap (λ (m : Meaning). m.object) (call_means n e at function arguments is) ∙ object_found (λ index. None) (n.call at) o h

pub name_scope : (n : Names) (e : program.VerilogExpression) (at : _) (name : _) (word : List ℕ) (index : Option ℤ) (k : ℕ) → e ≡ made.Name at name → word ≡ name.items
    → n.scope None word index ≡ Some k → (meaning n (plain_expression_of e)).scope index ≡ Some k
name_scope n e at name word index k is same h =
    ap (λ (m : Meaning). m.scope index) (name_means n e at name word is same) ∙ scope_found (n.scope None word) (n.object None word) index (Some k) h

pub member_scope_of : (n : Names) (e : program.VerilogExpression) (at : _) (scope : _) (name : _) (s : program.VerilogExpression) (word : List ℕ) (index : Option ℤ) (j k : ℕ)
    → e ≡ view.Member at scope name → s ≡ box_value scope → word ≡ name.items → (meaning n (plain_expression_of s)).scope None ≡ Some j → n.scope (Some j) word index ≡ Some k
    → (meaning n (plain_expression_of e)).scope index ≡ Some k
member_scope_of n e at scope name s word index j k is inner same h g =
    ap (λ (m : Meaning). m.scope index) (member_means n e at scope name s word is inner same) ∙ member_scope n (meaning n (plain_expression_of s)) word j index k h g

index_scope_by : (base i : Meaning) (number : Option ℤ) (k : ℕ) → is_some number ≡ true → number ≡ constant_integer i → base.scope number ≡ Some k → scope_of_index base i None ≡ Some k
index_scope_by base i None k there h g = absurd (cc)
index_scope_by base i (Some z) k there h g = index_scope base i z k h g

pub index_scope_of : (n : Names) (e : program.VerilogExpression) (at : _) (base : _) (inner : _) (b x : program.VerilogExpression) (index number : Option ℤ) (k : ℕ) → e ≡ view.Index at base inner
    → b ≡ box_value base → x ≡ box_value inner → index ≡ None → is_some number ≡ true → number ≡ constant_integer (meaning n (plain_expression_of x))
    → (meaning n (plain_expression_of b)).scope number ≡ Some k → (meaning n (plain_expression_of e)).scope index ≡ Some k
index_scope_of n e at base inner b x index number k is p q none there h g =
    (λ i. (index_means n e at base inner b x is p q i).scope (none i)) ∙ index_scope_by (meaning n (plain_expression_of b)) (meaning n (plain_expression_of x)) number k there h g

-- no index stands behind a name
pub no_index : (index : Option ℤ) → is_some index ≡ false → index ≡ None
no_index None h = refl
no_index (Some i) h = absurd (cc)

-- ---- parts

pub parts_told : (n : Names) (xs : List program.VerilogExpression) (x : program.VerilogExpression) (ys : List program.VerilogExpression) (p : JoinedParts) → xs ≡ x ∷ ys
    → Joins n ((meaning n (plain_expression_of x) ∷ []) ++ meant n ys) p → Joins n (meant n xs) p
parts_told n xs x ys p e j = subst (λ (zs : List program.VerilogExpression). Joins n (meant n zs) p) (sym e) j

pub no_parts : (n : Names) (ms : List Meaning) (xs : List program.VerilogExpression) (p : JoinedParts) → Joins n ms p → Joins n (ms ++ meant n (take 0 xs)) p
no_parts n ms xs p j = subst (λ (ks : List Meaning). Joins n ks p) (sym (append-nil ms)) j

-- ---- constants

pub integer_is : (m : Meaning) (c : Constant) (i : Option ℤ) → i ≡ integer_of c.signed c.digits → IsConstantOf m c → i ≡ constant_integer m
integer_is m c i h is = h ∙ (λ k. integer_of (is.sign k) (is.digits.digits k))
