-- A node whose parts are copies is a copy, form by form.
use Rattle.std.proofs.Common.{◌≡◌, List, map, sym, ap, ◌∙◌}
use Rattle.std.specs.Box.{box_value}
use Rattle.std.specs.declared.alloc.Global.{Global}
use Rattle.std.specs.declared.vec.Vec.{Vec}
use Rattle.syntax_tree.specs.declared.expressions.VerilogExpression as program
use Rattle.syntax_tree.specs.declared.expressions.VerilogExpression.{fold-roll-VerilogExpression}
use Rattle.syntax_tree.specs.declared.expressions.VerilogExpression.TheOpen.{VerilogExpression-F}
use Rattle.syntax_tree.specs.declared.expressions.VerilogExpression.TheVariants.{rolls-Index, rolls-Part, rolls-Call, rolls-Concatenation, rolls-Replication, rolls-Unary, rolls-Binary, rolls-Conditional}
use Rattle.syntax_tree.specs.declared.expressions.VerilogExpression.TheViews as view
use Rattle.syntax_tree.specs.Expressions as source
use Rattle.syntax_tree.specs.Expressions.{Expression, plain_expression_of, plain_expressions, plain_expression_node}

-- an index
pub index_copied : (e : program.VerilogExpression) (at : _) (base : _) (index : _) (base' : _) (index' : _) (b x : program.VerilogExpression)
    → e ≡ view.Index at base index → b ≡ box_value base → x ≡ box_value index → plain_expression_of (box_value base') ≡ plain_expression_of b → plain_expression_of (box_value index') ≡ plain_expression_of x
    → plain_expression_of (view.Index at base' index') ≡ plain_expression_of e
index_copied e at base index base' index' b x is p q f g =
    let base_same : plain_expression_of (box_value base') ≡ plain_expression_of (box_value base) = f ∙ ap plain_expression_of p in
    let index_same : plain_expression_of (box_value index') ≡ plain_expression_of (box_value index) = g ∙ ap plain_expression_of q in
    ap plain_expression_of (sym (rolls-Index at base' index')) ∙ fold-roll-VerilogExpression Expression plain_expression_node (VerilogExpression-F.Index at base' index')
    ∙ (λ i. source.Index at (base_same i) (index_same i))
    ∙ sym (ap plain_expression_of (is ∙ sym (rolls-Index at base index)) ∙ fold-roll-VerilogExpression Expression plain_expression_node (VerilogExpression-F.Index at base index))

-- a part select
pub part_copied : (e : program.VerilogExpression) (at : _) (form : _) (base : _) (first : _) (second : _) (base' : _) (first' : _) (second' : _) (b x y : program.VerilogExpression)
    → e ≡ view.Part at form base first second → b ≡ box_value base → x ≡ box_value first → y ≡ box_value second → plain_expression_of (box_value base') ≡ plain_expression_of b → plain_expression_of (box_value first') ≡ plain_expression_of x → plain_expression_of (box_value second') ≡ plain_expression_of y
    → plain_expression_of (view.Part at form base' first' second') ≡ plain_expression_of e
part_copied e at form base first second base' first' second' b x y is p q r f g h =
    let base_same : plain_expression_of (box_value base') ≡ plain_expression_of (box_value base) = f ∙ ap plain_expression_of p in
    let first_same : plain_expression_of (box_value first') ≡ plain_expression_of (box_value first) = g ∙ ap plain_expression_of q in
    let second_same : plain_expression_of (box_value second') ≡ plain_expression_of (box_value second) = h ∙ ap plain_expression_of r in
    ap plain_expression_of (sym (rolls-Part at form base' first' second')) ∙ fold-roll-VerilogExpression Expression plain_expression_node (VerilogExpression-F.Part at form base' first' second')
    ∙ (λ i. source.Part at form (base_same i) (first_same i) (second_same i))
    ∙ sym (ap plain_expression_of (is ∙ sym (rolls-Part at form base first second)) ∙ fold-roll-VerilogExpression Expression plain_expression_node (VerilogExpression-F.Part at form base first second))

-- a call
pub call_copied : (e : program.VerilogExpression) (at : _) (function : _) (arguments : Vec program.VerilogExpression Global) (function' : _) (arguments' : Vec program.VerilogExpression Global) (b : program.VerilogExpression) (xs : List program.VerilogExpression)
    → e ≡ view.Call at function arguments → b ≡ box_value function → xs ≡ arguments.items → plain_expression_of (box_value function') ≡ plain_expression_of b → map plain_expression_of arguments'.items ≡ map plain_expression_of xs
    → plain_expression_of (view.Call at function' arguments') ≡ plain_expression_of e
call_copied e at function arguments function' arguments' b xs is p same f k =
    let function_same : plain_expression_of (box_value function') ≡ plain_expression_of (box_value function) = f ∙ ap plain_expression_of p in
    let arguments_same : map plain_expression_of arguments'.items ≡ map plain_expression_of arguments.items = k ∙ ap (map plain_expression_of) same in
    ap plain_expression_of (sym (rolls-Call at function' arguments')) ∙ fold-roll-VerilogExpression Expression plain_expression_node (VerilogExpression-F.Call at function' arguments')
    ∙ (λ i. source.Call at (function_same i) (plain_expressions (arguments_same i)))
    ∙ sym (ap plain_expression_of (is ∙ sym (rolls-Call at function arguments)) ∙ fold-roll-VerilogExpression Expression plain_expression_node (VerilogExpression-F.Call at function arguments))

-- a concatenation
pub concatenation_copied : (e : program.VerilogExpression) (at : _) (parts : Vec program.VerilogExpression Global) (parts' : Vec program.VerilogExpression Global) (xs : List program.VerilogExpression)
    → e ≡ view.Concatenation at parts → xs ≡ parts.items → map plain_expression_of parts'.items ≡ map plain_expression_of xs
    → plain_expression_of (view.Concatenation at parts') ≡ plain_expression_of e
concatenation_copied e at parts parts' xs is same k =
    let parts_same : map plain_expression_of parts'.items ≡ map plain_expression_of parts.items = k ∙ ap (map plain_expression_of) same in
    ap plain_expression_of (sym (rolls-Concatenation at parts')) ∙ fold-roll-VerilogExpression Expression plain_expression_node (VerilogExpression-F.Concatenation at parts')
    ∙ (λ i. source.Concatenation at (plain_expressions (parts_same i)))
    ∙ sym (ap plain_expression_of (is ∙ sym (rolls-Concatenation at parts)) ∙ fold-roll-VerilogExpression Expression plain_expression_node (VerilogExpression-F.Concatenation at parts))

-- a replication
pub replication_copied : (e : program.VerilogExpression) (at : _) (count : _) (parts : Vec program.VerilogExpression Global) (count' : _) (parts' : Vec program.VerilogExpression Global) (b : program.VerilogExpression) (xs : List program.VerilogExpression)
    → e ≡ view.Replication at count parts → b ≡ box_value count → xs ≡ parts.items → plain_expression_of (box_value count') ≡ plain_expression_of b → map plain_expression_of parts'.items ≡ map plain_expression_of xs
    → plain_expression_of (view.Replication at count' parts') ≡ plain_expression_of e
replication_copied e at count parts count' parts' b xs is p same f k =
    let count_same : plain_expression_of (box_value count') ≡ plain_expression_of (box_value count) = f ∙ ap plain_expression_of p in
    let parts_same : map plain_expression_of parts'.items ≡ map plain_expression_of parts.items = k ∙ ap (map plain_expression_of) same in
    ap plain_expression_of (sym (rolls-Replication at count' parts')) ∙ fold-roll-VerilogExpression Expression plain_expression_node (VerilogExpression-F.Replication at count' parts')
    ∙ (λ i. source.Replication at (count_same i) (plain_expressions (parts_same i)))
    ∙ sym (ap plain_expression_of (is ∙ sym (rolls-Replication at count parts)) ∙ fold-roll-VerilogExpression Expression plain_expression_node (VerilogExpression-F.Replication at count parts))

-- an operator before an operand
pub unary_copied : (e : program.VerilogExpression) (at : _) (op : _) (operand : _) (operand' : _) (b : program.VerilogExpression)
    → e ≡ view.Unary at op operand → b ≡ box_value operand → plain_expression_of (box_value operand') ≡ plain_expression_of b
    → plain_expression_of (view.Unary at op operand') ≡ plain_expression_of e
unary_copied e at op operand operand' b is p f =
    let operand_same : plain_expression_of (box_value operand') ≡ plain_expression_of (box_value operand) = f ∙ ap plain_expression_of p in
    ap plain_expression_of (sym (rolls-Unary at op operand')) ∙ fold-roll-VerilogExpression Expression plain_expression_node (VerilogExpression-F.Unary at op operand')
    ∙ (λ i. source.Unary at op (operand_same i))
    ∙ sym (ap plain_expression_of (is ∙ sym (rolls-Unary at op operand)) ∙ fold-roll-VerilogExpression Expression plain_expression_node (VerilogExpression-F.Unary at op operand))

-- an operator between two operands
pub binary_copied : (e : program.VerilogExpression) (at : _) (op : _) (left : _) (right : _) (left' : _) (right' : _) (b x : program.VerilogExpression)
    → e ≡ view.Binary at op left right → b ≡ box_value left → x ≡ box_value right → plain_expression_of (box_value left') ≡ plain_expression_of b → plain_expression_of (box_value right') ≡ plain_expression_of x
    → plain_expression_of (view.Binary at op left' right') ≡ plain_expression_of e
binary_copied e at op left right left' right' b x is p q f g =
    let left_same : plain_expression_of (box_value left') ≡ plain_expression_of (box_value left) = f ∙ ap plain_expression_of p in
    let right_same : plain_expression_of (box_value right') ≡ plain_expression_of (box_value right) = g ∙ ap plain_expression_of q in
    ap plain_expression_of (sym (rolls-Binary at op left' right')) ∙ fold-roll-VerilogExpression Expression plain_expression_node (VerilogExpression-F.Binary at op left' right')
    ∙ (λ i. source.Binary at op (left_same i) (right_same i))
    ∙ sym (ap plain_expression_of (is ∙ sym (rolls-Binary at op left right)) ∙ fold-roll-VerilogExpression Expression plain_expression_node (VerilogExpression-F.Binary at op left right))

-- one of two expressions
pub conditional_copied : (e : program.VerilogExpression) (at : _) (condition : _) (first : _) (second : _) (condition' : _) (first' : _) (second' : _) (b x y : program.VerilogExpression)
    → e ≡ view.Conditional at condition first second → b ≡ box_value condition → x ≡ box_value first → y ≡ box_value second → plain_expression_of (box_value condition') ≡ plain_expression_of b → plain_expression_of (box_value first') ≡ plain_expression_of x → plain_expression_of (box_value second') ≡ plain_expression_of y
    → plain_expression_of (view.Conditional at condition' first' second') ≡ plain_expression_of e
conditional_copied e at condition first second condition' first' second' b x y is p q r f g h =
    let condition_same : plain_expression_of (box_value condition') ≡ plain_expression_of (box_value condition) = f ∙ ap plain_expression_of p in
    let first_same : plain_expression_of (box_value first') ≡ plain_expression_of (box_value first) = g ∙ ap plain_expression_of q in
    let second_same : plain_expression_of (box_value second') ≡ plain_expression_of (box_value second) = h ∙ ap plain_expression_of r in
    ap plain_expression_of (sym (rolls-Conditional at condition' first' second')) ∙ fold-roll-VerilogExpression Expression plain_expression_node (VerilogExpression-F.Conditional at condition' first' second')
    ∙ (λ i. source.Conditional at (condition_same i) (first_same i) (second_same i))
    ∙ sym (ap plain_expression_of (is ∙ sym (rolls-Conditional at condition first second)) ∙ fold-roll-VerilogExpression Expression plain_expression_node (VerilogExpression-F.Conditional at condition first second))
