-- What is emitted for a sound design is its code.
use Rattle.std.proofs.Common.{ℕ, zero, suc, ◌+◌, List, [], ◌∷◌, ◌++◌, length, true, false, Bool, arith}
use Rattle.std.specs.Prelude.{nat_le, if◌then◌else◌, slice_index}
use Rattle.std.specs.List.{All}
use Rattle.model.specs.declared.tree.BinaryOperator.{BinaryOperator}
use Rattle.std.proofs.lemmas.List.Elements.{All-append}
use Rattle.model.specs.Syntax as tree
use Rattle.model.specs.Syntax.{Expression, Expressions}
use Rattle.model.specs.Expressions.{sizing_of, left_size, right_size, operand_size, own_size}
use Rattle.model.specs.Design.{Process, Statement, Empty, Assign, AssignAfter, AssignLater, Now, Delay, Await, If, While, Print, Finish, Statements, End, Then, inside}
use Rattle.model.specs.Syntax.{Piece, Byte, Argument}
use Rattle.design.specs.declared.code.Op.{Op}
use Rattle.design.specs.declared.code.Op.TheVariants.{Unary, Binary, Join, Resize, Extend, Choose}
use Rattle.design.specs.Sound.{IsSoundExpression, AreSoundExpressions, IsSoundStatement, AreSoundStatements}
use Rattle.design.specs.ExpressionSteps.{IsOpOf}
use Rattle.design.specs.Generate.{direct_step, step_or, join_code, expression_code, parts_code, own_code, assigned_code}
use Rattle.design.specs.Emit.{Emitted, with_ops, with_shown, with_line_code, with_statement, with_all, with_bodies, first_of}
use Rattle.design.proofs.Emitted.{delay_node, await_node, if_node, while_node}
use Rattle.design.proofs.Ends.{AreSoundProcesses}

-- each step reads a declared register, if it reads one
abbrev pub AreOps : List ℕ → List Op → Type 0
AreOps widths ops = All (IsOpOf (length widths)) ops

no_ops : (widths : List ℕ) → AreOps widths []
no_ops widths k d lt = absurd (omega arith)

one_op : (widths : List ℕ) (op : Op) → IsOpOf (length widths) op → AreOps widths (op ∷ [])
one_op widths op h zero d lt = h
one_op widths op h (suc k) d lt = absurd (omega arith)

-- an operator's step that takes its right operand reads what that names
direct_ops : (widths : List ℕ) (op : BinaryOperator) (size asked other : ℕ) (e : Expression ℕ) (ops : List Op) → IsSoundExpression widths e → AreOps widths ops → AreOps widths (step_or (direct_step op size asked other e) ops)
direct_ops widths op size asked other (tree.Register r) ops h all = one_op widths _ h
direct_ops widths op size asked other (tree.Select r i) ops h all = all
direct_ops widths op size asked other (tree.Literal v) ops h all = one_op widths _ tt
direct_ops widths op size asked other (tree.Concat parts) ops h all = all
direct_ops widths op size asked other (tree.Unary unary e) ops h all = all
direct_ops widths op size asked other (tree.Binary binary e f) ops h all = all
direct_ops widths op size asked other (tree.Conditional c e f) ops h all = all
direct_ops widths op size asked other (tree.Extend by n e) ops h all = all

both_ops : (widths : List ℕ) (xs ys : List Op) → AreOps widths xs → AreOps widths ys → AreOps widths (xs ++ ys)
both_ops widths xs ys h j = All-append (IsOpOf (length widths)) xs ys h j

join_ops : (widths : List ℕ) (is_first : Bool) → AreOps widths (join_code is_first)
join_ops widths true = no_ops widths
join_ops widths false = one_op widths Join tt

mutual
  expression_ops : (widths : List ℕ) (asked : ℕ) (e : Expression ℕ) → IsSoundExpression widths e → AreOps widths (expression_code widths asked e)
  expression_ops widths asked (tree.Register r) h = one_op widths _ h
  expression_ops widths asked (tree.Select r i) h = one_op widths _ h
  expression_ops widths asked (tree.Literal v) h = one_op widths _ tt
  expression_ops widths asked (tree.Concat parts) (fit, some, all) =
      both_ops widths (parts_code widths true parts) (Resize asked ∷ []) (parts_ops widths true parts all) (one_op widths (Resize asked) tt)
  expression_ops widths asked (tree.Unary op e) h =
      both_ops widths (expression_code widths (operand_size op asked (own_size widths e)) e) (Unary op asked ∷ []) (expression_ops widths (operand_size op asked (own_size widths e)) e h) (one_op widths (Unary op asked) tt)
  expression_ops widths asked (tree.Binary op e f) (h, j) =
      let l = left_size (sizing_of op) asked (own_size widths e) (own_size widths f) in
      let r = right_size (sizing_of op) asked (own_size widths e) (own_size widths f) in
      both_ops widths (expression_code widths l e) _ (expression_ops widths l e h)
      (direct_ops widths op l asked r f _ j
      (both_ops widths (expression_code widths r f) (Binary op l asked ∷ []) (expression_ops widths r f j) (one_op widths (Binary op l asked) tt)))
  expression_ops widths asked (tree.Conditional c e f) (h, j, k) =
      let last = Choose asked ∷ [] in
      both_ops widths (expression_code widths (own_size widths c) c) (expression_code widths asked e ++ (expression_code widths asked f ++ last)) (expression_ops widths (own_size widths c) c h)
      (both_ops widths (expression_code widths asked e) (expression_code widths asked f ++ last) (expression_ops widths asked e j)
      (both_ops widths (expression_code widths asked f) last (expression_ops widths asked f k) (one_op widths (Choose asked) tt)))
  expression_ops widths asked (tree.Extend by n e) (some, within, h) =
      both_ops widths (expression_code widths (own_size widths e) e) (Extend by n asked ∷ []) (expression_ops widths (own_size widths e) e h) (one_op widths (Extend by n asked) tt)

  parts_ops : (widths : List ℕ) (is_first : Bool) (es : Expressions ℕ) → AreSoundExpressions widths es → AreOps widths (parts_code widths is_first es)
  parts_ops widths is_first tree.Nothing h = no_ops widths
  parts_ops widths is_first (tree.Also e es) (h, all) =
      both_ops widths (expression_code widths (own_size widths e) e) (join_code is_first ++ parts_code widths false es) (expression_ops widths (own_size widths e) e h)
      (both_ops widths (join_code is_first) (parts_code widths false es) (join_ops widths is_first) (parts_ops widths false es all))

assigned_ops : (widths : List ℕ) (r : ℕ) (e : Expression ℕ) → IsSoundExpression widths e → AreOps widths (assigned_code widths r e)
assigned_ops widths r e h = fitted (nat_le (own_size widths e) (slice_index widths r)) where
  fitted : (b : Bool) → AreOps widths (if b then expression_code widths (slice_index widths r) e else expression_code widths (own_size widths e) e ++ Resize (slice_index widths r) ∷ [])
  fitted true = expression_ops widths _ e h
  fitted false = both_ops widths _ _ (expression_ops widths _ e h) (one_op widths _ tt)

line_ops : (widths : List ℕ) (e : Emitted) (ps : List Piece) (es : Expressions ℕ) → AreSoundExpressions widths es → AreOps widths e.ops → AreOps widths (with_line_code widths e ps es).ops
line_ops widths e [] es h all = all
line_ops widths e (Byte b ∷ ps) es h all = line_ops widths (with_shown e _) ps es h all
line_ops widths e (Argument c ∷ ps) tree.Nothing h all = all
line_ops widths e (Argument c ∷ ps) (tree.Also x es) (h, others) all =
    line_ops widths (with_shown (with_ops e (own_code widths x)) _) ps es others (both_ops widths e.ops (own_code widths x) all (expression_ops widths (own_size widths x) x h))

mutual
  statement_ops : (widths : List ℕ) (next : ℕ) (e : Emitted) (s : Statement) → IsSoundStatement widths s → AreOps widths e.ops → AreOps widths (with_statement widths next e s).ops
  statement_ops widths next e Empty h all = all
  statement_ops widths next e (Assign r x) h all = both_ops widths e.ops (assigned_code widths r x) all (assigned_ops widths r x h.1)
  statement_ops widths next e (AssignAfter r d x) h all = both_ops widths e.ops (assigned_code widths r x) all (assigned_ops widths r x h.2)
  statement_ops widths next e (AssignLater r d x) h all = both_ops widths e.ops (assigned_code widths r x) all (assigned_ops widths r x h.2)
  statement_ops widths next e (Now r) h all = all
  statement_ops widths next e (Delay d body) h all = all_ops widths next (delay_node e d body next) body h.1 all
  statement_ops widths next e (Await triggers body) h all = all_ops widths next (await_node e triggers body next) body h.1 all
  statement_ops widths next e (If c body otherwise) h all =
      let e1 = if_node widths e c body otherwise next in
      all_ops widths next (with_all widths next e1 body) otherwise h.2
      (all_ops widths next e1 body h.1 (both_ops widths e.ops (own_code widths c) all (expression_ops widths (own_size widths c) c h.0)))
  statement_ops widths next e (While c body) h all =
      all_ops widths (length e.nodes) (while_node widths e c body next) body h.1 (both_ops widths e.ops (own_code widths c) all (expression_ops widths (own_size widths c) c h.0))
  statement_ops widths next e (Print task ps es) h all = line_ops widths e ps es h.1 all
  statement_ops widths next e Finish h all = all

  all_ops : (widths : List ℕ) (after : ℕ) (e : Emitted) (ss : Statements) → AreSoundStatements widths ss → AreOps widths e.ops → AreOps widths (with_all widths after e ss).ops
  all_ops widths after e End h all = all
  all_ops widths after e (Then s ss) (h, others) all =
      let next = first_of (length e.nodes + 1 + length (inside s)) ss after in
      all_ops widths after (with_statement widths next e s) ss others (statement_ops widths next e s h all)

pub bodies_ops : (widths : List ℕ) (end : ℕ) (e : Emitted) (ps : List Process) → AreSoundProcesses widths ps → AreOps widths e.ops → AreOps widths (with_bodies widths end e ps).ops
bodies_ops widths end e [] h all = all
bodies_ops widths end e (p ∷ ps) (h, others) all = bodies_ops widths (end + 1) (with_all widths end e p.body) ps others (all_ops widths end e p.body h all)
