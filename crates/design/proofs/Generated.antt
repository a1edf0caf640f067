-- The code of an expression computes its value, and reads its registers from left to right.
use Rattle.std.proofs.Common.{◌≡◌, ℕ, zero, suc, ◌+◌, ◌≤◌, max, if◌then◌else◌, List, [], ◌∷◌, ◌++◌, length, refl, sym, ap, ◌∙◌, arith, length-append, le-leb, append_assoc, true, false, Bool}
use Rattle.std.specs.Prelude.{nat_le, slice_index}
use Rattle.std.proofs.Math.Nat.{max-eq_left, max-eq_right}
use Rattle.std.proofs.lemmas.Bool.{leb-true, leb-false}
use Rattle.logic4.specs.declared.digit.Truth.{Truth}
use Rattle.logic4.specs.declared.digit.Truth.TheVariants.{False, True, Unknown}
use Rattle.logic4.specs.Vector.{Vector, resize, greatest_width}
use Rattle.logic4.specs.Operators.{conditional, concat_vector, truth}
use Rattle.logic4.proofs.Lengths.{length-resize, length-each_digit, length-each_pair, length-where_known, length-shl_vector, length-shr_vector}
use Rattle.model.specs.declared.tree.UnaryOperator.{UnaryOperator}
use Rattle.model.specs.declared.tree.UnaryOperator.TheVariants as unary
use Rattle.model.specs.declared.tree.BinaryOperator.{BinaryOperator}
use Rattle.model.specs.declared.tree.BinaryOperator.TheVariants as binary
use Rattle.model.specs.Syntax as tree
use Rattle.model.specs.Syntax.{Expression, Expressions, registers_of, all_registers_of}
use Rattle.model.specs.Expressions as size
use Rattle.model.specs.Expressions.{Store, Sizing, sizing_of, left_size, right_size, operand_size, own_size, total_size, unary_value, binary_value, eval, joined, own_value, assigned_value}
use Rattle.design.specs.declared.code.Op.{Op}
use Rattle.design.specs.declared.code.Op.TheVariants.{Unary, Binary, Join, Resize, Extend, Choose}
use Rattle.design.specs.Operate.{sized, combined, joined_two}
use Rattle.design.specs.Sound.{IsSoundExpression, AreSoundExpressions}
use Rattle.design.specs.ExpressionSteps.{topmost, act, run_ops, reads_of, all_reads, Computes}
use Rattle.design.specs.Generate.{direct_step, step_or, join_code, expression_code, parts_code, own_code, fitted_code, assigned_code}

pub run_ops-append : (values : Store) (xs ys : List Op) (st : List Vector) → run_ops values (xs ++ ys) st ≡ run_ops values ys (run_ops values xs st)
run_ops-append values [] ys st = refl
run_ops-append values (x ∷ xs) ys st = run_ops-append values xs ys (act values x st)

pub all_reads-append : (xs ys : List Op) → all_reads (xs ++ ys) ≡ all_reads xs ++ all_reads ys
all_reads-append [] ys = refl
all_reads-append (x ∷ xs) ys = ap (λ rs. reads_of x ++ rs) (all_reads-append xs ys) ∙ sym (append_assoc (reads_of x) (all_reads xs) (all_reads ys))

resize_same : (n : ℕ) (v : Vector) → length v ≡ n → resize n v ≡ v
resize_same zero [] e = refl
resize_same zero (d ∷ v) e = absurd (omega arith)
resize_same (suc n) [] e = absurd (omega arith)
resize_same (suc n) (d ∷ v) e = ap (λ w. d ∷ w) (resize_same n v (omega arith))

unary_length : (op : UnaryOperator) (asked own : ℕ) (v : Vector) → length v ≡ operand_size op asked own → length (unary_value op asked v) ≡ asked
unary_length unary.Not asked own v e = length-each_digit _ v ∙ e
unary_length unary.LogicalNot asked own v e = length-resize asked _
unary_length unary.ReduceAnd asked own v e = length-resize asked _
unary_length unary.ReduceOr asked own v e = length-resize asked _
unary_length unary.ReduceXor asked own v e = length-resize asked _

binary_length : (op : BinaryOperator) (asked l r : ℕ) (v w : Vector) → length v ≡ left_size (sizing_of op) asked l r → length w ≡ right_size (sizing_of op) asked l r → length (binary_value op asked v w) ≡ asked
binary_length binary.LogicalOr asked l r v w a b = length-resize asked _
binary_length binary.LogicalAnd asked l r v w a b = length-resize asked _
binary_length binary.Or asked l r v w a b = length-each_pair _ v w (a ∙ sym b) ∙ a
binary_length binary.Xor asked l r v w a b = length-each_pair _ v w (a ∙ sym b) ∙ a
binary_length binary.And asked l r v w a b = length-each_pair _ v w (a ∙ sym b) ∙ a
binary_length binary.Equal asked l r v w a b = length-resize asked _
binary_length binary.NotEqual asked l r v w a b = length-resize asked _
binary_length binary.CaseEqual asked l r v w a b = length-resize asked _
binary_length binary.CaseNotEqual asked l r v w a b = length-resize asked _
binary_length binary.Less asked l r v w a b = length-resize asked _
binary_length binary.LessEqual asked l r v w a b = length-resize asked _
binary_length binary.Greater asked l r v w a b = length-resize asked _
binary_length binary.GreaterEqual asked l r v w a b = length-resize asked _
binary_length binary.SignedLess asked l r v w a b = length-resize asked _
binary_length binary.SignedLessEqual asked l r v w a b = length-resize asked _
binary_length binary.ShiftLeft asked l r v w a b = length-shl_vector v w ∙ a
binary_length binary.ShiftRight asked l r v w a b = length-shr_vector v w ∙ a
binary_length binary.Add asked l r v w a b = length-where_known v w _ ∙ a
binary_length binary.Subtract asked l r v w a b = length-where_known v w _ ∙ a

conditional_length : (t : Truth) (n : ℕ) (v w : Vector) → length v ≡ n → length w ≡ n → length (conditional t v w) ≡ n
conditional_length True n v w a b = a
conditional_length False n v w a b = b
conditional_length Unknown n v w a b = length-each_pair _ v w (a ∙ sym b) ∙ a

-- an expression's value has the size asked
pub length_eval : (widths : List ℕ) (values : Store) (asked : ℕ) (e : Expression ℕ) → length (eval widths values asked e) ≡ asked
length_eval widths values asked (tree.Register r) = length-resize asked _
length_eval widths values asked (tree.Select r i) = length-resize asked _
length_eval widths values asked (tree.Literal v) = length-resize asked v
length_eval widths values asked (tree.Concat parts) = length-resize asked _
length_eval widths values asked (tree.Unary op e) = unary_length op asked (own_size widths e) _ (length_eval widths values (operand_size op asked (own_size widths e)) e)
length_eval widths values asked (tree.Binary op e f) =
    binary_length op asked (own_size widths e) (own_size widths f) _ _ (length_eval widths values (left_size (sizing_of op) asked (own_size widths e) (own_size widths f)) e) (length_eval widths values (right_size (sizing_of op) asked (own_size widths e) (own_size widths f)) f)
length_eval widths values asked (tree.Conditional c e f) =
    conditional_length (truth (eval widths values (own_size widths c) c)) asked _ _ (length_eval widths values asked e) (length_eval widths values asked f)
length_eval widths values asked (tree.Extend by n e) = length-resize asked _

length_joined : (widths : List ℕ) (values : Store) (es : Expressions ℕ) → length (joined widths values es) ≡ total_size widths es
length_joined widths values tree.Nothing = refl
length_joined widths values (tree.Also e es) =
    let all = length-append (joined widths values es) (eval widths values (own_size widths e) e) in
    omega (arith, all, length_joined widths values es, length_eval widths values (own_size widths e) e)

-- operands of the sizes that an operator wants are taken as they are
sized_left : (s : Sizing) (asked l r : ℕ) (v : Vector) → length v ≡ left_size s asked l r → sized s (left_size s asked l r) v ≡ v
sized_left size.BothAsked asked l r v e = resize_same asked v e
sized_left size.LeftAsked asked l r v e = refl
sized_left size.Greatest asked l r v e = resize_same (max l r) v e
sized_left size.EachOwn asked l r v e = refl

sized_right : (s : Sizing) (asked l r : ℕ) (v : Vector) → length v ≡ right_size s asked l r → sized s (left_size s asked l r) v ≡ v
sized_right size.BothAsked asked l r v e = resize_same asked v e
sized_right size.LeftAsked asked l r v e = refl
sized_right size.Greatest asked l r v e = resize_same (max l r) v e
sized_right size.EachOwn asked l r v e = refl

combined_value : (op : BinaryOperator) (asked l r : ℕ) (v w : Vector) → length v ≡ left_size (sizing_of op) asked l r → length w ≡ right_size (sizing_of op) asked l r → combined op (left_size (sizing_of op) asked l r) asked v w ≡ binary_value op asked v w
combined_value op asked l r v w a b =
    ap (λ x. binary_value op asked x (sized (sizing_of op) (left_size (sizing_of op) asked l r) w)) (sized_left (sizing_of op) asked l r v a)
    ∙ ap (binary_value op asked v) (sized_right (sizing_of op) asked l r w b)

joined_value : (v w : Vector) → length v + length w ≤ greatest_width → joined_two v w ≡ concat_vector v w
joined_value v w h = ap (λ b. if b then concat_vector v w else v) (le-leb (length v + length w) greatest_width h)

-- one part more, in the least significant digits
join_part : (v w x : Vector) → length v + length w ≤ greatest_width → concat_vector (joined_two v w) x ≡ concat_vector v (concat_vector w x)
join_part v w x h = ap (λ y. concat_vector y x) (joined_value v w h) ∙ sym (append_assoc x w v)

-- an operator that takes its right operand itself gives what it gives with that on the stack
direct_runs : (widths : List ℕ) (values : Store) (op : BinaryOperator) (l asked r : ℕ) (f : Expression ℕ) (x : Vector) (st : List Vector) → run_ops values (step_or (direct_step op l asked r f) (expression_code widths r f ++ Binary op l asked ∷ [])) (x ∷ st) ≡ run_ops values (expression_code widths r f ++ Binary op l asked ∷ []) (x ∷ st)
direct_runs widths values op l asked r (tree.Register q) x st = refl
direct_runs widths values op l asked r (tree.Select q i) x st = refl
direct_runs widths values op l asked r (tree.Literal v) x st = refl
direct_runs widths values op l asked r (tree.Concat parts) x st = refl
direct_runs widths values op l asked r (tree.Unary unary e) x st = refl
direct_runs widths values op l asked r (tree.Binary binary e f) x st = refl
direct_runs widths values op l asked r (tree.Conditional c e f) x st = refl
direct_runs widths values op l asked r (tree.Extend by n e) x st = refl

-- and it reads what that reads
direct_reads : (widths : List ℕ) (op : BinaryOperator) (l asked r : ℕ) (f : Expression ℕ) → all_reads (step_or (direct_step op l asked r f) (expression_code widths r f ++ Binary op l asked ∷ [])) ≡ all_reads (expression_code widths r f ++ Binary op l asked ∷ [])
direct_reads widths op l asked r (tree.Register q) = refl
direct_reads widths op l asked r (tree.Select q i) = refl
direct_reads widths op l asked r (tree.Literal v) = refl
direct_reads widths op l asked r (tree.Concat parts) = refl
direct_reads widths op l asked r (tree.Unary unary e) = refl
direct_reads widths op l asked r (tree.Binary binary e f) = refl
direct_reads widths op l asked r (tree.Conditional c e f) = refl
direct_reads widths op l asked r (tree.Extend by n e) = refl

mutual
  -- the code of an expression puts its value on the stack
  pub run_expression : (widths : List ℕ) (values : Store) (asked : ℕ) (e : Expression ℕ) (st : List Vector) → IsSoundExpression widths e → run_ops values (expression_code widths asked e) st ≡ eval widths values asked e ∷ st
  run_expression widths values asked (tree.Register r) st h = refl
  run_expression widths values asked (tree.Select r i) st h = refl
  run_expression widths values asked (tree.Literal v) st h = refl
  run_expression widths values asked (tree.Concat tree.Nothing) st (fit, some, all) = absurd some
  run_expression widths values asked (tree.Concat (tree.Also e es)) st (fit, some, (h, all)) =
      let v = eval widths values (own_size widths e) e in
      let rest = parts_code widths false es in
      let last = Resize asked ∷ [] in
      let len = length_eval widths values (own_size widths e) e in
      run_ops-append values (expression_code widths (own_size widths e) e ++ rest) last st
      ∙ ap (run_ops values last) (
      run_ops-append values (expression_code widths (own_size widths e) e) rest st
      ∙ ap (run_ops values rest) (run_expression widths values (own_size widths e) e st h)
      ∙ run_parts widths values es v st (omega (arith, len)) all)
  run_expression widths values asked (tree.Unary op e) st h =
      run_ops-append values (expression_code widths (operand_size op asked (own_size widths e)) e) (Unary op asked ∷ []) st
      ∙ ap (run_ops values (Unary op asked ∷ [])) (run_expression widths values (operand_size op asked (own_size widths e)) e st h)
  run_expression widths values asked (tree.Binary op e f) st (h, j) =
      let l = left_size (sizing_of op) asked (own_size widths e) (own_size widths f) in
      let r = right_size (sizing_of op) asked (own_size widths e) (own_size widths f) in
      let x = eval widths values l e in
      let y = eval widths values r f in
      let last = Binary op l asked ∷ [] in
      let behind = step_or (direct_step op l asked r f) (expression_code widths r f ++ last) in
      run_ops-append values (expression_code widths l e) behind st
      ∙ ap (run_ops values behind) (run_expression widths values l e st h)
      ∙ direct_runs widths values op l asked r f x st
      ∙ run_ops-append values (expression_code widths r f) last (x ∷ st)
      ∙ ap (run_ops values last) (run_expression widths values r f (x ∷ st) j)
      ∙ ap (λ z. z ∷ st) (combined_value op asked (own_size widths e) (own_size widths f) x y (length_eval widths values l e) (length_eval widths values r f))
  run_expression widths values asked (tree.Conditional c e f) st (h, j, k) =
      let t = eval widths values (own_size widths c) c in
      let x = eval widths values asked e in
      let y = eval widths values asked f in
      let last = Choose asked ∷ [] in
      run_ops-append values (expression_code widths (own_size widths c) c) (expression_code widths asked e ++ (expression_code widths asked f ++ last)) st
      ∙ ap (run_ops values (expression_code widths asked e ++ (expression_code widths asked f ++ last))) (run_expression widths values (own_size widths c) c st h)
      ∙ run_ops-append values (expression_code widths asked e) (expression_code widths asked f ++ last) (t ∷ st)
      ∙ ap (run_ops values (expression_code widths asked f ++ last)) (run_expression widths values asked e (t ∷ st) j)
      ∙ run_ops-append values (expression_code widths asked f) last (x ∷ t ∷ st)
      ∙ ap (run_ops values last) (run_expression widths values asked f (x ∷ t ∷ st) k)
      ∙ ap (λ z. conditional (truth t) z (resize asked y) ∷ st) (resize_same asked x (length_eval widths values asked e))
      ∙ ap (λ z. conditional (truth t) x z ∷ st) (resize_same asked y (length_eval widths values asked f))
  run_expression widths values asked (tree.Extend by n e) st (some, within, h) =
      run_ops-append values (expression_code widths (own_size widths e) e) (Extend by n asked ∷ []) st
      ∙ ap (run_ops values (Extend by n asked ∷ [])) (run_expression widths values (own_size widths e) e st h)

  -- further parts are joined to the vector before them
  run_parts : (widths : List ℕ) (values : Store) (es : Expressions ℕ) (v : Vector) (st : List Vector) → length v + total_size widths es ≤ greatest_width → AreSoundExpressions widths es → run_ops values (parts_code widths false es) (v ∷ st) ≡ concat_vector v (joined widths values es) ∷ st
  run_parts widths values tree.Nothing v st fit h = refl
  run_parts widths values (tree.Also e es) v st fit (h, all) =
      let w = eval widths values (own_size widths e) e in
      let len : length w ≡ own_size widths e = length_eval widths values (own_size widths e) e in
      let both : length v + length w ≤ greatest_width = omega (arith, len) in
      let sum : length (joined_two v w) + total_size widths es ≤ greatest_width = omega (arith, len, ap length (joined_value v w both), length-append w v) in
      run_ops-append values (expression_code widths (own_size widths e) e) (Join ∷ parts_code widths false es) (v ∷ st)
      ∙ ap (run_ops values (Join ∷ parts_code widths false es)) (run_expression widths values (own_size widths e) e (v ∷ st) h)
      ∙ run_parts widths values es (joined_two v w) st sum all
      ∙ ap (λ x. x ∷ st) (join_part v w (joined widths values es) both)

reads_join : (is_first : Bool) → all_reads (join_code is_first) ≡ []
reads_join true = refl
reads_join false = refl

append_none : (xs : List ℕ) → xs ++ [] ≡ xs
append_none [] = refl
append_none (x ∷ xs) = ap (λ l. x ∷ l) (append_none xs)

reads_last : (ops : List Op) (op : Op) (rs : List ℕ) → reads_of op ≡ [] → all_reads ops ≡ rs → all_reads (ops ++ op ∷ []) ≡ rs
reads_last ops op rs e f = all_reads-append ops (op ∷ []) ∙ ap (λ l. all_reads ops ++ (l ++ [])) e ∙ append_none (all_reads ops) ∙ f

reads_both : (xs ys : List Op) (rs qs : List ℕ) → all_reads xs ≡ rs → all_reads ys ≡ qs → all_reads (xs ++ ys) ≡ rs ++ qs
reads_both xs ys rs qs e f = all_reads-append xs ys ∙ ap (λ l. l ++ all_reads ys) e ∙ ap (λ l. rs ++ l) f

mutual
  -- it reads the registers from left to right
  pub reads_expression : (widths : List ℕ) (asked : ℕ) (e : Expression ℕ) → all_reads (expression_code widths asked e) ≡ registers_of e
  reads_expression widths asked (tree.Register r) = refl
  reads_expression widths asked (tree.Select r i) = refl
  reads_expression widths asked (tree.Literal v) = refl
  reads_expression widths asked (tree.Concat parts) = reads_last (parts_code widths true parts) (Resize asked) _ refl (reads_parts widths true parts)
  reads_expression widths asked (tree.Unary op e) = reads_last (expression_code widths (operand_size op asked (own_size widths e)) e) (Unary op asked) _ refl (reads_expression widths (operand_size op asked (own_size widths e)) e)
  reads_expression widths asked (tree.Binary op e f) =
      let l = left_size (sizing_of op) asked (own_size widths e) (own_size widths f) in
      let r = right_size (sizing_of op) asked (own_size widths e) (own_size widths f) in
      reads_both (expression_code widths l e) _ _ _ (reads_expression widths l e)
      (direct_reads widths op l asked r f ∙ reads_last (expression_code widths r f) (Binary op l asked) _ refl (reads_expression widths r f))
  reads_expression widths asked (tree.Conditional c e f) =
      reads_both (expression_code widths (own_size widths c) c) _ _ _ (reads_expression widths (own_size widths c) c)
      (reads_both (expression_code widths asked e) _ _ _ (reads_expression widths asked e)
      (reads_last (expression_code widths asked f) (Choose asked) _ refl (reads_expression widths asked f)))
  reads_expression widths asked (tree.Extend by n e) =
      reads_last (expression_code widths (own_size widths e) e) (Extend by n asked) _ refl (reads_expression widths (own_size widths e) e)

  reads_parts : (widths : List ℕ) (is_first : Bool) (es : Expressions ℕ) → all_reads (parts_code widths is_first es) ≡ all_registers_of es
  reads_parts widths is_first tree.Nothing = refl
  reads_parts widths is_first (tree.Also e es) =
      reads_both (expression_code widths (own_size widths e) e) (join_code is_first ++ parts_code widths false es) _ _ (reads_expression widths (own_size widths e) e)
      (reads_both (join_code is_first) (parts_code widths false es) [] _ (reads_join is_first) (reads_parts widths false es))

-- what nodes want of conditions and of right sides
pub own_computes : (widths : List ℕ) (e : Expression ℕ) → IsSoundExpression widths e → Computes (own_code widths e) (λ values. own_value widths values e) (registers_of e)
own_computes widths e h = record {
  gives = λ values st. ap topmost (run_expression widths values (own_size widths e) e st h);
  uses = reads_expression widths (own_size widths e) e;
}

-- an expression at the greater of a width and its own size, cut to that width
fitted_computes : (widths : List ℕ) (w own : ℕ) (e : Expression ℕ) → IsSoundExpression widths e → Computes (fitted_code widths w own e) (λ values. resize w (eval widths values (max w own) e)) (registers_of e)
fitted_computes widths w own e h = fitted (nat_le own w) refl where
  last : List Op
  last = Resize w ∷ []

  fitted : (b : Bool) → nat_le own w ≡ b → Computes (if b then expression_code widths w e else expression_code widths own e ++ last) (λ values. resize w (eval widths values (max w own) e)) (registers_of e)
  fitted true within = record {
    gives = λ values st.
        ap topmost (run_expression widths values w e st h)
        ∙ sym (ap (λ n. resize w (eval widths values n e)) (max-eq_left (leb-true own w within)) ∙ resize_same w (eval widths values w e) (length_eval widths values w e));
    uses = reads_expression widths w e;
  }
  fitted false beyond = record {
    gives = λ values st.
        ap topmost (run_ops-append values (expression_code widths own e) last st ∙ ap (run_ops values last) (run_expression widths values own e st h))
        ∙ sym (ap (λ n. resize w (eval widths values n e)) (max-eq_right (omega (arith, leb-false own w beyond))));
    uses = reads_last (expression_code widths own e) (Resize w) _ refl (reads_expression widths own e);
  }

pub assigned_computes : (widths : List ℕ) (r : ℕ) (e : Expression ℕ) → IsSoundExpression widths e → Computes (assigned_code widths r e) (λ values. assigned_value widths values r e) (registers_of e)
assigned_computes widths r e h = fitted_computes widths (slice_index widths r) (own_size widths e) e h
