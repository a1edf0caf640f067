use Rattle.std.proofs.Common.{◌≡◌, ℕ, Bool, false, ◌+◌, List, ◌++◌, drop, sym, ap, subst, ◌∙◌, append_assoc}
use Rattle.model.specs.Syntax.{Expression, Expressions, Also}
use Rattle.model.specs.Expressions.{own_size}
use Rattle.design.specs.declared.code.Op.{Op}
use Rattle.design.specs.DesignTrees.{expression_of, expressions_of}
use Rattle.design.specs.Generate.{expression_code, parts_code, join_code}
use Rattle.design.specs.Sound.{AreSoundExpressions}
use Rattle.design.proofs.Places.{left_more}
use Rattle.design.proofs.expressions.+emit.Goals as goal

-- the steps of one part more, and those of the parts behind it
more_parts : (widths : List ℕ) (before emitted joined whole : List Op) (is_first : Bool) (e : Expression ℕ) (others : Expressions ℕ)
    → emitted ≡ before ++ expression_code widths (own_size widths e) e → joined ≡ emitted ++ join_code is_first
    → before ++ parts_code widths is_first (Also e others) ≡ whole → joined ++ parts_code widths false others ≡ whole
more_parts widths before emitted joined whole is_first e others m n inv =
    let rest = parts_code widths false others in
    ap (λ o. o ++ rest) n ∙ append_assoc emitted (join_code is_first) rest ∙ ap (λ o. o ++ (join_code is_first ++ rest)) m
    ∙ append_assoc before (expression_code widths (own_size widths e) e) (join_code is_first ++ rest) ∙ inv

pub emit_parts-loop-part-preserved : goal.emit_parts-loop-part-preserved
emit_parts-loop-part-preserved t c =
    let ws = c.args.widths.now in
    let xs = c.args.parts.now in
    let i = c.loop-part.part-index in
    let x = c.part-item.result in
    let before = c.loop-part.ops.items in
    (more_parts ws before c.emit.new.ops.items c.join.new.ops.items _ c.loop-part.is_first (expression_of x) (expressions_of (drop (i + 1) xs)) (c.in_ok-emit.ensures ∙ ap (λ n. before ++ expression_code ws n (expression_of x)) c.own_size.ensures) c.in_ok-join.ensures (sym (left_more (λ l. before ++ parts_code ws c.loop-part.is_first (expressions_of l)) xs i x c.loop-part-test.true c.part-item.is) ∙ c.loop-part.invariant.0), (subst (λ l. AreSoundExpressions ws (expressions_of l)) (left_more (λ l. l) xs i x c.loop-part-test.true c.part-item.is) c.loop-part.invariant.1).1)
