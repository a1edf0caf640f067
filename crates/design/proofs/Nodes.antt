-- The nodes of statements are fine, one after another.
use Rattle.std.proofs.Common.{◌≡◌, ℕ, ◌+◌, ◌≤◌, inl, inr, ◌∷◌, ◌++◌, List, length, Some, refl, sym, ap, ◌∙◌, subst, arith, length-append}
use Rattle.std.specs.Prelude.{slice_get, slice_index}
use Rattle.model.specs.declared.tree.Task.{Task}
use Rattle.model.specs.Syntax.{Expressions, registers_of}
use Rattle.model.specs.Elaboration.{argument_count}
use Rattle.model.specs.Design.{Statement, Empty, Assign, AssignAfter, AssignLater, Now, Delay, Await, If, While, Print, Finish, Statements, End, Then, inside, all_of, size, statement_at, first_place}
use Rattle.model.specs.Syntax.{Piece}
use Rattle.model.specs.Expressions.{own_value, assigned_value}
use Rattle.model.specs.Turns.{Remainder, At, parts}
use Rattle.design.specs.declared.code.Node.TheVariants as node
use Rattle.design.specs.declared.code.Span.{Span}
use Rattle.design.specs.Sound.{AreSoundExpressions, IsSoundStatement, AreSoundStatements, how_many}
use Rattle.design.specs.ExpressionSteps.{span_of}
use Rattle.design.specs.CodePlaces.{remainder_at}
use Rattle.design.specs.Compiled.{Compiled, design_of}
use Rattle.design.specs.Meaning.{IsFine, IsLine}
use Rattle.design.specs.Generate.{own_code, assigned_code}
use Rattle.design.specs.Emit.{Emitted, with_ops, with_control, with_line_code, with_print, with_statement, with_all, first_of}
use Rattle.design.proofs.Generated.{own_computes, assigned_computes}
use Rattle.design.proofs.Growing.{Begins, Grows, grows_both, piece_there, element_there, line_nodes}
use Rattle.design.proofs.Emitted.{delay_node, await_node, if_node, while_node, grows_all, length_node, length_statement, length_all}
use Rattle.design.proofs.Placed.{Placed, PlacedInside, Leads, leads}
use Rattle.design.proofs.Fine.{code_of, Done, done_node, computes_there, line_there}

-- what is left where the next place has it
next_left : (code : Compiled) (p n next : ℕ) (rest : Remainder) → remainder_at (design_of code) n ≡ At n ∷ rest → Leads (design_of code) p next rest → remainder_at (design_of code) n ≡ At n ∷ remainder_at (design_of code) next
next_left code p n next rest left to = left ∙ ap (λ l. At n ∷ l) (sym to.left)

done_print : (task : Task) (code : Compiled) (p next : ℕ) (e : Emitted) (format : List Piece) (arguments : Expressions ℕ) (rest : Remainder) → argument_count format ≡ how_many arguments → AreSoundExpressions code.widths arguments
    → statement_at (design_of code) (length e.nodes) ≡ Print task format arguments
    → remainder_at (design_of code) (length e.nodes) ≡ At (length e.nodes) ∷ rest
    → Leads (design_of code) p next rest
    → Grows (with_print task e (with_line_code code.widths e format arguments) next) (code_of code)
    → Done code p (length e.nodes)
    → Done code p (length (with_print task e (with_line_code code.widths e format arguments) next).nodes)
done_print task code p next e format arguments rest count sound at left to grown done =
    let n = length e.nodes in
    let e1 = with_line_code code.widths e format arguments in
    let same : length e1.nodes ≡ n = ap length (line_nodes code.widths e format arguments) in
    let span : Span = record { from = length e.shown; to = length e1.shown } in
    let made = line_there code e format arguments count sound grown.ops in
    let line = made.0 in
    let is : span_of code.shown span ≡ line =
    ap (λ k. span_of code.shown (record { from = length e.shown; to = k })) (ap length made.1.0)
    ∙ piece_there e.shown line code.shown (subst (λ l. Begins l code.shown) made.1.0 grown.shown) in
    let fine : IsFine code p (node.Print task span next) (remainder_at (design_of code) n) =
    (n, (format, (arguments, (next_left code p n next rest left to, at, subst (λ l. IsLine code.widths code.ops l format arguments) (sym is) made.1.1, to.own)))) in
    done_node code p e1 (node.Print task span next) grown (subst (λ k. IsFine code p (node.Print task span next) (remainder_at (design_of code) k)) (sym same) fine) (subst (λ k. Done code p k) (sym same) done)

mutual
  pub done_statement : (code : Compiled) (p next : ℕ) (e : Emitted) (s : Statement) (rest : Remainder) → IsSoundStatement code.widths s
      → statement_at (design_of code) (length e.nodes) ≡ s
      → remainder_at (design_of code) (length e.nodes) ≡ At (length e.nodes) ∷ rest
      → PlacedInside (design_of code) (length e.nodes) s rest
      → first_place (design_of code) p ≤ length e.nodes
      → length e.nodes + 1 + length (inside s) ≤ first_place (design_of code) (p + 1)
      → Leads (design_of code) p next rest
      → Grows (with_statement code.widths next e s) (code_of code)
      → Done code p (length e.nodes)
      → Done code p (length (with_statement code.widths next e s).nodes)
  done_statement code p next e Empty rest sound at left within lo hi to grown done =
      done_node code p e (node.Skip next) grown (length e.nodes, (next_left code p (length e.nodes) next rest left to, at, to.own)) done
  done_statement code p next e (Assign r x) rest sound at left within lo hi to grown done =
      let ops = assigned_code code.widths r x in
      done_node code p (with_ops e ops) _ grown (
        length e.nodes,
        (
          x,
          (
            next_left code p (length e.nodes) next rest left to,
            at,
            computes_there code e ops (λ s. node.Assign r s next) (λ values. assigned_value code.widths values r x) (registers_of x) grown (assigned_computes code.widths r x sound.1),
            sound.0,
            to.own,
          ),
        ),
      ) done
  done_statement code p next e (AssignAfter r d x) rest sound at left within lo hi to grown done =
      let ops = assigned_code code.widths r x in
      done_node code p (with_ops e ops) _ grown (
        length e.nodes,
        (
          x,
          (
            next_left code p (length e.nodes) next rest left to,
            at,
            computes_there code e ops (λ s. node.AssignAfter r d s next) (λ values. assigned_value code.widths values r x) (registers_of x) grown (assigned_computes code.widths r x sound.2),
            sound.0,
            to.own,
          ),
        ),
      ) done
  done_statement code p next e (AssignLater r d x) rest sound at left within lo hi to grown done =
      let ops = assigned_code code.widths r x in
      done_node code p (with_ops e ops) _ grown (
        length e.nodes,
        (
          x,
          (
            next_left code p (length e.nodes) next rest left to,
            at,
            computes_there code e ops (λ s. node.AssignLater r d s next) (λ values. assigned_value code.widths values r x) (registers_of x) grown (assigned_computes code.widths r x sound.2),
            sound.0,
            to.own,
          ),
        ),
      ) done
  done_statement code p next e (Now r) rest sound at left within lo hi to grown done =
      done_node code p e (node.Now r (slice_index code.widths r) next) grown (length e.nodes, (next_left code p (length e.nodes) next rest left to, at, refl, sound, to.own)) done
  done_statement code p next e (Delay d body) rest sound at left within lo hi to grown done =
      let n = length e.nodes in
      let e1 = delay_node e d body next in
      let one : length e1.nodes ≡ n + 1 = length_node e _ in
      let l = leads (design_of code) p (n + 1) body rest next within (omega arith) hi to in
      let there : Grows e1 (code_of code) = grows_both e1 (with_all code.widths next e1 body) (code_of code) (grows_all code.widths next e1 body) grown in
      let done1 = done_node code p e (node.Delay d (first_of (n + 1) body next)) there (n, (body, (rest, (left, at, l.left, l.own)))) done in
      done_all code p next e1 body rest sound.1 (subst (λ k. Placed (design_of code) k body rest) (sym one) within) (omega arith) (omega arith) to grown done1
  done_statement code p next e (Await triggers body) rest sound at left within lo hi to grown done =
      let n = length e.nodes in
      let e1 = await_node e triggers body next in
      let one : length e1.nodes ≡ n + 1 = length_node e _ in
      let l = leads (design_of code) p (n + 1) body rest next within (omega arith) hi to in
      let there : Grows e1 (code_of code) = grows_both e1 (with_all code.widths next e1 body) (code_of code) (grows_all code.widths next e1 body) grown in
      let control : slice_get code.controls (length e.controls) ≡ Some triggers = element_there e.controls triggers code.controls there.controls in
      let done1 = done_node code p (with_control e triggers) (node.Await (length e.controls) (first_of (n + 1) body next)) there (n, (body, (rest, (triggers, (left, control, at, l.left, l.own))))) done in
      done_all code p next e1 body rest sound.1 (subst (λ k. Placed (design_of code) k body rest) (sym one) within) (omega arith) (omega arith) to grown done1
  done_statement code p next e (If c body otherwise) rest sound at left within lo hi to grown done =
      let n = length e.nodes in
      let ops = own_code code.widths c in
      let e1 = if_node code.widths e c body otherwise next in
      let e2 = with_all code.widths next e1 body in
      let one : length e1.nodes ≡ n + 1 = length_node e _ in
      let two : length e2.nodes ≡ n + 1 + size body = length_all code.widths next e1 body ∙ ap (λ k. k + size body) one in
      let end : n + 1 + size body + size otherwise ≤ first_place (design_of code) (p + 1) = omega (arith, length-append (all_of body) (all_of otherwise)) in
      let l1 = leads (design_of code) p (n + 1) body rest next within.0 (omega arith) (omega arith) to in
      let l2 = leads (design_of code) p (n + 1 + size body) otherwise rest next within.1 (omega arith) end to in
      let there2 : Grows e2 (code_of code) = grows_both e2 (with_all code.widths next e2 otherwise) (code_of code) (grows_all code.widths next e2 otherwise) grown in
      let there : Grows e1 (code_of code) = grows_both e1 e2 (code_of code) (grows_all code.widths next e1 body) there2 in
      let made = λ (s : Span). node.Branch s (first_of (n + 1) body next) (first_of (n + 1 + size body) otherwise next) in
      let done1 = done_node code p (with_ops e ops) _ there (
        n,
        (
          c,
          (
            rest,
            (
              left,
              computes_there code e ops made (λ values. own_value code.widths values c) (registers_of c) there (own_computes code.widths c sound.0),
              inl (body, (otherwise, (at, l1.left, l2.left))),
              l1.own,
              l2.own,
            ),
          ),
        ),
      ) done in
      let done2 = done_all code p next e1 body rest sound.1 (subst (λ k. Placed (design_of code) k body rest) (sym one) within.0) (omega arith) (omega arith) to there2 done1 in
      done_all code p next e2 otherwise rest sound.2 (subst (λ k. Placed (design_of code) k otherwise rest) (sym two) within.1) (omega arith) (omega arith) to grown done2
  done_statement code p next e (While c body) rest sound at left within lo hi to grown done =
      let n = length e.nodes in
      let ops = own_code code.widths c in
      let e1 = while_node code.widths e c body next in
      let one : length e1.nodes ≡ n + 1 = length_node e _ in
      let back : Leads (design_of code) p n (At n ∷ rest) = record { left = left; own = inl (lo, omega arith) } in
      let l = leads (design_of code) p (n + 1) body (At n ∷ rest) n within (omega arith) hi back in
      let there : Grows e1 (code_of code) = grows_both e1 (with_all code.widths n e1 body) (code_of code) (grows_all code.widths n e1 body) grown in
      let made = λ (s : Span). node.Branch s (first_of (n + 1) body n) next in
      let done1 = done_node code p (with_ops e ops) _ there (
        n,
        (
          c,
          (
            rest,
            (
              left,
              computes_there code e ops made (λ values. own_value code.widths values c) (registers_of c) there (own_computes code.widths c sound.0),
              inr (body, (at, l.left, to.left)),
              l.own,
              to.own,
            ),
          ),
        ),
      ) done in
      done_all code p n e1 body (At n ∷ rest) sound.1 (subst (λ k. Placed (design_of code) k body (At n ∷ rest)) (sym one) within) (omega arith) (omega arith) back grown done1
  done_statement code p next e (Print task format arguments) rest sound at left within lo hi to grown done =
      done_print task code p next e format arguments rest sound.0 sound.1 at left to grown done
  done_statement code p next e Finish rest sound at left within lo hi to grown done =
      done_node code p e (node.Finish next) grown (length e.nodes, (next_left code p (length e.nodes) next rest left to, at, to.own)) done

  pub done_all : (code : Compiled) (p after : ℕ) (e : Emitted) (ss : Statements) (rest : Remainder) → AreSoundStatements code.widths ss
      → Placed (design_of code) (length e.nodes) ss rest
      → first_place (design_of code) p ≤ length e.nodes
      → length e.nodes + size ss ≤ first_place (design_of code) (p + 1)
      → Leads (design_of code) p after rest
      → Grows (with_all code.widths after e ss) (code_of code)
      → Done code p (length e.nodes)
      → Done code p (length (with_all code.widths after e ss).nodes)
  done_all code p after e End rest sound placed lo hi to grown done = done
  done_all code p after e (Then s ss) rest (sound, others) (at, left, within, behind) lo hi to grown done =
      let n = length e.nodes in
      let m = n + 1 + length (inside s) in
      let next = first_of m ss after in
      let e1 = with_statement code.widths next e s in
      let long : length e1.nodes ≡ m = length_statement code.widths next e s in
      let end : m + size ss ≤ first_place (design_of code) (p + 1) = omega (arith, length-append (inside s) (all_of ss)) in
      let l = leads (design_of code) p m ss rest after behind (omega arith) end to in
      let there : Grows e1 (code_of code) = grows_both e1 (with_all code.widths after e1 ss) (code_of code) (grows_all code.widths after e1 ss) grown in
      let done1 = done_statement code p next e s (parts m ss ++ rest) sound at left within lo (omega arith) l there done in
      done_all code p after e1 ss rest others (subst (λ k. Placed (design_of code) k ss rest) (sym long) behind) (omega arith) (omega arith) to grown done1
