-- The code of statements begins with what was there, and has a node more for each statement.
use Rattle.std.proofs.Common.{◌≡◌, ℕ, ◌+◌, List, [], ◌∷◌, ◌++◌, length, sym, ap, ◌∙◌, arith, length-append}
use Rattle.std.specs.Prelude.{slice_index}
use Rattle.model.specs.declared.tree.Task.{Task}
use Rattle.model.specs.Syntax.{Expression, Expressions}
use Rattle.model.specs.Design.{Statement, Empty, Assign, AssignAfter, AssignLater, Now, Delay, Await, If, While, Print, Finish, Statements, End, Then, Trigger, inside, all_of, size}
use Rattle.model.specs.Syntax.{Piece}
use Rattle.design.specs.declared.code.Node.{Node}
use Rattle.design.specs.declared.code.Node.TheVariants as node
use Rattle.design.specs.Generate.{own_code, assigned_code}
use Rattle.design.specs.Emit.{Emitted, with_node, with_control, with_valued, with_line_code, with_print, with_statement, with_all, first_of}
use Rattle.design.proofs.Growing.{Grows, grows_same, grows_both, grows_node, grows_control, grows_valued, grows_line, line_nodes}

-- the node of a statement that has others inside it
abbrev pub delay_node : Emitted → ℕ → Statements → ℕ → Emitted
delay_node e delay body next = with_node e (node.Delay delay (first_of (length e.nodes + 1) body next))

abbrev pub await_node : Emitted → List Trigger → Statements → ℕ → Emitted
await_node e triggers body next = with_node (with_control e triggers) (node.Await (length e.controls) (first_of (length e.nodes + 1) body next))

abbrev pub if_node : List ℕ → Emitted → Expression ℕ → Statements → Statements → ℕ → Emitted
if_node widths e c body otherwise next =
    with_valued e (own_code widths c)
    (λ s. node.Branch s (first_of (length e.nodes + 1) body next) (first_of (length e.nodes + 1 + size body) otherwise next))

abbrev pub while_node : List ℕ → Emitted → Expression ℕ → Statements → ℕ → Emitted
while_node widths e c body next =
    with_valued e (own_code widths c) (λ s. node.Branch s (first_of (length e.nodes + 1) body (length e.nodes)) next)

pub grows_print : (task : Task) (widths : List ℕ) (e : Emitted) (ps : List Piece) (es : Expressions ℕ) (next : ℕ) → Grows e (with_print task e (with_line_code widths e ps es) next)
grows_print task widths e ps es next =
    let e1 = with_line_code widths e ps es in
    grows_both e e1 (with_print task e e1 next) (grows_line widths e ps es)
    (grows_node e1 (node.Print task (record { from = length e.shown; to = length e1.shown }) next))

mutual
  pub grows_statement : (widths : List ℕ) (next : ℕ) (e : Emitted) (s : Statement) → Grows e (with_statement widths next e s)
  grows_statement widths next e Empty = grows_node e (node.Skip next)
  grows_statement widths next e (Assign r x) = grows_valued e (assigned_code widths r x) (λ s. node.Assign r s next)
  grows_statement widths next e (AssignAfter r d x) = grows_valued e (assigned_code widths r x) (λ s. node.AssignAfter r d s next)
  grows_statement widths next e (AssignLater r d x) = grows_valued e (assigned_code widths r x) (λ s. node.AssignLater r d s next)
  grows_statement widths next e (Now r) = grows_node e (node.Now r (slice_index widths r) next)
  grows_statement widths next e (Delay d body) =
      let e1 = delay_node e d body next in
      grows_both e e1 (with_all widths next e1 body) (grows_node e (node.Delay d (first_of (length e.nodes + 1) body next))) (grows_all widths next e1 body)
  grows_statement widths next e (Await triggers body) =
      let e0 = with_control e triggers in
      let e1 = await_node e triggers body next in
      grows_both e e0 (with_all widths next e1 body) (grows_control e triggers)
      (grows_both e0 e1 (with_all widths next e1 body) (grows_node e0 (node.Await (length e.controls) (first_of (length e.nodes + 1) body next))) (grows_all widths next e1 body))
  grows_statement widths next e (If c body otherwise) =
      let e1 = if_node widths e c body otherwise next in
      let e2 = with_all widths next e1 body in
      grows_both e e1 (with_all widths next e2 otherwise)
      (grows_valued e (own_code widths c) (λ s. node.Branch s (first_of (length e.nodes + 1) body next) (first_of (length e.nodes + 1 + size body) otherwise next)))
      (grows_both e1 e2 (with_all widths next e2 otherwise) (grows_all widths next e1 body) (grows_all widths next e2 otherwise))
  grows_statement widths next e (While c body) =
      let e1 = while_node widths e c body next in
      grows_both e e1 (with_all widths (length e.nodes) e1 body)
      (grows_valued e (own_code widths c) (λ s. node.Branch s (first_of (length e.nodes + 1) body (length e.nodes)) next))
      (grows_all widths (length e.nodes) e1 body)
  grows_statement widths next e (Print task ps es) = grows_print task widths e ps es next
  grows_statement widths next e Finish = grows_node e (node.Finish next)

  pub grows_all : (widths : List ℕ) (after : ℕ) (e : Emitted) (ss : Statements) → Grows e (with_all widths after e ss)
  grows_all widths after e End = grows_same e
  grows_all widths after e (Then s ss) =
      let next = first_of (length e.nodes + 1 + length (inside s)) ss after in
      let e1 = with_statement widths next e s in
      grows_both e e1 (with_all widths after e1 ss) (grows_statement widths next e s) (grows_all widths after e1 ss)

pub length_node : (e : Emitted) (n : Node) → length (with_node e n).nodes ≡ length e.nodes + 1
length_node e n = length-append e.nodes (n ∷ [])

length_leaf : (xs : List Node) (n : Node) → length (xs ++ n ∷ []) ≡ length xs + 1 + 0
length_leaf xs n = omega (arith, length-append xs (n ∷ []))

add_none : (n : ℕ) → n + 0 ≡ n
add_none n = omega arith

mutual
  pub length_statement : (widths : List ℕ) (next : ℕ) (e : Emitted) (s : Statement) → length (with_statement widths next e s).nodes ≡ length e.nodes + 1 + length (inside s)
  length_statement widths next e Empty = length_leaf e.nodes _
  length_statement widths next e (Assign r x) = length_leaf e.nodes _
  length_statement widths next e (AssignAfter r d x) = length_leaf e.nodes _
  length_statement widths next e (AssignLater r d x) = length_leaf e.nodes _
  length_statement widths next e (Now r) = length_leaf e.nodes _
  length_statement widths next e (Delay d body) =
      length_all widths next (delay_node e d body next) body ∙ ap (λ k. k + size body) (length-append e.nodes _)
  length_statement widths next e (Await triggers body) =
      length_all widths next (await_node e triggers body next) body ∙ ap (λ k. k + size body) (length-append e.nodes _)
  length_statement widths next e (If c body otherwise) =
      let e1 = if_node widths e c body otherwise next in
      let first : length e1.nodes ≡ length e.nodes + 1 = length-append e.nodes _ in
      let second = length_all widths next e1 body in
      let third = length_all widths next (with_all widths next e1 body) otherwise in
      third ∙ omega (arith, first, second, length-append (all_of body) (all_of otherwise))
  length_statement widths next e (While c body) =
      length_all widths (length e.nodes) (while_node widths e c body next) body ∙ ap (λ k. k + size body) (length-append e.nodes _)
  length_statement widths next e (Print task ps es) =
      let e1 = with_line_code widths e ps es in
      length_leaf e1.nodes (node.Print task (record { from = length e.shown; to = length e1.shown }) next) ∙ ap (λ l. length l + 1 + 0) (line_nodes widths e ps es)
  length_statement widths next e Finish = length_leaf e.nodes _

  pub length_all : (widths : List ℕ) (after : ℕ) (e : Emitted) (ss : Statements) → length (with_all widths after e ss).nodes ≡ length e.nodes + size ss
  length_all widths after e End = sym (add_none (length e.nodes))
  length_all widths after e (Then s ss) =
      let next = first_of (length e.nodes + 1 + length (inside s)) ss after in
      let e1 = with_statement widths next e s in
      length_all widths after e1 ss ∙ omega (arith, length_statement widths next e s, length-append (inside s) (all_of ss))
