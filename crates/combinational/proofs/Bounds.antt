-- The registers of sound statements are those of the design, and a body is no longer than all statements.
use Rattle.std.proofs.Common.{◌≡◌, ℕ, zero, suc, ◌<◌, ◌≤◌, Bool, true, false, List, [], ◌∷◌, ◌++◌, ◌⊎◌, inl, inr, ⊎_elim, map, length, drop, refl, sym, ap, ◌∙◌, ◌==◌, arith, get_or}
use Rattle.std.specs.Prelude.{◌||◌, not, ◌&&◌, slice_index_or}
use Rattle.std.proofs.lemmas.Bool.{eqb-true}
use Rattle.model.specs.Syntax.{Expression, Register, Select, Literal, Concat, Unary, Binary, Conditional, Extend, Expressions, Nothing, Also, registers_of, all_registers_of}
use Rattle.model.specs.Design.{Process, Statement, Empty, Assign, AssignAfter, AssignLater, Now, Delay, Await, If, While, Print, Finish, Statements, End, Then}
use Rattle.model.specs.Turns.{contains}
use Rattle.model.specs.TurnCases.{all_but}
use Rattle.design.specs.declared.tree.Process as trees
use Rattle.design.specs.DesignTrees.{process_of}
use Rattle.design.specs.Sound.{IsSoundExpression, AreSoundExpressions, IsSoundStatement, AreSoundStatements}
use Rattle.phases.specs.Combinational.{reads_one, reads, written_one, written}
use Rattle.phases.proofs.Blocks.{append_tells}
use Rattle.combinational.proofs.Lists.{all_but_is}

either : (a b : Bool) → (a || b) ≡ true → a ≡ true ⊎ b ≡ true
either true b h = inl refl
either false b h = inr h

both : (a b : Bool) → (a && b) ≡ true → (a ≡ true) × (b ≡ true)
both true b h = (refl, h)
both false b h = cc

pub in_either : (xs ys : List ℕ) (r : ℕ) → contains (xs ++ ys) r ≡ true → contains xs r ≡ true ⊎ contains ys r ≡ true
in_either xs ys r h = either (contains xs r) (contains ys r) (sym (append_tells xs ys r) ∙ h)

one_of : (q r : ℕ) (n : ℕ) → q < n → (q == r || false) ≡ true → r < n
one_of q r n lt h = here (q == r) refl h
  where
    here : (b : Bool) → (q == r) ≡ b → (b || false) ≡ true → r < n
    here true is h =
        let same : q ≡ r = eqb-true q r is in
        omega (arith, lt, same)
    here false is h = cc

mutual
  expression_bound : (widths : List ℕ) (e : Expression ℕ) (r : ℕ) → IsSoundExpression widths e → contains (registers_of e) r ≡ true → r < length widths
  expression_bound widths (Register q) r sound h = one_of q r (length widths) sound h
  expression_bound widths (Select q i) r sound h = one_of q r (length widths) sound h
  expression_bound widths (Literal v) r sound h = cc
  expression_bound widths (Concat es) r sound h = expressions_bound widths es r sound.2 h
  expression_bound widths (Unary op e) r sound h = expression_bound widths e r sound h
  expression_bound widths (Extend by size e) r sound h = expression_bound widths e r sound.2 h
  expression_bound widths (Binary op e f) r sound h =
      ⊎_elim (λ there. expression_bound widths e r sound.0 there) (λ there. expression_bound widths f r sound.1 there) (in_either (registers_of e) (registers_of f) r h)
  expression_bound widths (Conditional c e f) r sound h =
      ⊎_elim (λ there. expression_bound widths c r sound.0 there)
      (λ there. ⊎_elim (λ one. expression_bound widths e r sound.1 one) (λ two. expression_bound widths f r sound.2 two) (in_either (registers_of e) (registers_of f) r there))
      (in_either (registers_of c) (registers_of e ++ registers_of f) r h)

  expressions_bound : (widths : List ℕ) (es : Expressions ℕ) (r : ℕ) → AreSoundExpressions widths es → contains (all_registers_of es) r ≡ true → r < length widths
  expressions_bound widths Nothing r sound h = cc
  expressions_bound widths (Also e es) r sound h =
      ⊎_elim (λ there. expression_bound widths e r sound.0 there) (λ there. expressions_bound widths es r sound.1 there) (in_either (registers_of e) (all_registers_of es) r h)

-- what is written

mutual
  written_one_bound : (widths : List ℕ) (s : Statement) (r : ℕ) → IsSoundStatement widths s → contains (written_one s) r ≡ true → r < length widths
  written_one_bound widths Empty r sound h = cc
  written_one_bound widths (Assign q e) r sound h = one_of q r (length widths) sound.0 h
  written_one_bound widths (AssignAfter q d e) r sound h = cc
  written_one_bound widths (AssignLater q d e) r sound h = cc
  written_one_bound widths (Now q) r sound h = cc
  written_one_bound widths (Delay d body) r sound h = cc
  written_one_bound widths (Await ts body) r sound h = cc
  written_one_bound widths (If c body otherwise) r sound h =
      ⊎_elim (λ there. written_bound widths body r sound.1 there) (λ there. written_bound widths otherwise r sound.2 there) (in_either (written body) (written otherwise) r h)
  written_one_bound widths (While c body) r sound h = cc
  written_one_bound widths (Print task format arguments) r sound h = cc
  written_one_bound widths Finish r sound h = cc

  pub written_bound : (widths : List ℕ) (ss : Statements) (r : ℕ) → AreSoundStatements widths ss → contains (written ss) r ≡ true → r < length widths
  written_bound widths End r sound h = cc
  written_bound widths (Then s ss) r sound h =
      ⊎_elim (λ there. written_one_bound widths s r sound.0 there) (λ there. written_bound widths ss r sound.1 there) (in_either (written_one s) (written ss) r h)

-- what is read

mutual
  reads_one_bound : (widths : List ℕ) (s : Statement) (later : List ℕ) (r : ℕ) → IsSoundStatement widths s → (contains later r ≡ true → r < length widths) → contains (reads_one s later) r ≡ true → r < length widths
  reads_one_bound widths Empty later r sound rest h = rest h
  reads_one_bound widths (Assign q e) later r sound rest h =
      ⊎_elim (λ there. expression_bound widths e r sound.1 there) (λ there. rest (both (not (q == r)) (contains later r) (sym (all_but_is q r later) ∙ there)).1) (in_either (registers_of e) (all_but q later) r h)
  reads_one_bound widths (AssignAfter q d e) later r sound rest h = rest h
  reads_one_bound widths (AssignLater q d e) later r sound rest h = rest h
  reads_one_bound widths (Now q) later r sound rest h = rest h
  reads_one_bound widths (Delay d body) later r sound rest h = rest h
  reads_one_bound widths (Await ts body) later r sound rest h = rest h
  reads_one_bound widths (If c body otherwise) later r sound rest h =
      ⊎_elim (λ there. expression_bound widths c r sound.0 there)
      (λ there. ⊎_elim (λ one. reads_bound widths body later r sound.1 rest one) (λ two. reads_bound widths otherwise later r sound.2 rest two) (in_either (reads body later) (reads otherwise later) r there))
      (in_either (registers_of c) (reads body later ++ reads otherwise later) r h)
  reads_one_bound widths (While c body) later r sound rest h = rest h
  reads_one_bound widths (Print task format arguments) later r sound rest h = rest h
  reads_one_bound widths Finish later r sound rest h = rest h

  pub reads_bound : (widths : List ℕ) (ss : Statements) (later : List ℕ) (r : ℕ) → AreSoundStatements widths ss → (contains later r ≡ true → r < length widths) → contains (reads ss later) r ≡ true → r < length widths
  reads_bound widths End later r sound rest h = rest h
  reads_bound widths (Then s ss) later r sound rest h = reads_one_bound widths s (reads ss later) r sound.0 (λ there. reads_bound widths ss later r sound.1 rest there) h

-- a process of the tree

pub process_there : (ps : List trees.Process) (p : ℕ) (x : trees.Process) (d : Process) → p < length ps → x ≡ get_or ps p x → slice_index_or (map process_of ps) p d ≡ process_of x
process_there [] p x d lt is = absurd (omega (arith, lt))
process_there (y ∷ ps) zero x d lt is = ap process_of (sym is)
process_there (y ∷ ps) (suc p) x d lt is = process_there ps p x d (omega (arith, lt)) is

pub length-drop : (n : ℕ) (xs : List Statement) → length (drop n xs) ≤ length xs
length-drop zero xs = omega arith
length-drop (suc n) [] = omega arith
length-drop (suc n) (x ∷ xs) = omega (arith, length-drop n xs)
