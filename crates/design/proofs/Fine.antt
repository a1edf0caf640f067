-- The node of each statement is fine.
use Rattle.std.proofs.Common.{◌≡◌, ℕ, zero, suc, ◌+◌, ◌<◌, ◌≤◌, ◌⊎◌, ⊎_elim, inl, inr, List, [], ◌∷◌, ◌++◌, length, Some, refl, sym, ap, ◌∙◌, subst, arith, append_assoc}
use Rattle.std.proofs.lemmas.List.{append-nil}
use Rattle.std.specs.Prelude.{slice_get}
use Rattle.model.specs.Syntax.{Expressions, Nothing, Also, registers_of}
use Rattle.model.specs.Elaboration.{argument_count}
use Rattle.model.specs.Design.{first_place}
use Rattle.model.specs.Syntax.{Piece, Byte, Argument}
use Rattle.model.specs.Expressions.{own_value}
use Rattle.design.specs.declared.code.Node.{Node}
use Rattle.design.specs.declared.code.Op.{Op}
use Rattle.design.specs.declared.code.LinePiece.{LinePiece}
use Rattle.design.specs.declared.code.LinePiece.TheVariants as shown
use Rattle.design.specs.declared.code.Span.{Span}
use Rattle.design.specs.Sound.{AreSoundExpressions, how_many}
use Rattle.design.specs.ExpressionSteps.{Computes, span_of}
use Rattle.design.specs.CodePlaces.{remainder_at}
use Rattle.design.specs.Compiled.{Compiled, design_of}
use Rattle.design.specs.Meaning.{IsFine, IsLine}
use Rattle.design.specs.Generate.{own_code}
use Rattle.design.specs.Emit.{Emitted, with_node, with_ops, with_shown, with_valued, with_line_code, span_behind}
use Rattle.design.proofs.Generated.{own_computes}
use Rattle.design.proofs.Growing.{Begins, begins_both, Grows, grows_line, piece_there, element_there}
use Rattle.design.proofs.Emitted.{length_node}

-- the lists of a design's code
abbrev pub code_of : Compiled → Emitted
code_of code = record { nodes = code.nodes; ops = code.ops; shown = code.shown; controls = code.controls }

-- the node at a place is fine
abbrev pub FineAt : Compiled → ℕ → ℕ → Type 0
FineAt code p k = (n : Node) → slice_get code.nodes k ≡ Some n → IsFine code p n (remainder_at (design_of code) k)

-- and all from the first place of the process up to a place
abbrev pub Done : Compiled → ℕ → ℕ → Type 0
Done code p k = (j : ℕ) → first_place (design_of code) p ≤ j → j < k → FineAt code p j

last_or_before : (j k : ℕ) → j < k + 1 → (j < k) ⊎ (j ≡ k)
last_or_before zero zero h = inr refl
last_or_before zero (suc k) h = inl (omega arith)
last_or_before (suc j) zero h = absurd (omega arith)
last_or_before (suc j) (suc k) h = ⊎_elim (λ x. inl (omega (arith, x))) (λ x. inr (ap suc x)) (last_or_before j k (omega arith))

done_more : (code : Compiled) (p k : ℕ) → Done code p k → FineAt code p k → Done code p (k + 1)
done_more code p k done fine j lo lt =
    ⊎_elim (λ x. done j lo x) (λ x. subst (λ i. FineAt code p i) (sym x) fine) (last_or_before j k lt)

some_same : {A : Type 0} → (x y : A) → Some x ≡ Some y → x ≡ y
some_same x y e = cc

-- a node that was put behind the others is fine
pub done_node : (code : Compiled) (p : ℕ) (e : Emitted) (n : Node) → Grows (with_node e n) (code_of code) → IsFine code p n (remainder_at (design_of code) (length e.nodes)) → Done code p (length e.nodes) → Done code p (length (with_node e n).nodes)
done_node code p e n grown fine done =
    let there : slice_get code.nodes (length e.nodes) ≡ Some n = element_there e.nodes n code.nodes grown.nodes in
    let here : FineAt code p (length e.nodes) = λ m is. subst (λ x. IsFine code p x (remainder_at (design_of code) (length e.nodes))) (some_same n m (sym there ∙ is)) fine in
    subst (λ k. Done code p k) (sym (length_node e n)) (done_more code p (length e.nodes) done here)

-- the steps of a node are still there
pub computes_there : (code : Compiled) (e : Emitted) (ops : List Op) (made : Span → Node) (value : _) (reads : List ℕ) → Grows (with_valued e ops made) (code_of code) → Computes ops value reads → Computes (span_of code.ops (span_behind e.ops ops)) value reads
computes_there code e ops made value reads grown h =
    subst (λ l. Computes l value reads) (sym (piece_there e.ops ops code.ops grown.ops)) h

-- what a format adds to the pieces of lines
pub line_there : (code : Compiled) (e : Emitted) (ps : List Piece) (es : Expressions ℕ) → argument_count ps ≡ how_many es → AreSoundExpressions code.widths es → Begins (with_line_code code.widths e ps es).ops code.ops → (line : List LinePiece) × (((with_line_code code.widths e ps es).shown ≡ e.shown ++ line) × IsLine code.widths code.ops line ps es)
line_there code e [] Nothing count sound grown = ([], (sym (append-nil e.shown), tt))
line_there code e [] (Also x es) count sound grown = absurd (omega arith)
line_there code e (Byte b ∷ ps) es count sound grown =
    let s = shown.Byte b in
    let (line, (there, fine)) = line_there code (with_shown e s) ps es count sound grown in
    (s ∷ line, (there ∙ append_assoc e.shown (s ∷ []) line, (refl, fine)))
line_there code e (Argument c ∷ ps) Nothing count sound grown = absurd (omega arith)
line_there code e (Argument c ∷ ps) (Also x es) count (sound, others) grown =
    let ops = own_code code.widths x in
    let s = shown.Value c (span_behind e.ops ops) in
    let e1 = with_shown (with_ops e ops) s in
    let (line, (there, fine)) = line_there code e1 ps es (omega arith) others grown in
    let begun : Begins (e.ops ++ ops) code.ops = begins_both e1.ops (with_line_code code.widths e1 ps es).ops code.ops (grows_line code.widths e1 ps es).ops grown in
    let computes = subst (λ l. Computes l (λ values. own_value code.widths values x) (registers_of x)) (sym (piece_there e.ops ops code.ops begun)) (own_computes code.widths x sound) in
    (s ∷ line, (there ∙ append_assoc e.shown (s ∷ []) line, (refl, computes, fine)))
