-- Code grows: what was emitted stays where it is.
use Rattle.std.proofs.Common.{◌≡◌, ℕ, ◌-◌, ◌≤◌, ◌&&◌, if◌then◌else◌, nat_le, true, Bool, List, [], ◌∷◌, ◌++◌, length, take, drop, Some, refl, sym, ap, ◌∙◌, arith, length-append, append_assoc, le-leb}
use Rattle.std.proofs.lemmas.List.{append-nil}
use Rattle.std.specs.Prelude.{slice_get, slice_range}
use Rattle.model.specs.Syntax.{Expressions, Nothing, Also}
use Rattle.model.specs.Design.{Trigger}
use Rattle.model.specs.Syntax.{Piece, Byte, Argument}
use Rattle.design.specs.declared.code.Node.{Node}
use Rattle.design.specs.declared.code.Op.{Op}
use Rattle.design.specs.declared.code.LinePiece.{LinePiece}
use Rattle.design.specs.declared.code.LinePiece.TheVariants as shown
use Rattle.design.specs.declared.code.Span.{Span}
use Rattle.design.specs.ExpressionSteps.{span_of}
use Rattle.design.specs.Generate.{own_code}
use Rattle.design.specs.Emit.{Emitted, with_node, with_ops, with_shown, with_control, with_valued, with_line_code, span_behind}
use Rattle.design.proofs.Places.{drop-length-append, sits_there}

-- a list begins with another
abbrev pub Begins : {A : Type 0} → List A → List A → Type 0
Begins {A} xs ys = (more : List A) × (ys ≡ xs ++ more)

pub begins_same : {A : Type 0} → (xs : List A) → Begins xs xs
begins_same xs = ([], sym (append-nil xs))

pub begins_both : {A : Type 0} → (xs ys zs : List A) → Begins xs ys → Begins ys zs → Begins xs zs
begins_both xs ys zs (more, e) (rest, f) = (more ++ rest, f ∙ ap (λ l. l ++ rest) e ∙ append_assoc xs more rest)

take_length : {A : Type 0} → (xs ys : List A) → take (length xs) (xs ++ ys) ≡ xs
take_length [] ys = refl
take_length (x ∷ xs) ys = ap (λ l. x ∷ l) (take_length xs ys)

range_there : {A : Type 0} → (xs ys more : List A) → slice_range ((xs ++ ys) ++ more) (length xs) (length (xs ++ ys)) ≡ ys
range_there xs ys more =
    let long : length (xs ++ ys) - length xs ≡ length ys = omega (arith, length-append xs ys) in
    ap (λ k. take k (drop (length xs) ((xs ++ ys) ++ more))) long
    ∙ ap (λ l. take (length ys) (drop (length xs) l)) (append_assoc xs ys more)
    ∙ ap (take (length ys)) (drop-length-append xs (ys ++ more))
    ∙ take_length ys more

both_true : {A : Type 0} → (a b : Bool) (x y : List A) → a ≡ true → b ≡ true → (if a && b then x else y) ≡ x
both_true a b x y e f = rw (e, f) refl

-- a part that was there is still the same part
pub piece_there : {A : Type 0} → (xs ys zs : List A) → Begins (xs ++ ys) zs → span_of zs (record { from = length xs; to = length (xs ++ ys) }) ≡ ys
piece_there xs ys zs (more, e) =
    let first : length xs ≤ length (xs ++ ys) = omega (arith, length-append xs ys) in
    let second : length (xs ++ ys) ≤ length zs = omega (arith, length-append (xs ++ ys) more, ap length e) in
    both_true (nat_le (length xs) (length (xs ++ ys))) (nat_le (length (xs ++ ys)) (length zs)) (slice_range zs (length xs) (length (xs ++ ys))) [] (le-leb (length xs) (length (xs ++ ys)) first) (le-leb (length (xs ++ ys)) (length zs) second)
    ∙ ap (λ l. slice_range l (length xs) (length (xs ++ ys))) e
    ∙ range_there xs ys more

-- an element that was put behind a list is still there
pub element_there : {A : Type 0} → (xs : List A) (y : A) (zs : List A) → Begins (xs ++ y ∷ []) zs → slice_get zs (length xs) ≡ Some y
element_there xs y zs (more, e) =
    sits_there zs (length xs) y [] (more, ap (drop (length xs)) (e ∙ append_assoc xs (y ∷ []) more) ∙ drop-length-append xs (y ∷ more))

-- each list of the code begins with what it was
pub record Grows (e z : Emitted) : Type 0 where
  pub nodes : Begins e.nodes z.nodes
  pub ops : Begins e.ops z.ops
  pub shown : Begins e.shown z.shown
  pub controls : Begins e.controls z.controls

pub grows_same : (e : Emitted) → Grows e e
grows_same e = record { nodes = begins_same e.nodes; ops = begins_same e.ops; shown = begins_same e.shown; controls = begins_same e.controls }

pub grows_both : (e f g : Emitted) → Grows e f → Grows f g → Grows e g
grows_both e f g a b = record {
  nodes = begins_both e.nodes f.nodes g.nodes a.nodes b.nodes;
  ops = begins_both e.ops f.ops g.ops a.ops b.ops;
  shown = begins_both e.shown f.shown g.shown a.shown b.shown;
  controls = begins_both e.controls f.controls g.controls a.controls b.controls;
}

pub grows_node : (e : Emitted) (n : Node) → Grows e (with_node e n)
grows_node e n = record { nodes = (n ∷ [], refl); ops = begins_same e.ops; shown = begins_same e.shown; controls = begins_same e.controls }

pub grows_ops : (e : Emitted) (code : List Op) → Grows e (with_ops e code)
grows_ops e code = record { nodes = begins_same e.nodes; ops = (code, refl); shown = begins_same e.shown; controls = begins_same e.controls }

pub grows_shown : (e : Emitted) (s : LinePiece) → Grows e (with_shown e s)
grows_shown e s = record { nodes = begins_same e.nodes; ops = begins_same e.ops; shown = (s ∷ [], refl); controls = begins_same e.controls }

pub grows_control : (e : Emitted) (triggers : List Trigger) → Grows e (with_control e triggers)
grows_control e triggers = record { nodes = begins_same e.nodes; ops = begins_same e.ops; shown = begins_same e.shown; controls = (triggers ∷ [], refl) }

pub grows_valued : (e : Emitted) (code : List Op) (made : Span → Node) → Grows e (with_valued e code made)
grows_valued e code made = grows_both e (with_ops e code) (with_valued e code made) (grows_ops e code) (grows_node (with_ops e code) (made (span_behind e.ops code)))

pub grows_line : (widths : List ℕ) (e : Emitted) (ps : List Piece) (es : Expressions ℕ) → Grows e (with_line_code widths e ps es)
grows_line widths e [] es = grows_same e
grows_line widths e (Byte b ∷ ps) es =
    let e1 = with_shown e (shown.Byte b) in
    grows_both e e1 (with_line_code widths e1 ps es) (grows_shown e (shown.Byte b)) (grows_line widths e1 ps es)
grows_line widths e (Argument c ∷ ps) Nothing = grows_same e
grows_line widths e (Argument c ∷ ps) (Also x es) =
    let e1 = with_ops e (own_code widths x) in
    let s = shown.Value c (span_behind e.ops (own_code widths x)) in
    let e2 = with_shown e1 s in
    grows_both e e1 (with_line_code widths e2 ps es) (grows_ops e (own_code widths x))
    (grows_both e1 e2 (with_line_code widths e2 ps es) (grows_shown e1 s) (grows_line widths e2 ps es))

pub line_nodes : (widths : List ℕ) (e : Emitted) (ps : List Piece) (es : Expressions ℕ) → (with_line_code widths e ps es).nodes ≡ e.nodes
line_nodes widths e [] es = refl
line_nodes widths e (Byte b ∷ ps) es = line_nodes widths (with_shown e (shown.Byte b)) ps es
line_nodes widths e (Argument c ∷ ps) Nothing = refl
line_nodes widths e (Argument c ∷ ps) (Also x es) =
    line_nodes widths (with_shown (with_ops e (own_code widths x)) (shown.Value c (span_behind e.ops (own_code widths x)))) ps es
