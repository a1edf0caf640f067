-- The plain tree of each form of statement that has others inside it.
use Rattle.std.proofs.Common.{◌≡◌, ℕ, ◌+◌, List, length, refl, subst, ap, sym, ◌∙◌, length-append}
use Rattle.std.proofs.Common.{Result, Ok, Err, OnOk}
use Rattle.model.specs.Design as model
use Rattle.model.specs.Design.{If, inside, size, all_of}
use Rattle.design.specs.DesignTrees.{statement_of, statements_of, expression_of, statement_node}
use Rattle.design.specs.declared.extents.Extent.{Extent}
use Rattle.design.specs.Sound.{IsSoundStatement, AreSoundStatements}
use Rattle.design.specs.Extents.{AreMeasured, AreMeasuredInside}
use Rattle.design.specs.declared.tree.Statement.{Statement, fold-roll-Statement}
use Rattle.design.specs.declared.tree.Statement.TheOpen.{Statement-F}
use Rattle.design.specs.declared.tree.Statement.TheViews as view
use Rattle.design.specs.declared.tree.Statement.TheVariants.{rolls-If}

pub viewed_if : (s : Statement) (c : _) (b o : _) → s ≡ view.If c b o → statement_of s ≡ If (expression_of c) (statements_of b.items) (statements_of o.items)
viewed_if s c b o e = ap statement_of e ∙ ap statement_of (sym (rolls-If c b o)) ∙ fold-roll-Statement model.Statement statement_node (Statement-F.If c b o)

-- the first body of a choice
pub first_body : (widths : List ℕ) (table : List Extent) (n : ℕ) (s : Statement) (c : _) (b o : _) (xs : List Statement) (m : ℕ) → s ≡ view.If c b o → IsSoundStatement widths (statement_of s) → AreMeasuredInside table n (statement_of s) → xs ≡ b.items → m ≡ n + 1 → AreSoundStatements widths (statements_of xs) × AreMeasured table m (statements_of xs)
first_body widths table n s c b o xs m e sound measured same there =
    let v = viewed_if s c b o e in
    let both : AreSoundStatements widths (statements_of b.items) × AreMeasured table (n + 1) (statements_of b.items) =
    ((subst (λ t. IsSoundStatement widths t) v sound).1, (subst (λ t. AreMeasuredInside table n t) v measured).0) in
    rw (same, there) both

-- and the second
pub second_body : (widths : List ℕ) (table : List Extent) (n : ℕ) (s : Statement) (c : _) (b o : _) (xs ys : List Statement) (m : ℕ) → s ≡ view.If c b o → IsSoundStatement widths (statement_of s) → AreMeasuredInside table n (statement_of s) → xs ≡ b.items → ys ≡ o.items → m ≡ n + 1 + size (statements_of xs) → AreSoundStatements widths (statements_of ys) × AreMeasured table m (statements_of ys)
second_body widths table n s c b o xs ys m e sound measured same also there =
    let v = viewed_if s c b o e in
    let both : AreSoundStatements widths (statements_of o.items) × AreMeasured table (n + 1 + size (statements_of b.items)) (statements_of o.items) =
    ((subst (λ t. IsSoundStatement widths t) v sound).2, (subst (λ t. AreMeasuredInside table n t) v measured).1) in
    rw (also, there, same) both

-- how many statements stand in both
pub length_both : (s : Statement) (c : _) (b o : _) (xs ys : List Statement) → s ≡ view.If c b o → xs ≡ b.items → ys ≡ o.items → length (inside (statement_of s)) ≡ size (statements_of xs) + size (statements_of ys)
length_both s c b o xs ys e same also =
    ap (λ t. length (inside t)) (viewed_if s c b o e) ∙ length-append (all_of (statements_of b.items)) (all_of (statements_of o.items)) ∙ rw (same, also) refl

pub on_ok : {A E : Type 0} → {p q : Type 0} → (r : Result A E) → (p → q) → OnOk r p → OnOk r q
on_ok (Ok x) f h = f h
on_ok (Err e) f h = h
