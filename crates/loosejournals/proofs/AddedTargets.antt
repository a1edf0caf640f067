-- The targets among statements, one statement after another.
use Rattle.std.proofs.Common.{◌≡◌, ℕ, ◌+◌, ◌<◌, List, ◌∷◌, ◌++◌, length, get_or, drop, sym, ap, ◌∙◌, append_assoc}
use Rattle.std.specs.List.{filter_map}
use Rattle.std.proofs.lemmas.List.{at_drop_more}
use Rattle.std.proofs.lemmas.List.Elements.{filter_map-append}
use Rattle.model.specs.Design as model
use Rattle.model.specs.Design.{inside, all_of}
use Rattle.design.specs.DesignTrees.{statement_of, statements_of}
use Rattle.design.specs.declared.tree.Statement.{Statement}
use Rattle.design.specs.declared.tree.Statement.TheViews as view
use Rattle.design.proofs.Views.{viewed_if}
use Rattle.loosejournals.specs.Classes.{target_of, targets_of}

-- those of a list of statements of the program's tree
abbrev pub targets_in : List Statement → List ℕ
targets_in ss = targets_of (statements_of ss)

-- those of a statement, itself and inside it
abbrev pub targets_at : Statement → List ℕ
targets_at s = filter_map target_of (statement_of s ∷ inside (statement_of s))

targets-cons : (s : Statement) (ss : List Statement) → targets_in (s ∷ ss) ≡ targets_at s ++ targets_in ss
targets-cons s ss = filter_map-append target_of (statement_of s ∷ inside (statement_of s)) (all_of (statements_of ss))

targets-drop : (ss : List Statement) (i : ℕ) (s : Statement) → i < length ss → s ≡ get_or ss i s → targets_in (drop i ss) ≡ targets_at s ++ targets_in (drop (i + 1) ss)
targets-drop ss i s lt is =
    at_drop_more targets_in ss i s lt ∙ (ap (λ (x : Statement). targets_in (x ∷ drop (i + 1) ss)) (sym is) ∙ targets-cons s (drop (i + 1) ss))

-- with those of one statement more
pub targets_more : (ss : List Statement) (i : ℕ) (s : Statement) (old new all : List ℕ) → i < length ss → s ≡ get_or ss i s → new ≡ old ++ targets_at s
    → old ++ targets_in (drop i ss) ≡ all → new ++ targets_in (drop (i + 1) ss) ≡ all
targets_more ss i s old new all lt is more before =
    ap (λ (ts : List ℕ). ts ++ targets_in (drop (i + 1) ss)) more
    ∙ (append_assoc old (targets_at s) (targets_in (drop (i + 1) ss)) ∙ (ap (λ (ts : List ℕ). old ++ ts) (sym (targets-drop ss i s lt is)) ∙ before))

-- those of the statements in a choice, one body after the other
pub targets_if : (s : Statement) (condition : _) (body otherwise : _) (xs ys : List Statement) (old one two : List ℕ) → s ≡ view.If condition body otherwise → xs ≡ body.items
    → ys ≡ otherwise.items → one ≡ old ++ targets_in xs → two ≡ one ++ targets_in ys → two ≡ old ++ targets_at s
targets_if s condition body otherwise xs ys old one two is these those first second =
    let inner : targets_at s ≡ targets_in body.items ++ targets_in otherwise.items =
    ap (λ (x : model.Statement). filter_map target_of (x ∷ inside x)) (viewed_if s condition body otherwise is)
    ∙ filter_map-append target_of (all_of (statements_of body.items)) (all_of (statements_of otherwise.items)) in
    second
    ∙ (ap (λ (ss : List Statement). one ++ targets_in ss) those
    ∙ (ap (λ (ts : List ℕ). ts ++ targets_in otherwise.items) (first ∙ ap (λ (ss : List Statement). old ++ targets_in ss) these)
    ∙ (append_assoc old (targets_in body.items) (targets_in otherwise.items) ∙ ap (λ (ts : List ℕ). old ++ ts) (sym inner))))
