-- The plain tree of the statements that have parts.
use Rattle.std.proofs.Common.{◌≡◌, Bool, true, List, [], ◌∷◌, ◌++◌, refl, ap, sym, ◌∙◌}
use Rattle.model.specs.Design as model
use Rattle.model.specs.Design.{Assign, Await, Statements, End, Then, Trigger}
use Rattle.model.specs.Elaboration.{followed_by}
use Rattle.design.specs.DesignTrees.{statement_of, statements_of, expression_of, statement_node, process_of}
use Rattle.design.specs.declared.tree.Process as trees
use Rattle.design.specs.declared.tree.Statement.{Statement, fold-roll-Statement}
use Rattle.design.specs.declared.tree.Statement.TheOpen.{Statement-F}
use Rattle.design.specs.declared.tree.Statement.TheVariants as form
use Rattle.design.specs.declared.tree.Statement.TheViews as view
use Rattle.design.specs.declared.tree.Statement.TheVariants.{rolls-Assign, rolls-Await}

pub viewed_assign : (s : Statement) (r : _) (e : _) → s ≡ form.Assign r e → statement_of s ≡ Assign r (expression_of e)
viewed_assign s r e is = ap statement_of (is ∙ sym (rolls-Assign r e)) ∙ fold-roll-Statement model.Statement statement_node (Statement-F.Assign r e)

pub viewed_await : (s : Statement) (ts : _) (b : _) → s ≡ view.Await ts b → statement_of s ≡ Await ts.items (statements_of b.items)
viewed_await s ts b is = ap statement_of is ∙ ap statement_of (sym (rolls-Await ts b)) ∙ fold-roll-Statement model.Statement statement_node (Statement-F.Await ts b)

-- a process that repeats, with a last statement

with_last : (ss : List Statement) (s : Statement) → statements_of (ss ++ s ∷ []) ≡ followed_by (statements_of ss) (Then (statement_of s) End)
with_last [] s = refl
with_last (x ∷ ss) s = ap (λ others. Then (statement_of x) others) (with_last ss s)

same_process : (repeats : Bool) (b c : Statements) → repeats ≡ true → b ≡ c → ◌≡◌ {A = model.Process} (record { repeats = repeats; body = b }) (record { repeats = true; body = c })
same_process repeats b c again same = rw (again, same) refl

pub ends_waiting : (x : trees.Process) (before : List Statement) (last : Statement) (ts : List Trigger) (behind : Statements) → x.repeats ≡ true → x.body.items ≡ before ++ last ∷ [] → statement_of last ≡ Await ts behind
    → process_of x ≡ record { repeats = true; body = followed_by (statements_of before) (Then (Await ts behind) End) }
ends_waiting x before last ts behind repeats is waits =
    same_process x.repeats (statements_of x.body.items) (followed_by (statements_of before) (Then (Await ts behind) End)) repeats
    (ap statements_of is ∙ with_last before last ∙ ap (λ s. followed_by (statements_of before) (Then s End)) waits)
