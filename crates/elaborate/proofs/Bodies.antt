-- Statements one after another.
use Rattle.std.proofs.Common.{◌≡◌, List, [], ◌∷◌, ◌++◌, map, refl, ap}
use Rattle.model.specs.Design.{Statements, End, Then}
use Rattle.model.specs.Elaboration.{Declared, alone, all_resolved, followed_by, resolved}
use Rattle.model.specs.Syntax.{Text, Expression, Also}
use Rattle.model.specs.SourceTrees as source
use Rattle.design.specs.DesignTrees as tree
use Rattle.design.specs.declared.tree.Statement as program
use Rattle.design.specs.DesignTrees.{statement_of, statements_of}

pub one_more : (ss : List program.Statement) (s : program.Statement) → statements_of (ss ++ s ∷ []) ≡ followed_by (statements_of ss) (alone (statement_of s))
one_more [] s = refl
one_more (t ∷ ss) s = ap (Then (statement_of t)) (one_more ss s)

pub followed_by_assoc : (a b c : Statements) → followed_by (followed_by a b) c ≡ followed_by a (followed_by b c)
followed_by_assoc End b c = refl
followed_by_assoc (Then s a) b c = ap (Then s) (followed_by_assoc a b c)

pub followed_by_end : (a : Statements) → followed_by a End ≡ a
followed_by_end End = refl
followed_by_end (Then s a) = ap (Then s) (followed_by_end a)

pub resolved_are : (ds : List Declared) (es : List (Expression Text)) → all_resolved ds (source.source_expressions es) ≡ tree.expressions (map (resolved ds) es)
resolved_are ds [] = refl
resolved_are ds (e ∷ es) = ap (Also (resolved ds e)) (resolved_are ds es)
