-- The trees of concatenations and replications.
use Rattle.std.specs.Prelude.{◌≡◌, ℕ, suc, zero, ◌-◌, ◌==◌, if◌then◌else◌, List, [], ◌∷◌, map}
use Rattle.logic4.specs.declared.digit.Extension.TheVariants.{Sign}
use Rattle.model.specs.Syntax as core
use Rattle.model.specs.Syntax.{Text}
use Rattle.model.specs.SourceTrees.{source_expression_of, source_expressions}
use Rattle.model.specs.Elaboration.{all_resolved}
use Rattle.model.specs.Expressions as model
use Rattle.sizing.specs.declared.concatenations.JoinedParts.{JoinedParts}
use Rattle.sizing.specs.Names.{Names}
use Rattle.sizing.specs.Meanings.{Meaning, total_size, joined_digits}
use Rattle.shaped_trees.specs.Trees.{Registers, values_of, AllNamedIn}
use Rattle.sizing.specs.Typing.{IsWide}

-- the trees of parts, in their order
abbrev pub part_trees : JoinedParts → core.Expressions Text
part_trees p = core.Also (source_expression_of p.first) (source_expressions (map source_expression_of p.others.items))

abbrev pub concat_tree : JoinedParts → core.Expression Text
concat_tree p = core.Concat (part_trees p)

-- parts stand for meanings: their widths and digits together are those of the meanings
pub record JoinsIn (n : Names) (ms : List Meaning) (wide : ℕ) (trees : core.Expressions Text) : Type 0 where
  pub width : wide ≡ total_size ms
  pub size : (r : Registers) → AllNamedIn (IsWide n r) trees → model.total_size r.widths (all_resolved r.declared trees) ≡ wide
  pub value : (r : Registers) → AllNamedIn (IsWide n r) trees → model.joined r.widths r.store (all_resolved r.declared trees) ≡ joined_digits ms (values_of r)

abbrev pub Joins : Names → List Meaning → JoinedParts → Type 0
Joins n ms p = JoinsIn n ms p.width (part_trees p)

-- a tree so many times
abbrev pub copies_of : ℕ → core.Expression Text → List (core.Expression Text)
copies_of zero tree = []
copies_of (suc times) tree = tree ∷ copies_of times tree

-- a tree of a width so many times: one digit is its own sign
abbrev pub repeated_tree : ℕ → ℕ → core.Expression Text → core.Expression Text
repeated_tree own times tree =
    if own == 1 then core.Extend Sign times tree else core.Concat (core.Also tree (source_expressions (copies_of (times - 1) tree)))
