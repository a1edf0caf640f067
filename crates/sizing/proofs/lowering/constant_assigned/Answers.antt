use Rattle.std.proofs.Common.{◌∙◌, max, ap, refl}
use Rattle.logic4.specs.Vector.{resize}
use Rattle.model.specs.SourceTrees.{source_expression_of}
use Rattle.syntax_tree.specs.Expressions.{plain_expression_of}
use Rattle.shaped_trees.specs.declared.shape.Shape.{Shape}
use Rattle.sizing.specs.Meanings.{meaning}
use Rattle.sizing.proofs.Worth.{assigned_is}
use Rattle.sizing.proofs.lowering.constant_assigned.Goals as goal

pub returns-in-Some : goal.returns-in-Some
returns-in-Some g c =
    let n = g.E.Environment.means c.args.environment.now in
    let m = meaning n (plain_expression_of c.args.e.now) in
    let found = c.in_ok-found.found in
    let worth = rw c.in-Some.is at c.in_ok-digits.ensures in
    assigned_is n m found.shape (record { width = c.greater.result; signed = c.shape-own.result.signed }) c.args.shape (source_expression_of found.tree)
    (record { digits = c.resize.result; signed = c.args.shape.signed }) c.in-Some.digits c.in_ok-found.ensures
    (c.greater.ensures ∙ ap (λ (s : Shape). max s.width c.args.shape.width) c.shape-own.ensures) (ap (λ (s : Shape). s.signed) c.shape-own.ensures)
    (worth n m c.in_ok-found.ensures) (c.resize.ensures.value ∙ ap (λ k. resize k c.in-Some.digits) c.get.ensures.value) refl
