use Rattle.std.proofs.Common.{rules, ◌<◌, length, subst, sym}
use Rattle.design.specs.declared.tree.Expression.{Expression}
use Rattle.design.specs.Sound.{IsSoundExpression}
use Rattle.design.specs.DesignTrees.{expression_of}
use Rattle.design.proofs.Lines.{sound_at}
use Rattle.design.proofs.emitter.Emitter.piece.Goals as goal

pub own-requires-clause-sound : goal.own-requires-clause-sound
own-requires-clause-sound c =
    let x = c.index-arguments-next.result in
    let lt : c.args.next < length c.args.arguments.now = search rules in
    subst (λ (e : Expression). IsSoundExpression c.args.widths.now (expression_of e)) (sym c.index-arguments-next.is)
    (sound_at c.args.widths.now c.args.arguments.now c.args.next x c.requires.sound lt)
