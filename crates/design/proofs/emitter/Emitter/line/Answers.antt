use Rattle.std.proofs.Common.{refl, ◌∙◌, zero-add}
use Rattle.design.proofs.Lines.{how_many_there}
use Rattle.design.proofs.emitter.Emitter.line.Goals as goal

pub loop-piece-init : goal.loop-piece-init
loop-piece-init c = (refl, zero-add _ ∙ c.requires.count ∙ how_many_there c.args.arguments.now, refl)
