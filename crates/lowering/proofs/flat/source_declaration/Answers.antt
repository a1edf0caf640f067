use Rattle.std.proofs.Common.{◌∙◌, ap}
use Rattle.lowering.specs.Flat.{source_range, declared_as}
use Rattle.lowering.proofs.flat.source_declaration.Goals as goal

pub returns : goal.returns
returns c = c.in_ok-made.ensures ∙ ap (declared_as c.args.name.now) (c.source_range.ensures ∙ ap (source_range c.args.object.now.range) c.in-Some.ensures)
