-- How the program says that an operator takes its operands.
use Rattle.model.specs.Expressions as model
use Rattle.design.specs.declared.sizes.Sizing.{Sizing}
use Rattle.design.specs.declared.sizes.Sizing.TheVariants as sizing

-- the way that stands for it in the definitions
abbrev pub sizing_from : Sizing → model.Sizing
sizing_from sizing.BothAsked = model.BothAsked
sizing_from sizing.LeftAsked = model.LeftAsked
sizing_from sizing.Greatest = model.Greatest
sizing_from sizing.EachOwn = model.EachOwn
