use Rattle.std.proofs.Common.{ap, ◌∙◌}
use Rattle.std.specs.Prelude.{Option}
use Rattle.shaped_trees.specs.declared.constants.Constant.{Constant}
use Rattle.hierarchy.specs.Given.{first_value, value_among}
use Rattle.hierarchy.proofs.parameters.Parameters.given.Goals as goal

pub returns-in-Some : goal.returns-in-Some
returns-in-Some c =
    ap (λ (v : Option Constant). first_value v (value_among c.args.self.now.by_instance.entries c.args.full.now)) c.in-Some.ensures

pub returns-in-None : goal.returns-in-None
returns-in-None c =
    c.value_among-in-None.ensures ∙ ap (λ (v : Option Constant). first_value v (value_among c.args.self.now.by_instance.entries c.args.full.now)) c.in-None.ensures
