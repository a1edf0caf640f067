use Rattle.std.proofs.Common.{option_map, ap}
use Rattle.hierarchy.specs.declared.parameters.Given.{Given}
use Rattle.hierarchy.proofs.parameters.value_among.Goals as goal

pub returns-in-Some : goal.returns-in-Some
returns-in-Some c = ap (option_map (λ (g : Given). g.value)) c.in-Some.ensures.value

pub returns-in-None : goal.returns-in-None
returns-in-None c = ap (option_map (λ (g : Given). g.value)) c.in-None.ensures.value
