use Rattle.std.proofs.Common.{ap, ◌∙◌}
use Rattle.scopes.specs.Scopes.{NameText}
use Rattle.hierarchy.specs.Given.{value_given}
use Rattle.hierarchy.proofs.parameters.Parameters.take.Goals as goal

pub returns-clause-value : goal.returns-clause-value
returns-clause-value c = c.given-given.ensures ∙ ap (λ (t : NameText). value_given c.args.self.now t) c.as_str.ensures.value
