use Rattle.std.proofs.Common.{ap, ◌∙◌}
use Rattle.std.specs.Prelude.{string_bytes}
use Rattle.statement_parts.specs.Statements.{SourceText}
use Rattle.lowering.proofs.Variables.{hidden_push}
use Rattle.lowering.proofs.hidden.HiddenVariables.make.Goals as goal

pub returns-clause-made : goal.returns-clause-made
returns-clause-made c =
    hidden_push c.args.self.now.variables.items c.push.new.self.items (record { name = c.in_ok-kept.kept; width = c.args.width }) (string_bytes c.in_ok-name.name) c.args.width c.in_ok-push.ensures.items
    (ap (λ (text : SourceText). (text, c.args.width)) (c.in_ok-kept.ensures.ok ∙ c.as_str.ensures.value))
