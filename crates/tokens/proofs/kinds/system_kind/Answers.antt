-- A system name of the table has its kind, and each other one is what is left.
use Rattle.std.proofs.Common.{sym, ap, ◌∙◌}
use Rattle.tokens.specs.declared.token.Kind.TheVariants.{System}
use Rattle.tokens.specs.Lexing.{or_kind}
use Rattle.tokens.proofs.Firsts.{system_is}
use Rattle.tokens.proofs.kinds.system_kind.Goals as goal

pub returns-in-Some : goal.returns-in-Some
returns-in-Some c = sym (system_is c.args.text.now c.requires ∙ ap (λ o. or_kind o System) (sym c.system_name.ensures ∙ c.in-Some.is))

pub returns : goal.returns
returns c = sym (system_is c.args.text.now c.requires ∙ ap (λ o. or_kind o System) (sym c.system_name.ensures ∙ c.in_default.is))
