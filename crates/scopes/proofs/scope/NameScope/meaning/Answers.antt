use Rattle.std.proofs.Common.{sym, ◌∙◌}
use Rattle.scopes.proofs.Adding.{meaning_is}
use Rattle.scopes.proofs.scope.NameScope.meaning.Goals as goal

pub returns : goal.returns
returns c = c.copied.ensures ∙ c.get.ensures.value ∙ sym (meaning_is c.args.self.now c.args.name.now)
