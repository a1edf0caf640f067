use Rattle.std.proofs.Common.{◌≡◌, None, rules}
use Rattle.scopes.specs.Scopes.{meaning, scope_names}
use Rattle.scopes.proofs.Adding.{declared_more}
use Rattle.scopes.proofs.scope.NameScope.declare.Goals as goal

pub returns-clause-added : goal.returns-clause-added
returns-clause-added c =
    let none : meaning (scope_names c.args.self.now) c.args.name.now ≡ None = search rules in
    declared_more c.args.self.now.names.entries c.insert.new.self.entries c.in_ok-copied.field-0 c.args.name.now c.args.found c.in_ok-copied.ensures none c.in_ok-insert.ensures.entries
