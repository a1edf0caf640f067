-- It stands in none where no scope has the full name.
use Rattle.std.proofs.Common.{◌∙◌, ap, not}
use Rattle.waves.proofs.ScopedLaws.{any_has}
use Rattle.waves.proofs.scoped.is_home.Goals as goal

pub returns-in-None : goal.returns-in-None
returns-in-None c = rw c.in-None.is (ap not (c.any_has_path.ensures ∙ any_has c.args.scopes.now c.args.home.now))
