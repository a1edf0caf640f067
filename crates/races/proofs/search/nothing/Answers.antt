-- A run of no entries.
use Rattle.std.proofs.Common.{refl}
use Rattle.runs.proofs.Comings.{no_run}
use Rattle.races.proofs.search.nothing.Goals as goal

pub returns : goal.returns
returns c code limits = no_run code limits _ c.new-2.ensures.items c.new.ensures.bytes refl
