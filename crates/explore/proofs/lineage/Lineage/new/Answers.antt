use Rattle.std.proofs.Common.{ap}
use Rattle.explore.specs.Pieces.{pieces}
use Rattle.explore.proofs.Rows.{AreRows-none}
use Rattle.explore.proofs.Steps.{gone, none_steps}
use Rattle.explore.proofs.lineage.Lineage.new.Goals as goal

pub returns-clause-lineage : goal.returns-clause-lineage
returns-clause-lineage g c =
    record { whole = AreRows-none c.new.result.arena.items c.new.result.rows.items c.new.ensures; after = none_steps (pieces c.new.result) c.new.ensures }

pub returns-clause-ways : goal.returns-clause-ways
returns-clause-ways g c = ap (λ l. gone l) c.new.ensures
