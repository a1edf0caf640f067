use Rattle.std.proofs.Common.{string_bytes}
use Rattle.elaborate.proofs.Lookups.{inserted}
use Rattle.elaborate.proofs.names.add.Goals as goal

pub returns-clause-names : goal.returns-clause-names
returns-clause-names c =
    inserted string_bytes c.in_ok-from_str.field-0 c.args.name.now c.args.names.now.keys _ c.in_ok-from_str.ensures.ok c.requires c.in_ok-insert.ensures.keys
