-- Certified runs come first.
use Rattle.certificates.proofs.Prefixes.{certified_is_prefix}
use Rattle.certificates.proofs.laws.certified_runs_come_first.Goals as goal

pub returns : goal.returns
returns c = certified_is_prefix
