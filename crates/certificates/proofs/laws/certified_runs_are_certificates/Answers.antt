-- Certified runs.
use Rattle.certificates.proofs.CertifiedRuns.{certified_is_certificate, certified_stands_for_all}
use Rattle.certificates.proofs.laws.certified_runs_are_certificates.Goals as goal

pub returns-clause-certificate : goal.returns-clause-certificate
returns-clause-certificate c = certified_is_certificate

pub returns-clause-stands : goal.returns-clause-stands
returns-clause-stands c = certified_stands_for_all
