-- Certificates.
use Rattle.traces.proofs.Certificates as certificates
use Rattle.traces.proofs.CertifiedSets as sets
use Rattle.traces.proofs.laws.certificates_stand_for_all.Goals as goal

pub returns-clause-goes_on : goal.returns-clause-goes_on
returns-clause-goes_on g c = certificates.each_goes_on g.M.System.moves

pub returns-clause-ends : goal.returns-clause-ends
returns-clause-ends g c = certificates.certificate_stands_for_all g.M.System.moves

pub returns-clause-found : goal.returns-clause-found
returns-clause-found g c = sets.certificate_stands_for g.M.System.moves g.M.System.within
