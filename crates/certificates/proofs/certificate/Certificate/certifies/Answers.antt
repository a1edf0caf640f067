-- Notes that are ordered certify.
use Rattle.certificates.proofs.Ordering.{ordered_certifies}
use Rattle.certificates.proofs.certificate.Certificate.certifies.Goals as goal

pub returns-clause-certified : goal.returns-clause-certified
returns-clause-certified c = λ is. ordered_certifies c.args.self.now (rw (← c.self.view_is) (c.self.invariant.1 is))
