-- Where the notes are apart, so are the steps.
use Rattle.certificates.proofs.certificate.leads_or_is_apart.Goals as goal

pub returns-clause-own : goal.returns-clause-own
returns-clause-own c = λ is none. c.apart.ensures.so is
